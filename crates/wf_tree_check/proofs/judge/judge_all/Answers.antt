use Rattle.std.proofs.Common.{map, sym, ap, ◌∙◌, arith, vec_items}
use Rattle.std.proofs.lemmas.List.{length-map}
use Rattle.std.proofs.lemmas.Result.{err_from_is_err_and}
use Rattle.wf_tree_refine.specs.AtHand.{at_hand}
use Rattle.wf_tree_text.specs.Seen.{node_seen, nodes_seen}
use Rattle.wf_tree_check.specs.Judge.{ended, fault_of, judged}
use Rattle.wf_tree_check.proofs.Walking.{behind_is, ended_is, fault_is, refused_is}
use Rattle.wf_tree_check.proofs.judge.judge_all.Goals as goal

pub returns-in_err-end : goal.returns-in_err-end
returns-in_err-end c =
    let ns = nodes_seen c.args.nodes.now in
    let long = length-map c.args.nodes.now node_seen in
    let few = c.if-nodes-gt-MAX_NODES.false in
    let one = c.if-first_block-ne1.false in
    let p = err_from_is_err_and c.from_residual-in_err-end.result c.from_residual-in_err-end.ensures.1 in
    let same = ap (λ rows. at_hand c.args.task.now (map vec_items rows)) c.deref.ensures.value ∙ c.in_ok-rows.ensures.same in
    rw (p.1, p.2)
    (refused_is ns (fault_of c.args.task.now ns) (judged 64 (at_hand c.args.task.now (map vec_items c.deref.result.now)) 0 ns) c.in_err-end.field-0.0
    (fault_is c.args.task.now ns (sym c.first_block.ensures.first_block ∙ one) (omega (arith, long, few)) ∙ ap (λ u. ended (judged 64 u 0 ns)) (sym same)) c.in_err-end.ensures)

pub returns-then-end-nodes : goal.returns-then-end-nodes
returns-then-end-nodes c =
    let ns = nodes_seen c.args.nodes.now in
    let long = length-map c.args.nodes.now node_seen in
    let few = c.if-nodes-gt-MAX_NODES.false in
    let one = c.if-first_block-ne1.false in
    let low = c.if-end-nodes.true in
    let same = ap (λ rows. at_hand c.args.task.now (map vec_items rows)) c.deref.ensures.value ∙ c.in_ok-rows.ensures.same in
    fault_is c.args.task.now ns (sym c.first_block.ensures.first_block ∙ one) (omega (arith, long, few)) ∙ ap (λ u. ended (judged 64 u 0 ns)) (sym same)
    ∙ ap ended c.in_ok-end.ensures ∙ behind_is ns c.in_ok-end.end (omega (arith, long, low))

pub returns : goal.returns
returns c =
    let ns = nodes_seen c.args.nodes.now in
    let long = length-map c.args.nodes.now node_seen in
    let few = c.if-nodes-gt-MAX_NODES.false in
    let one = c.if-first_block-ne1.false in
    let high = c.if-end-nodes.false in
    let same = ap (λ rows. at_hand c.args.task.now (map vec_items rows)) c.deref.ensures.value ∙ c.in_ok-rows.ensures.same in
    fault_is c.args.task.now ns (sym c.first_block.ensures.first_block ∙ one) (omega (arith, long, few)) ∙ ap (λ u. ended (judged 64 u 0 ns)) (sym same)
    ∙ ap ended c.in_ok-end.ensures ∙ ended_is ns c.in_ok-end.end (omega (arith, long, high))
