use Rattle.std.proofs.Common.{Err, map, sym, ◌∙◌, subst, arith, suc, ◌∷◌, vec_items}
use Rattle.std.proofs.lemmas.List.{length-map}
use Rattle.wf_tree_refine.specs.AtHand.{at_hand}
use Rattle.wf_tree_model.specs.Trees.{split_node}
use Rattle.wf_tree_check.specs.Judge.{judged}
use Rattle.wf_tree_check.specs.Walk.{IsEntered}
use Rattle.wf_tree_check.proofs.Entering.{split_made, split_past, split_refused}
use Rattle.wf_tree_check.proofs.enter.enter_split.Goals as goal

pub returns-then-simplex-rows : goal.returns-then-simplex-rows
returns-then-simplex-rows c = λ levels behind.
    let long = length-map c.args.rows.now vec_items in
    let high = c.if-simplex-rows.true in
    split_past c.args.walk.now.task.now (map vec_items c.args.rows.now) c.args.simplex levels c.args.place behind c.requires (sym c.symmetric.ensures ∙ c.if-symmetric.false) (omega (arith, long, high))

pub returns-in-Ok : goal.returns-in-Ok
returns-in-Ok c = λ levels behind.
    let long = length-map c.args.rows.now vec_items in
    let low = c.if-simplex-rows.false in
    let of = c.in-Ok.ensures in (
      of.at_hand,
      split_made c.args.walk.now.task.now (map vec_items c.args.rows.now) c.args.simplex levels c.args.place behind c.requires (sym c.symmetric.ensures ∙ c.if-symmetric.false) (map vec_items c.in-Ok.refined.items) (omega (arith, long, low)) of.within of.split,
    )

pub returns-in-Err : goal.returns-in-Err
returns-in-Err c = λ levels behind.
    let t = c.args.walk.now.task.now in
    let rows = map vec_items c.args.rows.now in
    let long = length-map c.args.rows.now vec_items in
    let low = c.if-simplex-rows.false in
    subst (λ e. IsEntered t rows levels c.args.place behind (Err e) (judged (suc levels) (at_hand t rows) c.args.place (split_node c.args.simplex ∷ behind))) (sym c.fault_at.ensures)
    (split_refused t rows c.args.simplex levels c.args.place behind c.requires (sym c.symmetric.ensures ∙ c.if-symmetric.false) c.in-Err.fault (omega (arith, long, low)) c.in-Err.ensures.refused)
