use Rattle.std.proofs.Common.{◌≡◌, ◌∙◌, Some, subst, sym, arith}
use Rattle.std.proofs.lemmas.List.Elements.{All-get_or}
use Rattle.std.specs.Cmp.Lexicographic.{bytes_decides, pointwise_decides}
use Rattle.wf_lane.specs.Table.{HasSupported}
use Rattle.wf_network.specs.Problems.{constraints_in, rule_at}
use Rattle.wf_network.specs.Revising.{IsKnown}
use Rattle.wf_network.proofs.MemoLemmas.{known_now, known_serves, lead_is, right_at, wide_known}
use Rattle.wf_network.proofs.revising.supported_sets.Goals as goal

-- the answer that is kept is right for this rule and these candidates
pub returns-clause-supported : goal.returns-clause-supported
returns-clause-supported c =
    let n = c.args.network.now in
    let known = c.in-Some.answer in
    let slots = c.args.memo.now.wide.items in
    let right : IsKnown (constraints_in n) (Some known) = subst (IsKnown (constraints_in n)) (sym c.index.ensures ∙ c.in-Some.is)
    (All-get_or (IsKnown (constraints_in n)) slots c.slot_of-slot.result c.index.result.now (omega (arith, c.if-slot-len.true, c.len-2.ensures, c.args.memo.now.wide.ok.0)) (wide_known (constraints_in n) c.args.memo.now c.requires.known)) in
    let same : known.candidates ≡ c.args.candidates = (pointwise_decides bytes_decides known.candidates c.args.candidates).0 (sym c.eq.ensures ∙ c.if-eq.true) in
    subst (HasSupported known.supported (rule_at n c.args.rule).table) same (known_serves n c.args.rule known c.requires.network c.requires.rule (c.if-answer-execution.true ∙ lead_is n c.args.rule c.index-execution.result.now c.requires.network c.requires.rule c.index-execution.ensures) right)

-- the new answer is right for the rule
pub returns-then-execution-execution_count-clause-known : goal.returns-then-execution-execution_count-clause-known
returns-then-execution-execution_count-clause-known c =
    let n = c.args.network.now in
    let lead = c.index-execution.result.now in
    let right : HasSupported c.revise.result.masks (rule_at n c.args.rule).table c.args.candidates = right_at n c.args.rule c.index-2.result.now c.args.candidates c.revise.result.masks c.requires.rule c.index-2.ensures c.revise.ensures.supported in
    c.keep_wide.ensures (constraints_in n) (known_now n c.args.rule lead c.args.candidates c.revise.result.masks c.requires.network c.requires.rule (lead_is n c.args.rule lead c.requires.network c.requires.rule c.index-execution.ensures) (omega (arith, c.if-execution-execution_count.true, c.execution_count.ensures)) right) c.requires.known
