use Rattle.std.proofs.Common.{◌≡◌, ◌∙◌, slice_index, Some, None, cond, subst, sym, arith}
use Rattle.std.proofs.lemmas.List.Elements.{All-get_or}
use Rattle.wf_lane.specs.Table.{HasSupported}
use Rattle.wf_network.specs.Problems.{constraints_in, rule_at}
use Rattle.wf_network.specs.Revising.{IsKnown, IsKnownWord, parts_in, widened}
use Rattle.wf_network.specs.declared.memo.CacheEntry.{CacheEntry}
use Rattle.wf_network.proofs.MemoLemmas.{known_serves, lead_is, lead_there, small_known}
use Rattle.wf_network.proofs.revising.supported_word.Goals as goal

-- the answer that is kept is right for this rule and these candidates
pub returns-then-answer-lead-clause-supported : goal.returns-then-answer-lead-clause-supported
returns-then-answer-lead-clause-supported c =
    let n = c.args.network.now in
    let known = c.index-answer.result.now in
    let answers = c.args.memo.now.small.items in
    let seen : CacheEntry = record { execution = known.execution; candidates = widened (parts_in known.candidates); supported = widened (parts_in known.supported) } in
    let lead = lead_is n c.args.rule c.index-lead.result.now c.requires.network c.requires.rule c.index-lead.ensures in
    let is : known.execution ≡ slice_index n.leads.items c.args.rule = c.if-answer-lead.true ∙ lead in
    let right : IsKnownWord (constraints_in n) known = subst (IsKnownWord (constraints_in n)) (sym c.index-answer.ensures)
    (All-get_or (IsKnownWord (constraints_in n)) answers c.slot_of_word-slot.result known (omega (arith, c.if-slot-len.true, c.len-2.ensures, c.args.memo.now.small.ok.0)) (small_known (constraints_in n) c.args.memo.now c.requires.known)) in
    let serves = known_serves n c.args.rule seen c.requires.network c.requires.rule is (subst (λ b. IsKnown (constraints_in n) (cond b None (Some seen))) (lead_there n c.args.rule known.execution c.requires.network c.requires.rule is) right) in
    subst (λ m. HasSupported (widened (parts_in known.supported)) (rule_at n c.args.rule).table (widened (parts_in m))) c.if-answer-word.true serves
