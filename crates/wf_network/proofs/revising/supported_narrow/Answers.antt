use Rattle.std.proofs.Common.{◌≡◌, ◌∙◌, Some, subst, sym, arith}
use Rattle.std.proofs.lemmas.List.Elements.{All-get_or}
use Rattle.std.specs.Cmp.Lexicographic.{bytes_decides}
use Rattle.wf_lane.specs.Table.{HasSupported}
use Rattle.wf_network.specs.Problems.{constraints_in, rule_at}
use Rattle.wf_network.specs.Revising.{IsKnownParts, widened}
use Rattle.wf_network.proofs.MemoLemmas.{known_serves, lead_is, narrow_known}
use Rattle.wf_network.proofs.revising.supported_narrow.Goals as goal

-- the answer that is kept is right for this rule and these candidates
pub returns-clause-supported : goal.returns-clause-supported
returns-clause-supported c =
    let n = c.args.network.now in
    let known = c.in-Some.known in
    let answers = c.args.memo.now.narrow.items in
    let right : IsKnownParts (constraints_in n) (Some known) = subst (IsKnownParts (constraints_in n)) (sym c.index.ensures ∙ c.in-Some.is)
    (All-get_or (IsKnownParts (constraints_in n)) answers c.slot_of-slot.result c.index.result.now (omega (arith, c.if-slot-len.true, c.len-2.ensures, c.args.memo.now.narrow.ok.0)) (narrow_known (constraints_in n) c.args.memo.now c.requires.known)) in
    let same : known.candidates ≡ c.args.candidates = (bytes_decides known.candidates c.args.candidates).0 (sym c.eq.ensures ∙ c.if-eq.true) in
    let serves : HasSupported (widened known.supported) (rule_at n c.args.rule).table (widened known.candidates) =
    known_serves n c.args.rule (record { execution = known.execution; candidates = widened known.candidates; supported = widened known.supported }) c.requires.network c.requires.rule
    (c.if-known-lead.true ∙ lead_is n c.args.rule c.index-lead.result.now c.requires.network c.requires.rule c.index-lead.ensures) right in
    subst (λ ps. HasSupported (widened ps) (rule_at n c.args.rule).table (widened c.args.candidates)) (sym c.changed.ensures.parts)
    (subst (λ parts. HasSupported (widened known.supported) (rule_at n c.args.rule).table (widened parts)) same serves)
