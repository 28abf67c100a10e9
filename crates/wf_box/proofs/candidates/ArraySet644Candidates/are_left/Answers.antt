use Rattle.std.proofs.Common.{◌≡◌, true, false, sym, ◌∙◌}
use Rattle.std.proofs.lemmas.Bool.{OnFalse_from, false≢true}
use Rattle.std.specs.Cmp.Lexicographic.{bytes_decides}
use Rattle.wf_network.proofs.Lemmas.{same_parts}
use Rattle.wf_network.specs.Revising.{found_at, widened}
use Rattle.wf_box.proofs.candidates.ArraySet644Candidates.are_left.Goals as goal

pub returns-in-Some-clause-others : goal.returns-in-Some-clause-others
returns-in-Some-clause-others c = OnFalse_from c.eq.result (found_at c.args.execution c.args.sets.now ≡ widened c.args.self → ⊥) (λ differ same.
    let left = c.in-Some.left in
    let equal = same_parts left c.args.self (c.in-Some.ensures.parts ∙ c.candidates_at.ensures.candidates ∙ same) in
    false≢true (sym differ ∙ c.eq.ensures ∙ (bytes_decides left c.args.self).1 equal))
