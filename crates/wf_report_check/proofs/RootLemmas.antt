-- How lines begin.
use Rattle.std.proofs.Common.{◌≡◌, ℕ, ◌+◌, List, [], ◌∷◌, replicate, length, refl, ap, ◌∙◌}
use Rattle.wf_model.specs.Task.{Task, values}
use Rattle.wf_model.specs.Problem.{Problem, problem_of}
use Rattle.wf_model.specs.Box.{Box, root}
use Rattle.wf_model.specs.Report.{Body, a_map, none, least}
use Rattle.wf_model.specs.Check.{body_fault, first_fault, first_least_fault, map_fault, unless_fault}
use Rattle.wf_complex.specs.Protocol.{Built, IsProtocol}
use Rattle.wf_base.specs.Set.Sets.{box_of, values_in}
use Rattle.wf_base.proofs.OfSet.Lemmas.{same_sets}
use Rattle.wf_report_check.specs.Within.{fault_within}

-- as many sets as points, each with all values, are the root box
pub root_is : (t : Task) (r : ℕ) (b : Built) (set : List ℕ) (n : ℕ) (sets : List (List ℕ)) → IsProtocol t r b → values_in set ≡ values t → n ≡ length b.points → sets ≡ replicate n set → box_of sets ≡ root (problem_of t r)
root_is t r b set n sets built same long are =
    ap box_of are ∙ same_sets n set ∙ (λ i. replicate ((long ∙ ap length built.points_are) i) (same i))

-- what is said of a report about the root box is said of one about the whole
pub within_root : (p : Problem) (box : Box) (body : Body) → box ≡ root p → fault_within p box body ≡ body_fault p body
within_root p box (a_map m) is = refl
within_root p box (none ls) is = ap (λ b. first_fault p 7 ls (b ∷ [])) is
within_root p box (least m ls) is = ap (λ b. unless_fault (map_fault p m) (first_least_fault p m (7 + length m) ls (b ∷ []))) is
