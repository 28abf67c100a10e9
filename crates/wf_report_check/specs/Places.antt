-- What an execution allows, and what a line says there.
use Rattle.std.specs.Prelude.{ℕ, List, ◌∷◌, map, zip, get_or, if◌then◌else◌}
use Rattle.wf_model.specs.Simplex.{Simplex, processes_of}
use Rattle.wf_model.specs.Task.{Rule, Tuple}
use Rattle.wf_model.specs.Problem.{Constraint}
use Rattle.wf_model.specs.Box.{Box, candidates, is_supported, without}
use Rattle.wf_model.specs.Check.{Verdict, fault, left, unsound}

-- the tuples of each rule
abbrev pub tuples_of : List Rule → List (List Tuple)
tuples_of rules = map (λ rule. rule.tuples) rules

-- the constraint of an execution on this simplex, with its tuples and these points
abbrev pub constraint_on : Simplex → List Tuple → List ℕ → Constraint
constraint_on s tuples ps = record { scope = zip (processes_of s) ps; tuples = tuples }

-- what line k says of the first box, where it takes a value out at a place of these points
abbrev pub unless_supported : List Tuple → List ℕ → ℕ → ℕ → ℕ → Box → List Box → Verdict
unless_supported tuples ps place a k box boxes =
    if is_supported tuples (map (candidates box) ps) place a
    then fault (unsound k)
    else left (without box (get_or ps place 0) a ∷ boxes)
