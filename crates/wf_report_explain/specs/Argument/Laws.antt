-- What the steps of an argument cite.
use Rattle.std.specs.Prelude.{◌<◌, ℕ, ⊤, List, [], ◌∷◌, Option, Some, None}
use Rattle.std.specs.List.{AllByRecursion}
use Rattle.wf_model.specs.Check.{place_of}
use Rattle.wf_model.specs.Problem.{Problem, Constraint, constraint_at}
use Rattle.wf_model.specs.Refutation.{Line}
use Rattle.wf_report_explain.specs.declared.argument.reasons.Reason.{Reason}
use Rattle.wf_report_explain.specs.Argument.Parts.{Part, takes, closes, splits, parts_of}
use Rattle.wf_report_explain.specs.Argument.ArgumentState.{ArgumentState, start, take_in, steps_in, after_step, after}

-- what was lost by a step was lost before step n
abbrev pub IsBefore : ℕ → Option ℕ → Type 0
IsBefore n None = ⊤
IsBefore n (Some m) = m < n

abbrev pub CitesEarlier : ℕ → Reason → Type 0
CitesEarlier n x = IsBefore n x.loss.step

-- each of the steps that take these values cites earlier steps alone
abbrev pub StepsCiteEarlier : Constraint → ℕ × ℕ → ArgumentState → List (List ℕ) → Type 0
StepsCiteEarlier k at s [] = ⊤
StepsCiteEarlier k at s (values ∷ steps) =
    AllByRecursion (CitesEarlier s.number) (take_in k s.number at s.gone values).reasons
    × StepsCiteEarlier k at (after_step k at s values) steps

abbrev pub TakingCitesEarlier : Problem → ArgumentState → ℕ → List ℕ → Option (ℕ × ℕ) → Type 0
TakingCitesEarlier p s e values None = ⊤
TakingCitesEarlier p s e values (Some at) =
    StepsCiteEarlier (constraint_at p e) at s (steps_in (constraint_at p e) s.number at s.gone values)

abbrev pub PartCitesEarlier : Problem → ArgumentState → Part → Type 0
PartCitesEarlier p s (takes e c values) = TakingCitesEarlier p s e values (place_of 0 c (constraint_at p e).scope)
PartCitesEarlier p s (closes v) = ⊤
PartCitesEarlier p s (splits v) = ⊤

abbrev pub PartsCiteEarlier : Problem → Option ArgumentState → List Part → Type 0
PartsCiteEarlier p None parts = ⊤
PartsCiteEarlier p (Some s) [] = ⊤
PartsCiteEarlier p (Some s) (part ∷ parts) = PartCitesEarlier p s part × PartsCiteEarlier p (after p s part) parts

-- whatever the lines, no step of an argument cites itself or a later one
abbrev pub EachStepCitesEarlierSteps : Type 0
EachStepCitesEarlierSteps = (p : Problem) (ls : List Line) → PartsCiteEarlier p (Some (start p)) (parts_of ls)
