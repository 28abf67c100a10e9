-- What a checker knows to which the clauses of a formula were added.
use Rattle.std.specs.Prelude.{◌≡◌, ◌⊎◌, List, [], ◌∷◌, All}
use Rattle.wf_sat_text.specs.Clauses.Formula.{Assignment, Clause, Formula, IsModel}
use Rattle.wf_sat_check.specs.Rup.Kept.{IsKept}
use Rattle.wf_sat_check.specs.Rup.Seen.{IsModelOf, Known}

-- each model of the formula is a model of what is known
abbrev pub FollowsFrom : Formula → Known → Type 0
FollowsFrom f known = (a : Assignment) → IsModel a f → IsModelOf a known

-- each of the clauses is kept
abbrev pub KeepsEach : List Clause → Known → Type 0
KeepsEach clauses known = All (λ clause. IsKept clause known) clauses

-- the first list is the second one with some of its clauses left out
abbrev pub AreSomeOf : List Clause → List Clause → Type 0
AreSomeOf [] all = Unit {0}
AreSomeOf (clause ∷ some) [] = ⊥
AreSomeOf (clause ∷ some) (first ∷ all) = ((clause ≡ first) × AreSomeOf some all) ⊎ AreSomeOf (clause ∷ some) all

-- the models of what is known are those of the formula, and no others
pub record HasModelsOf (f : Formula) (known : Known) : Type 0 where
  pub follows : FollowsFrom f known
  pub complete : (a : Assignment) → IsModelOf a known → IsModel a f

-- what is known is the formula: its models and no others, as many variables,
-- each of its clauses is kept, and no other clause, nor one more often than it stands there
pub record IsPosed (f : Formula) (known : Known) : Type 0 where
  pub models : HasModelsOf f known
  pub variables : known.variables ≡ f.variables
  pub each : KeepsEach f.clauses known
  pub alone : AreSomeOf known.clauses f.clauses
