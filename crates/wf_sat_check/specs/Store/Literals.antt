-- Literals that are true, by their codes.
use Rattle.std.specs.Prelude.{◌≡◌, ℕ, ◌<◌, ◌==◌, Bool, true, false, not, List, [], ◌∷◌, ◌++◌, if◌then◌else◌, get_or, length, take, bit_xor}
use Rattle.std.specs.List.{list_any}
use Rattle.wf_sat_text.specs.Clauses.Formula.{Assignment}
use Rattle.wf_sat_text.specs.Drat.Codes.{hold_codes, holds_code}

-- the literal is in the list
abbrev pub has : List ℕ → ℕ → Bool
has literals l = list_any (λ x. x == l) literals

-- each literal of the list stands there once
abbrev pub IsDistinct : List ℕ → Type 0
IsDistinct literals = (k d : ℕ) → k < length literals → has (take k literals) (get_or literals k d) ≡ false

-- the marked literals are those in the list
pub record IsMarked (marks : List Bool) (literals : List ℕ) : Type 0 where
  pub marked : (l : ℕ) → get_or marks l false ≡ has literals l
  pub distinct : IsDistinct literals

-- the code of a literal's negation
abbrev pub opposite : ℕ → ℕ
opposite literal = bit_xor literal 1

-- the list, and the literal where it isn't there yet
abbrev pub with_literal : List ℕ → ℕ → List ℕ
with_literal literals l = if has literals l then literals else literals ++ l ∷ []

-- one of the two literals holds, and never both
abbrev pub IsNegationOf : ℕ → ℕ → Type 0
IsNegationOf literal other = (a : Assignment) → holds_code a other ≡ not (holds_code a literal)

-- where the literals of the trail hold, this one does
abbrev pub MakesTrue : List ℕ → ℕ → Type 0
MakesTrue trail literal = (a : Assignment) → hold_codes a trail ≡ true → holds_code a literal ≡ true

-- where the literals of the trail hold, this one doesn't
abbrev pub MakesFalse : List ℕ → ℕ → Type 0
MakesFalse trail literal = (a : Assignment) → hold_codes a trail ≡ true → holds_code a literal ≡ false

-- where the old literals and this one hold, the new ones do
abbrev pub AddsLiteral : ℕ → List ℕ → List ℕ → Type 0
AddsLiteral literal old new = (a : Assignment) → hold_codes a old ≡ true → holds_code a literal ≡ true → hold_codes a new ≡ true
