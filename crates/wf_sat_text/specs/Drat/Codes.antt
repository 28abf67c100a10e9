-- Literals as numbers, and which of their lists an assignment satisfies.
use Rattle.std.specs.Prelude.{ℕ, ◌+◌, ◌*◌, ◌/◌, ◌%◌, ◌==◌, Bool, not, List, if◌then◌else◌}
use Rattle.std.proofs.Common.{◌≡◌, ◌<◌, zero, suc, refl, arith}
use Rattle.std.specs.List.{list_all, list_any}
use Rattle.wf_sat_text.specs.Clauses.Formula.{Assignment, Literal, pos, neg}

-- the largest number that a variable may have: so the codes of its literals
-- are below the largest number of 32 bits
abbrev pub most_variables : ℕ
most_variables = 2147483646

-- the last variable of a proof, of clauses on the variables from 1 to this number: a proof may
-- bring in as many again, and some more
abbrev pub last_variable : ℕ → ℕ
last_variable variables = 2 * variables + 65536

-- the number of a literal: 2 * v for the variable v, and 2 * v + 1 for its negation
abbrev pub code_of : Literal → ℕ
code_of (pos v) = 2 * v
code_of (neg v) = 2 * v + 1

-- the literal of a number
abbrev pub literal_of : ℕ → Literal
literal_of c = if c % 2 == 0 then pos (c / 2) else neg (c / 2)

-- whether the literal of this code is true under the assignment
unfoldable pub holds_code : Assignment → ℕ → Bool
holds_code a c = if c % 2 == 0 then a (c / 2) else not (a (c / 2))

-- whether each of these literals is
abbrev pub hold_codes : Assignment → List ℕ → Bool
hold_codes a codes = list_all (holds_code a) codes

-- whether one of the clause's literals is
abbrev pub satisfies_codes : Assignment → List ℕ → Bool
satisfies_codes a clause = list_any (holds_code a) clause

-- whether each of the clauses has one
abbrev pub is_model_of_codes : Assignment → List (List ℕ) → Bool
is_model_of_codes a clauses = list_all (satisfies_codes a) clauses

-- ---- a code is that of its literal

code_of-either : (c r : ℕ) → c % 2 ≡ r → r < 2 → code_of (if r == 0 then pos (c / 2) else neg (c / 2)) ≡ c
code_of-either c zero h small = omega arith
code_of-either c (suc zero) h small = omega arith
code_of-either c (suc (suc r)) h small = absurd (omega arith)

pub code_of-literal_of : (c : ℕ) → code_of (literal_of c) ≡ c
code_of-literal_of c =
    let small : c % 2 < 2 = omega arith in
    code_of-either c (c % 2) refl small
