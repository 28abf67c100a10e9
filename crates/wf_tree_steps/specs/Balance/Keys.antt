-- Keys: a place, a list of labels and a list of values as one number.
use Rattle.std.specs.Prelude.{◌≡◌, ℕ, zero, suc, ◌+◌, ◌*◌, ◌%◌, ◌≤◌, ◌==◌, All, Bool, List, [], ◌∷◌, length, map, sum_by, if◌then◌else◌}
use Rattle.std.specs.List.{AllByRecursion, remove}
use Rattle.wf_model.specs.Simplex.{Simplex, Vertex}
use Rattle.wf_model.specs.Task.{Rule, Task, Tuple}
use Rattle.wf_tree_model.specs.Balance.{Multiplier, input_of}

-- what a face keeps of a vertex: in a symmetric task its input alone, since there processes are
-- known by their ranks; else a number that no other vertex has
abbrev pub label : Bool → Vertex → ℕ
label symmetric v = if symmetric then v.1 else v.0 * 256 + v.1

-- simplices with the same labels decide alike
abbrev pub labels : Task → Simplex → List ℕ
labels t s = map (label t.symmetric) s

-- numbers below 2047 as one number
abbrev pub digits_code : List ℕ → ℕ
digits_code [] = 0
digits_code (x ∷ xs) = digits_code xs * 2048 + (x + 1)

-- the elements, numbered from a place on, but one
abbrev pub but : ℕ → ℕ → List ℕ → List ℕ
but place skipped [] = []
but place skipped (x ∷ xs) = if place == skipped then but (suc place) skipped xs else x ∷ but (suc place) skipped xs

-- the codes of labels and of values with a place
abbrev pub key_of : ℕ → ℕ → ℕ → ℕ
key_of place labels values = (labels * 2048 + (place + 1)) * 18446744073709551616 + values

abbrev pub key : ℕ → List ℕ → List ℕ → ℕ
key place labels values = key_of place (digits_code labels) (digits_code values)

-- the key of the place of a simplex and the values of the others
abbrev pub key_with : Task → Multiplier → ℕ
key_with t x = key x.place (labels t (input_of t x)) x.others

-- the key of the simplex without that place, and the values there; no place has the number 4
abbrev pub key_without : Task → Multiplier → ℕ
key_without t x = key 4 (labels t (remove (input_of t x) x.place)) x.others

-- the weights of a multiplier under a key
abbrev pub weight_of : Task → ℕ → Multiplier → ℕ
weight_of t q x = (if key_with t x == q then x.weight else 0) + (if key_without t x == q then x.weight else 0)

abbrev pub weight_under : Task → List Multiplier → ℕ → ℕ
weight_under t xs q = sum_by (weight_of t q) xs

-- ---- what a tuple counts

abbrev pub sum_below : (ℕ → ℕ) → ℕ → ℕ
sum_below f zero = 0
sum_below f (suc n) = sum_below f n + f n

-- the weight under the key of a place, for the others' values
abbrev pub weight_at : (ℕ → ℕ) → ℕ → Tuple → ℕ → ℕ
weight_at weights labels tuple place = weights (key_of place labels (digits_code (remove tuple place)))

-- whether the weights where the tuple counts are the same on both sides
abbrev pub is_settled : (ℕ → ℕ) → ℕ → ℕ → Tuple → Bool
is_settled weights modulus labels tuple =
    sum_below (weight_at weights labels tuple) (length tuple) % modulus == weights (key_of 4 labels (digits_code tuple)) % modulus

-- ---- tests

-- on each of these tuples that has bytes alone the test says whether the weights are the same on
-- both sides
abbrev pub IsTestOf : (ℕ → ℕ) → ℕ → ℕ → (Tuple → Bool) → List Tuple → Type 0
IsTestOf weights modulus labels test tuples =
    AllByRecursion (λ y. All (λ x. x ≤ 255) y → test y ≡ is_settled weights modulus labels y) tuples

-- so does the test at the simplex of each rule
abbrev pub IsTestAt : Task → (ℕ → ℕ) → ℕ → (Simplex → Tuple → Bool) → List Rule → Type 0
IsTestAt t weights modulus test rules =
    AllByRecursion (λ rule. IsTestOf weights modulus (digits_code (labels t rule.input)) (test rule.input) rule.tuples) rules
