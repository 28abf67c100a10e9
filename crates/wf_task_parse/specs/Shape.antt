-- Which JSON values stand for numbers, pairs, simplices and entries.
use Rattle.std.specs.Prelude.{ℕ, suc, ◌==◌, List, [], ◌∷◌, Option, None, Some, option_map, option_and_then, Result, Ok, Err, codes, if◌then◌else◌}
use Rattle.std.specs.Result.{result_ok}
use Rattle.serde_json.specs.Data.{Data, Items, no_items, item}
use Rattle.serde_json.specs.Find.{get, as_number, as_u64, as_array, as_object}
use Rattle.serde_json.specs.Events.{members_len}
use Rattle.wf_model.specs.Simplex.{Simplex}
use Rattle.wf_model.specs.Task.{Rule, Tuple}

-- a whole number: a JSON number that has a value as u64
abbrev pub whole_of : Data → Option ℕ
whole_of d = option_and_then as_u64 (as_number d)

-- a list of exactly two whole numbers
abbrev pub pair_items : Items → Option (ℕ × ℕ)
pair_items no_items = None
pair_items (item a no_items) = None
pair_items (item a (item b no_items)) = option_and_then (λ x. option_map (λ y. (x, y)) (whole_of b)) (whole_of a)
pair_items (item a (item b (item c ds))) = None

abbrev pub pair_of : Data → Option (ℕ × ℕ)
pair_of d = option_and_then pair_items (as_array d)

-- one item more at the front: its reading, or the place of the first that has none
abbrev pub with_first : {A : Type 0} → Option A → Result (List A) ℕ → Result (List A) ℕ
with_first None rest = Err 0
with_first (Some x) (Ok xs) = Ok (x ∷ xs)
with_first (Some x) (Err i) = Err (suc i)

-- what the items stand for, or the place of the first that stands for nothing
abbrev pub each : {A : Type 0} → (Data → Option A) → Items → Result (List A) ℕ
each f no_items = Ok []
each f (item d ds) = with_first (f d) (each f ds)

abbrev pub all_of : {A : Type 0} → (Data → Option A) → Items → Option (List A)
all_of f ds = result_ok (each f ds)

-- a list whose items all stand for something
abbrev pub list_of : {A : Type 0} → (Data → Option A) → Data → Option (List A)
list_of f d = option_and_then (all_of f) (as_array d)

abbrev pub nonempty : {A : Type 0} → List A → Option (List A)
nonempty [] = None
nonempty (x ∷ xs) = Some (x ∷ xs)

-- a simplex: a list of pairs, at least one
abbrev pub simplex_of : Data → Option Simplex
simplex_of d = option_and_then nonempty (list_of pair_of d)

-- the value lists of an entry
abbrev pub tuples_of : Data → Option (List Tuple)
tuples_of d = list_of (list_of whole_of) d

abbrev pub rule_of : Simplex → List Tuple → Rule
rule_of s ts = record { input = s; tuples = ts }

-- an entry: an object with exactly the keys `in`, a simplex, and `out`, a
-- list of value lists; so with two members
abbrev pub entry_of : Data → Option Rule
entry_of d =
    option_and_then (λ ms. option_and_then (λ s. option_and_then (λ ts. if members_len ms == 2 then Some (rule_of s ts) else None)
    (option_and_then tuples_of (get (codes "out") d))) (option_and_then simplex_of (get (codes "in") d))) (as_object d)

abbrev pub list_seen : {L S : Type 0} → (L → List S) → Result L ℕ → Result (List S) ℕ
list_seen seen (Ok found) = Ok (seen found)
list_seen seen (Err i) = Err i
