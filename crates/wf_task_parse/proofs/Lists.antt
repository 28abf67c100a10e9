-- Going over a list of JSON values from the left.
use Rattle.std.proofs.Common.{◌≡◌, ℕ, ◌+◌, ◌<◌, List, [], ◌∷◌, ◌++◌, length, None, Some, map, option_and_then, codes, Result, Ok, Err, arith, refl, ap, String, Global}
use Rattle.smallvec.specs.SmallVec.{SmallVec}
use Rattle.serde_json.specs.View.{items_view, members_view}
use Rattle.serde_json.specs.Events.{members_len}
use Rattle.serde_json.proofs.Views.{members_len-members_view}
use Rattle.serde_json.specs.declared.value.Value.{Value}
use Rattle.serde_json.specs.Data.{Data, Members}
use Rattle.serde_json.specs.Find.{get, as_object}
use Rattle.wf_model.specs.Simplex.{Simplex}
use Rattle.wf_model.specs.Task.{Tuple}
use Rattle.wf_task_parse.specs.Shape.{pair_items, simplex_of, tuples_of, rule_of, entry_of}

-- what goes before the answer for the rest
abbrev pub after_front : {A : Type 0} → List A → Result (List A) ℕ → Result (List A) ℕ
after_front front (Ok xs) = Ok (front ++ xs)
after_front front (Err i) = Err (length front + i)

pub pair_short : (vs : List Value) → length vs < 2 → None ≡ pair_items (items_view vs)
pair_short [] h = refl
pair_short (v ∷ []) h = refl
pair_short (v ∷ w ∷ vs) h = absurd (omega arith)

pub pair_long : (vs : List Value) → 2 < length vs → None ≡ pair_items (items_view vs)
pair_long [] h = absurd (omega arith)
pair_long (v ∷ []) h = absurd (omega arith)
pair_long (v ∷ w ∷ []) h = absurd (omega arith)
pair_long (v ∷ w ∷ x ∷ vs) h = refl

pub members_count : (es : List (String Global × Value)) → members_len (members_view es) ≡ length es
members_count es = members_len-members_view es

same_numbers : (xs : List ℕ) → map (λ n. n) xs ≡ xs
same_numbers [] = refl
same_numbers (x ∷ xs) = ap (λ ys. x ∷ ys) (same_numbers xs)

-- numbers are seen as they are
pub numbers_seen : (ts : List (SmallVec ℕ)) → map (λ t. map (λ n. n) t.items) ts ≡ map (λ t. t.items) ts
numbers_seen [] = refl
numbers_seen (t ∷ ts) = λ i. same_numbers t.items i ∷ numbers_seen ts i

-- the entry of an object with the two keys and no other
pub entry_found : (d : Data) (ms : Members) (s : Simplex) (ts : List Tuple) → as_object d ≡ Some ms → option_and_then simplex_of (get (codes "in") d) ≡ Some s
    → option_and_then tuples_of (get (codes "out") d) ≡ Some ts → members_len ms ≡ 2 → entry_of d ≡ Some (rule_of s ts)
entry_found d ms s ts object input tuples two = rw object (rw input (rw tuples (rw two refl)))
