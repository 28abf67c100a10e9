-- The rules of a task, by its parts.
use Rattle.std.proofs.Common.{◌≡◌, ℕ, zero, suc, ◌<◌, List, [], ◌∷◌, length, map, Some, option_map, slice_get, slice_index_or, vec_items, Vec, Global, refl, sym, ap, ◌∙◌, arith}
use Rattle.std.proofs.lemmas.Option.{slice_get-get_or}
use Rattle.std.proofs.lemmas.List.{get_or-map, length-map}
use Rattle.wf_model.specs.Simplex.{Simplex}
use Rattle.wf_model.specs.Task.{Tuple}
use Rattle.wf_task.specs.TaskSeen.{rules_seen}

pub inputs-rules_seen : (ss : List Simplex) (ts : List (List Tuple)) → length ts ≡ length ss → map (λ rule. rule.input) (rules_seen ss ts) ≡ ss
inputs-rules_seen [] ts h = refl
inputs-rules_seen (s ∷ ss) [] h = absurd (omega arith)
inputs-rules_seen (s ∷ ss) (t ∷ ts) h = ap (λ rest. s ∷ rest) (inputs-rules_seen ss ts (omega arith))

pub length-rules_seen : (ss : List Simplex) (ts : List (List Tuple)) → length ts ≡ length ss → length (rules_seen ss ts) ≡ length ts
length-rules_seen [] [] h = refl
length-rules_seen [] (t ∷ ts) h = absurd (omega arith)
length-rules_seen (s ∷ ss) [] h = refl
length-rules_seen (s ∷ ss) (t ∷ ts) h = ap suc (length-rules_seen ss ts (omega arith))

tuples_at : (ss : List Simplex) (ts : List (List Tuple)) (i : ℕ) → length ts ≡ length ss → option_map (λ rule. rule.tuples) (slice_get (rules_seen ss ts) i) ≡ slice_get ts i
tuples_at [] [] i h = refl
tuples_at [] (t ∷ ts) i h = absurd (omega arith)
tuples_at (s ∷ ss) [] i h = absurd (omega arith)
tuples_at (s ∷ ss) (t ∷ ts) zero h = refl
tuples_at (s ∷ ss) (t ∷ ts) (suc i) h = tuples_at ss ts i (omega arith)

-- the tuples of the rule at a place are those that are kept there
pub tuples_of_rule : (ss : List Simplex) (vs : List (Vec Tuple Global)) (i : ℕ) (v : Vec Tuple Global) → length (map vec_items vs) ≡ length ss → i < length vs → v ≡ slice_index_or vs i v
    → option_map (λ rule. rule.tuples) (slice_get (rules_seen ss (map vec_items vs)) i) ≡ Some (vec_items v)
tuples_of_rule ss vs i v each inside is =
    let shorter : i < length (map vec_items vs) = omega (arith, length-map vs vec_items) in
    tuples_at ss (map vec_items vs) i each
    ∙ slice_get-get_or (map vec_items vs) i (vec_items v) shorter
    ∙ ap Some (get_or-map vec_items vs i v (vec_items v) inside ∙ ap vec_items (sym is))
