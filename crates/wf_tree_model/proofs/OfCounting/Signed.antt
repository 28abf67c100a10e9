-- Sums over executions with signs, from the vertices of a simplex.
use Rattle.std.proofs.Common.{◌≡◌, ℕ, ◌+◌, ◌≤◌, Bool, cond, List, length, refl, sym, ◌∙◌, subst, arith}
use Rattle.std.proofs.lemmas.List.{length-map}
use Rattle.wf_model.specs.Simplex.{Simplex, Vertex}
use Rattle.wf_model.specs.View.{View, base, base_views}
use Rattle.wf_tree_model.specs.Counting.Signs.{evens, keep, odds}
use Rattle.wf_tree_model.proofs.OfCounting.Sums.{keep_map}
use Rattle.wf_tree_model.proofs.OfCounting.Rounds.{marginal, one_in_all}

pub agree_on_faces : (h : List View → ℕ) (r : ℕ) (s : Simplex) (face : List Bool) → length s ≤ 4 → length face ≡ length s →
    evens (λ vs. h (keep face vs)) r (base_views s) + odds h r (base_views (keep face s)) ≡ odds (λ vs. h (keep face vs)) r (base_views s) + evens h r (base_views (keep face s))
agree_on_faces h r s face small long =
    let old = base_views s in
    let many : length old ≡ length s = length-map s (λ (v : Vertex). base v.0 v.1) in
    subst (λ vs. evens (λ us. h (keep face us)) r old + odds h r vs ≡ odds (λ us. h (keep face us)) r old + evens h r vs) (keep_map (λ (v : Vertex). base v.0 v.1) face s)
    (marginal r (λ positive vs. cond positive (h vs) 0) face old (length old) (length (keep face old)) (omega (arith, many, small)) (long ∙ sym many) refl refl)

pub add_up_to_one : (r : ℕ) (s : Simplex) → length s ≤ 4 → evens (λ vs. 1) r (base_views s) ≡ odds (λ vs. 1) r (base_views s) + 1
add_up_to_one r s small =
    let many : length (base_views s) ≡ length s = length-map s (λ (v : Vertex). base v.0 v.1) in
    one_in_all r (base_views s) (omega (arith, many, small))
