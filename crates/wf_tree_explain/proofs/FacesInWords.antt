-- Simplices and their faces, vertex by vertex.
use Rattle.std.proofs.Common.{◌≡◌, ◌<◌, ℕ, zero, suc, ◌+◌, false, List, [], ◌∷◌, ◌++◌, map, length, drop, get_or, codes, decimal, refl, sym, ap, ◌∙◌, arith, append_assoc}
use Rattle.std.specs.List.{remove}
use Rattle.wf_model.specs.Simplex.{Simplex, Vertex, is_nonempty, processes_of, values_of}
use Rattle.wf_model.specs.PointsText.{process_text}
use Rattle.wf_tree_explain.specs.Places.{before_at, separator, vertex_in}
use Rattle.wf_tree_explain.specs.Words.{vertex_text}
use Rattle.wf_tree_explain.proofs.ListsInWords.{element_at, element_before, rest_of}

mapped : {X : Type 0} (f : X → ℕ) (xs : List X) (i : ℕ) (d : X) → i < length xs → get_or (map f xs) i 0 ≡ f (get_or xs i d)
mapped f [] i d low = absurd (let none : ⊥ = omega (arith, low) in none)
mapped f (x ∷ xs) zero d low = refl
mapped f (x ∷ xs) (suc i) d low = mapped f xs i d (omega (arith, low))

vertex_is : (s : Simplex) (place : ℕ) → place < length s → vertex_in s place ≡ vertex_text (get_or s place (0, 0))
vertex_is s place low =
    let v : Vertex = get_or s place (0, 0) in
    ap (λ p. codes "p" ++ decimal p ++ (codes "=" ++ decimal (get_or (values_of s) place 0))) (mapped (λ (u : Vertex). u.0) s place (0, 0) low)
    ∙ ap (λ x. codes "p" ++ decimal v.0 ++ (codes "=" ++ decimal x)) (mapped (λ (u : Vertex). u.1) s place (0, 0) low)

-- a vertex of the face stands at a place of the simplex
pub next_vertex : (s face : Simplex) (place n : ℕ) → place < length s → n < length face → get_or s place (0, 0) ≡ get_or face n (0, 0)
    → rest_of vertex_text (codes ", ") (codes ", ") n (drop n face) ≡ (before_at (codes ", ") n ++ vertex_in s place) ++ rest_of vertex_text (codes ", ") (codes ", ") (n + 1) (drop (n + 1) face)
next_vertex s face place n inside low same =
    let rest = rest_of vertex_text (codes ", ") (codes ", ") (n + 1) (drop (n + 1) face) in
    element_before vertex_text (codes ", ") n face (0, 0) low
    ∙ ap (λ t. before_at (codes ", ") n ++ (t ++ rest)) (ap vertex_text (sym same) ∙ sym (vertex_is s place inside))
    ∙ sym (append_assoc (before_at (codes ", ") n) (vertex_in s place) rest)

-- and its process
pub next_decider : (s face : Simplex) (place n p : ℕ) → place < length s → n < length face → get_or s place (0, 0) ≡ get_or face n (0, 0) → p ≡ get_or (processes_of s) place 0
    → rest_of (λ (v : Vertex). process_text false v.0) (codes ", ") (codes " and ") n (drop n face) ≡ (separator (codes ", ") (codes " and ") n (length face) ++ process_text false p) ++ rest_of (λ (v : Vertex). process_text false v.0) (codes ", ") (codes " and ") (n + 1) (drop (n + 1) face)
next_decider s face place n p inside low same is =
    let text = λ (v : Vertex). process_text false v.0 in
    let rest = rest_of text (codes ", ") (codes " and ") (n + 1) (drop (n + 1) face) in
    let b = separator (codes ", ") (codes " and ") n (length face) in
    element_at text (codes ", ") (codes " and ") n face (0, 0) low
    ∙ ap (λ q. b ++ (process_text false q ++ rest)) (ap (λ (v : Vertex). v.0) (sym same) ∙ sym (mapped (λ (v : Vertex). v.0) s place (0, 0) inside) ∙ sym is)
    ∙ sym (append_assoc b (process_text false p) rest)

-- a place that is not there is not left out
pub all_kept : (s : Simplex) (i : ℕ) → length s < suc i → remove s i ≡ s
all_kept [] zero past = refl
all_kept [] (suc i) past = refl
all_kept (v ∷ s) zero past = absurd (let bad : ⊥ = omega (arith, past) in bad)
all_kept (v ∷ s) (suc i) past = ap (λ t. v ∷ t) (all_kept s i (omega (arith, past)))

pub none_removed : (i : ℕ) → remove {X = Vertex} [] i ≡ []
none_removed zero = refl
none_removed (suc i) = refl

pub none_there : (s : Simplex) → length s ≡ 0 → is_nonempty s ≡ false
none_there [] none = refl
none_there (v ∷ s) none = absurd (let bad : ⊥ = omega (arith, none) in bad)
