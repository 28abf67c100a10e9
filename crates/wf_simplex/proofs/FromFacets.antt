-- The complex of facets from all their faces.
use Rattle.std.proofs.Common.{◌≡◌, ℕ, ◌+◌, ◌*◌, ◌≤◌, ◌<◌, List, [], ◌∷◌, ◌++◌, length, flat_map, take, All, slice_index_or, inl, inr, sym, ap, ◌∙◌, subst, arith, append-nil, length-append, take_all}
use Rattle.std.proofs.lemmas.List.{take_more}
use Rattle.std.proofs.lemmas.Grind.{flat_map-append}
use Rattle.std.proofs.lemmas.List.Elements.{All-head, All-tail, All-push}
use Rattle.std.specs.List.Retain.{IsFiltered, DiffersFromLast}
use Rattle.std.specs.List.Sorted.{IsPermutation, IsSorted}
use Rattle.wf_model.specs.Lists.{in_order}
use Rattle.wf_model.specs.Simplex.{Simplex, faces_of, simplex_cmp, complex_of}
use Rattle.wf_model.specs.Task.{IsTaskSimplex}
use Rattle.wf_simplex.specs.Adding.{AreAdded, faces_in_turn}
use Rattle.wf_simplex.specs.Faces.{IsComplex}
use Rattle.wf_simplex.specs.Order.{same_simplex, same_simplex-equivalence, same_simplex-ties, simplex_cmp-total, simplex_cmp-Equal}
use Rattle.wf_simplex.proofs.Adding.{added-append}
use Rattle.wf_simplex.proofs.Orders.{contains-has, has_at_place, in_order-dedup, in_order-same, length-in_order}
use Rattle.wf_simplex.proofs.Faces.{complex_of-complex_of, complex_of-sorted, has-flat_map, flat_map-has, length-faces_of}
use Rattle.wf_simplex.proofs.FacesInOrder.{in_turn-has, has-in_turn}
use Rattle.wf_simplex.proofs.BoundedFaces.{complex_within, length-within}

-- ---- one facet more

facet_more : (facets : List Simplex) (i : ℕ) (f : Simplex) → i < length facets → f ≡ slice_index_or facets i f → take (i + 1) facets ≡ take i facets ++ (f ∷ [])
facet_more facets i f h is = take_more facets i f h ∙ ap (λ g. take i facets ++ (g ∷ [])) (sym is)

pub faces_more : (facets faces more new : List Simplex) (i : ℕ) (f : Simplex) → i < length facets → f ≡ slice_index_or facets i f
    → AreAdded [] (flat_map faces_in_turn (take i facets)) faces → more ≡ faces_in_turn f → AreAdded faces more new → AreAdded [] (flat_map faces_in_turn (take (i + 1) facets)) new
faces_more facets faces more new i f inside here are is added =
    let next : flat_map faces_in_turn (take (i + 1) facets) ≡ flat_map faces_in_turn (take i facets) ++ more =
    ap (flat_map faces_in_turn) (facet_more facets i f inside here) ∙ flat_map-append faces_in_turn (take i facets) (f ∷ [])
    ∙ ap (λ fs. flat_map faces_in_turn (take i facets) ++ fs) (append-nil (faces_in_turn f) ∙ sym is) in
    subst (λ fs. AreAdded [] fs new) (sym next) (added-append [] (flat_map faces_in_turn (take i facets)) faces more new are added)

pub within_more : (facets : List Simplex) (i : ℕ) (f : Simplex) → i < length facets → f ≡ slice_index_or facets i f
    → All IsTaskSimplex (take i facets) → IsTaskSimplex f → All IsTaskSimplex (take (i + 1) facets)
within_more facets i f inside here all one = subst (All IsTaskSimplex) (sym (facet_more facets i f inside here)) (All-push IsTaskSimplex (take i facets) f all one)

pub facets_within : (facets : List Simplex) (i : ℕ) → length facets ≤ i → All IsTaskSimplex (take i facets) → All IsTaskSimplex facets
facets_within facets i whole within = subst (All IsTaskSimplex) (take_all i facets whole) within

-- ---- all faces

few_faces : (facets : List Simplex) → All IsTaskSimplex facets → length (flat_map faces_of facets) ≤ 16 * length facets
few_faces [] h = omega arith
few_faces (f ∷ facets) h =
    let rest = few_faces facets (All-tail IsTaskSimplex f facets h) in
    let one = length-faces_of f (length-within 4 255 f (All-head IsTaskSimplex f facets h)) in
    omega (arith, rest, one, length-append (faces_of f) (flat_map faces_of facets))

complex_in_turn : (facets : List Simplex) → complex_of facets ≡ in_order simplex_cmp (flat_map faces_in_turn facets)
complex_in_turn facets =
    in_order-same simplex_cmp simplex_cmp-total simplex_cmp-Equal (flat_map faces_of facets) (flat_map faces_in_turn facets)
    (λ t h. (let f = has-flat_map faces_of t facets h in flat_map-has faces_in_turn t f.0 facets f.1 (has-in_turn f.0 t f.2)))
    (λ t h. (let f = has-flat_map faces_in_turn t facets h in flat_map-has faces_of t f.0 facets f.1 (in_turn-has f.0 t f.2)))

-- all faces that were sorted, each kept once
pub faces_sorted : (facets : List Simplex) (i : ℕ) (faces moved once : List Simplex) → length facets ≤ i → AreAdded [] (flat_map faces_in_turn (take i facets)) faces
    → IsPermutation faces moved → IsSorted simplex_cmp moved → IsFiltered (DiffersFromLast same_simplex) [] moved once → once ≡ complex_of facets
faces_sorted facets i faces moved once whole are permuted ascend filtered =
    let all = flat_map faces_in_turn (take i facets) in
    in_order-dedup simplex_cmp simplex_cmp-total simplex_cmp-Equal same_simplex-equivalence same_simplex-ties faces moved once permuted ascend filtered
    ∙ in_order-same simplex_cmp simplex_cmp-total simplex_cmp-Equal faces all
    (λ t h. elim (are.only t (has_at_place t faces h)) [ inl none ↦ absurd (contains-has t [] none) | inr here ↦ contains-has t all here ])
    (λ t h. contains-has t faces (are.more t (has_at_place t all h)))
    ∙ ap (λ fs. in_order simplex_cmp (flat_map faces_in_turn fs)) (take_all i facets whole)
    ∙ sym (complex_in_turn facets)

pub is_complex : (facets simplices : List Simplex) → simplices ≡ complex_of facets → All IsTaskSimplex facets → length facets ≤ 16777216 → IsComplex simplices
is_complex facets simplices are within few = subst IsComplex (sym are) record {
  ascending = complex_of-sorted facets;
  closed = complex_of-complex_of facets;
  within = complex_within 4 255 facets within;
  countable = omega (arith, few, length-in_order simplex_cmp (flat_map faces_of facets), few_faces facets within);
}
