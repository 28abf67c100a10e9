-- Complexes of the images of input simplices.
use Rattle.std.proofs.Common.{◌≡◌, ◌<◌, true, List, [], ◌∷◌, length, map, flat_map, zip, refl, arith}
use Rattle.wf_model.specs.Simplex.{Simplex, processes_of, is_nonempty, parts_of, faces_of, simplex_cmp, complex_of}
use Rattle.wf_model.specs.Task.{Tuple}
use Rattle.wf_simplex.specs.Order.{simplex_cmp-total, simplex_cmp-Equal}
use Rattle.wf_simplex.proofs.Lemmas.{Has, same_in_order, filter-has, has-flat_map, flat_map-has, whole_is_part, is_in_complex, of_some_facet, complex_closed, complex_of-sorted, map-has, has-map}

pub nonempty-long : {X : Type 0} (s : List X) → 0 < length s → is_nonempty s ≡ true
nonempty-long [] h = absurd (let none : ⊥ = omega (arith, h) in none)
nonempty-long (x ∷ s) h = refl

pub part-face : (s t : Simplex) → Has t (parts_of s) → is_nonempty t ≡ true → Has t (faces_of s)
part-face s t h some = filter-has is_nonempty t (parts_of s) h some

pub facet-in : (s : Simplex) (facets : List Simplex) → Has s facets → is_nonempty s ≡ true → Has s (complex_of facets)
facet-in s facets h some = is_in_complex s s facets h (part-face s s (whole_is_part s) some)

-- complexes whose facets lie in one another are one
pub complex_of-same : (a b : List Simplex) → ((s : Simplex) → Has s a → Has s (complex_of b)) → ((s : Simplex) → Has s b → Has s (complex_of a)) → complex_of a ≡ complex_of b
complex_of-same a b f g =
    same_in_order simplex_cmp simplex_cmp-total simplex_cmp-Equal (complex_of a) (complex_of b) (complex_of-sorted a) (complex_of-sorted b)
    (λ t h. (let s = of_some_facet t a h in complex_closed s.0 t b (f s.0 s.1) s.2))
    (λ t h. (let s = of_some_facet t b h in complex_closed s.0 t a (g s.0 s.1) s.2))

-- the tuples of input simplices, each on the processes of its simplex
abbrev pub images : (Simplex → List Tuple) → List Simplex → List Simplex
images tuples inputs = flat_map (λ s. map (zip (processes_of s)) (tuples s)) inputs

-- an image is one tuple of one simplex
pub record IsImage (tuples : Simplex → List Tuple) (inputs : List Simplex) (t s : Simplex) (tuple : Tuple) : Type 0 where
  pub input : Has s inputs
  pub decided : Has tuple (tuples s)
  pub same : zip (processes_of s) tuple ≡ t

pub has-images : (tuples : Simplex → List Tuple) (inputs : List Simplex) (t : Simplex) → Has t (images tuples inputs) → (s : Simplex) × (tuple : Tuple) × IsImage tuples inputs t s tuple
has-images tuples inputs t h =
    let s = has-flat_map (λ s. map (zip (processes_of s)) (tuples s)) t inputs h in
    let tuple = has-map (zip (processes_of s.0)) t (tuples s.0) s.2 in
    (s.0, tuple.0, record { input = s.1; decided = tuple.1; same = tuple.2 })

pub images-has : (tuples : Simplex → List Tuple) (inputs : List Simplex) (s : Simplex) (tuple : Tuple) → Has s inputs → Has tuple (tuples s) → Has (zip (processes_of s) tuple) (images tuples inputs)
images-has tuples inputs s tuple h g = flat_map-has (λ u. map (zip (processes_of u)) (tuples u)) (zip (processes_of s) tuple) s inputs h (map-has (zip (processes_of s)) tuple (tuples s) g)
