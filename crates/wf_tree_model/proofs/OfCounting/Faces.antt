-- Rules are listed, and what holds of each simplex of a complex holds of each part of one that
-- isn't empty.
use Rattle.std.proofs.Common.{◌≡◌, ℕ, ◌<◌, Bool, true, false, List, [], ◌∷◌, map, filter, flat_map, length, Contains, refl, sym, subst, ◌∙◌, inl, inr}
use Rattle.std.specs.List.{AllByRecursion}
use Rattle.std.specs.declared.cmp.Ordering.{Ordering}
use Rattle.std.specs.declared.cmp.Ordering.TheVariants.{Less, Equal, Greater}
use Rattle.std.specs.Ordering.{match_ordering, nat_cmp, ordering_then}
use Rattle.std.specs.Cmp.Lexicographic.{slice_cmp}
use Rattle.std.specs.FinMap.{IsAntisymmetric, nat_cmp-IsAntisymmetric, slice_cmp-IsAntisymmetric}
use Rattle.std.proofs.lemmas.Bool.{cases_Bool, false≢true}
use Rattle.std.proofs.lemmas.List.Elements.{Contains-get_or}
use Rattle.wf_model.specs.Lists.{in_order, with_element}
use Rattle.wf_model.specs.Simplex.{Simplex, Vertex, complex_of, faces_of, is_nonempty, parts_of, simplex_cmp, vertex_cmp}
use Rattle.wf_model.proofs.Lemmas.{each_of_map}
use Rattle.wf_model.specs.Task.{Task}
use Rattle.wf_tree_model.specs.Counting.Rules.{no_rule, rule_at}
use Rattle.wf_tree_model.specs.Counting.Signs.{keep}
use Rattle.wf_tree_model.proofs.OfCounting.Lists.{both_ends, contained, each_of_flat}

pub listed_rule : (t : Task) (n : ℕ) → n < length t.delta → Contains t.delta (rule_at t n)
listed_rule t n inside = Contains-get_or t.delta n no_rule inside

-- ---- the order of simplices

first_equal : (r s : Ordering) → ordering_then r s ≡ Equal → r ≡ Equal
first_equal Less s h = cc
first_equal Equal s h = refl
first_equal Greater s h = cc

second_equal : (r s : Ordering) → ordering_then r s ≡ Equal → s ≡ Equal
second_equal Less s h = cc
second_equal Equal s h = h
second_equal Greater s h = cc

same_vertices : (v w : Vertex) → vertex_cmp v w ≡ Equal → v ≡ w
same_vertices v w h =
    let p = nat_cmp-IsAntisymmetric v.0 w.0 (first_equal (nat_cmp v.0 w.0) (nat_cmp v.1 w.1) h) in
    let x = nat_cmp-IsAntisymmetric v.1 w.1 (second_equal (nat_cmp v.0 w.0) (nat_cmp v.1 w.1) h) in
    λ i. (p i, x i)

same_simplices : (s t : Simplex) → simplex_cmp s t ≡ Equal → s ≡ t
same_simplices s t h = slice_cmp-IsAntisymmetric same_vertices s t (second_equal (nat_cmp (length s) (length t)) (slice_cmp vertex_cmp s t) h)

-- ---- lists in order

module _ {X : Type 0} (P : X → Type 0) (cmp : X → X → Ordering) (same : IsAntisymmetric cmp) where
  with_element_each : (x : X) (ys : List X) → AllByRecursion P (with_element cmp x ys) → P x × AllByRecursion P ys
  with_element_each x [] h = (h.0, tt)
  with_element_each x (y ∷ ys) h = by (with_element_each x ys) (cmp x y) refl h
    where
      by : (AllByRecursion P (with_element cmp x ys) → P x × AllByRecursion P ys) → (r : Ordering) → cmp x y ≡ r →
          AllByRecursion P (match_ordering r (x ∷ y ∷ ys) (y ∷ ys) (y ∷ with_element cmp x ys)) → P x × AllByRecursion P (y ∷ ys)
      by deeper Less is h = (h.0, h.1)
      by deeper Equal is h = (subst P (sym (same x y is)) h.0, h)
      by deeper Greater is h = let later = deeper h.1 in (later.0, (h.0, later.1))

  in_order_each : (xs : List X) → AllByRecursion P (in_order cmp xs) → AllByRecursion P xs
  in_order_each [] h = tt
  in_order_each (x ∷ xs) h = let parts = with_element_each x (in_order cmp xs) h in (parts.0, in_order_each xs parts.1)

-- ---- parts

each_part : {X : Type 0} (P : List X → Type 0) (mask : List Bool) (xs : List X) → length mask ≡ length xs → AllByRecursion P (parts_of xs) → P (keep mask xs)
each_part P [] [] many h = h.0
each_part P [] (x ∷ xs) many h = absurd (let none : ⊥ = cc in none)
each_part P (kept ∷ mask) [] many h = absurd (let none : ⊥ = cc in none)
each_part P (true ∷ mask) (x ∷ xs) many h =
    let ends = both_ends P (map (λ rest. x ∷ rest) (parts_of xs)) (parts_of xs) h in
    each_part (λ ys. P (x ∷ ys)) mask xs (let e : length mask ≡ length xs = cc in e) (each_of_map P (λ rest. x ∷ rest) (parts_of xs) ends.0)
each_part P (false ∷ mask) (x ∷ xs) many h =
    let ends = both_ends P (map (λ rest. x ∷ rest) (parts_of xs)) (parts_of xs) h in
    each_part P mask xs (let e : length mask ≡ length xs = cc in e) ends.1

each_of_filter : {X : Type 0} (P : X → Type 0) (test : X → Bool) (xs : List X) → AllByRecursion P (filter test xs) → AllByRecursion (λ x. test x ≡ true → P x) xs
each_of_filter P test [] h = tt
each_of_filter P test (x ∷ xs) h =
    elim (cases_Bool (test x)) [
      | inl yes' ↦ let parts = rw yes' at h in (λ is. parts.0, each_of_filter P test xs parts.1)
      | inr no' ↦ let rest = rw no' at h in (λ is. absurd (false≢true (sym no' ∙ is)), each_of_filter P test xs rest)
    ]

-- a part of a simplex of the complex, where it isn't empty
pub on_each_face : (P : Simplex → Type 0) (complex : List Simplex) → complex_of complex ≡ complex → AllByRecursion P complex → (s : Simplex) → Contains complex s →
    (mask : List Bool) → length mask ≡ length s → is_nonempty (keep mask s) ≡ true → P (keep mask s)
on_each_face P complex closed h s there mask many some =
    let of_all = in_order_each P simplex_cmp same_simplices (flat_map faces_of complex) (subst (AllByRecursion P) (sym closed) h) in
    let of_one = contained (λ u. AllByRecursion P (faces_of u)) complex s (each_of_flat P faces_of complex of_all) there in
    each_part (λ u. is_nonempty u ≡ true → P u) mask s many (each_of_filter P is_nonempty (parts_of s) of_one) some
