-- The order of simplices is total, and tells apart what differs.
use Rattle.std.specs.Prelude.{◌≡◌, ℕ, Bool, true, false, ◌==◌, List, [], ◌∷◌}
use Rattle.std.proofs.Common.{refl, sym, ap, length, ◌∙◌, ◌&&◌, length, eqb-true, eq-eqb}
use Rattle.std.specs.Bool.{Decides}
use Rattle.std.specs.declared.cmp.Ordering.{Ordering}
use Rattle.std.specs.declared.cmp.Ordering.TheVariants.{Less, Equal, Greater}
use Rattle.std.specs.Ordering.{ordering_then, nat_cmp, eq_by_cmp}
use Rattle.std.specs.Cmp.{IsTotalOrder, IsEquivalence, then_total, on_total, nat_cmp_total, ranked, decided, both_ways, Equal-is, tied_itself}
use Rattle.std.specs.Cmp.Lexicographic.{slice_cmp, lists_total, pointwise, pointwise_decides}
use Rattle.wf_model.specs.Simplex.{Vertex, Simplex, same_vertex, vertex_cmp, simplex_cmp}

-- whether two simplices have the same vertices at the same places
abbrev pub same_simplex : Simplex → Simplex → Bool
same_simplex s t = pointwise same_vertex s t

pub vertex_cmp-total : IsTotalOrder vertex_cmp
vertex_cmp-total = then_total (on_total (λ (v : Vertex). v.0) nat_cmp_total) (on_total (λ (v : Vertex). v.1) nat_cmp_total)

pub simplex_cmp-total : IsTotalOrder simplex_cmp
simplex_cmp-total = then_total (on_total (λ (s : Simplex). length s) nat_cmp_total) (lists_total vertex_cmp-total)

first_equal : (r s : Ordering) → ordering_then r s ≡ Equal → r ≡ Equal
first_equal Less s h = cc
first_equal Equal s h = refl
first_equal Greater s h = cc

second_equal : (r s : Ordering) → ordering_then r s ≡ Equal → s ≡ Equal
second_equal Less s h = cc
second_equal Equal s h = h
second_equal Greater s h = cc

pub nat_cmp-Equal : (x y : ℕ) → nat_cmp x y ≡ Equal → x ≡ y
nat_cmp-Equal x y h = ranked x y Equal (sym h)

pub slice_cmp-Equal : {X : Type 0} (R : X → X → Ordering) → ((x y : X) → R x y ≡ Equal → x ≡ y) → (xs ys : List X) → slice_cmp R xs ys
    ≡ Equal → xs ≡ ys
slice_cmp-Equal R same [] [] h = refl
slice_cmp-Equal R same [] (y ∷ ys) h = cc
slice_cmp-Equal R same (x ∷ xs) [] h = cc
slice_cmp-Equal R same (x ∷ xs) (y ∷ ys) h =
    let e = same x y (first_equal (R x y) (slice_cmp R xs ys) h) in
    let f = slice_cmp-Equal R same xs ys (second_equal (R x y) (slice_cmp R xs ys) h) in
    λ i. e i ∷ f i

vertex_cmp-Equal : (v w : Vertex) → vertex_cmp v w ≡ Equal → v ≡ w
vertex_cmp-Equal v w h =
    let e = nat_cmp-Equal v.0 w.0 (first_equal (nat_cmp v.0 w.0) (nat_cmp v.1 w.1) h) in
    let f = nat_cmp-Equal v.1 w.1 (second_equal (nat_cmp v.0 w.0) (nat_cmp v.1 w.1) h) in
    λ i. (e i, f i)

-- simplices that the order does not tell apart are one
pub simplex_cmp-Equal : (s t : Simplex) → simplex_cmp s t ≡ Equal → s ≡ t
simplex_cmp-Equal s t h =
    slice_cmp-Equal vertex_cmp vertex_cmp-Equal s t (second_equal (nat_cmp (length s) (length t)) (slice_cmp vertex_cmp s t) h)

and_first : (a b : Bool) → (a && b) ≡ true → a ≡ true
and_first true b h = refl
and_first false b h = h

and_second : (a b : Bool) → (a && b) ≡ true → b ≡ true
and_second true b h = h
and_second false b h = cc

same_vertex-decides : (v w : Vertex) → Decides (same_vertex v w) (v ≡ w)
same_vertex-decides v w = (
  λ h. (let e = eqb-true v.0 w.0 (and_first (v.0 == w.0) (v.1 == w.1) h) in
      let f = eqb-true v.1 w.1 (and_second (v.0 == w.0) (v.1 == w.1) h) in
      λ i. (e i, f i)),
  λ e. (λ i. eq-eqb v.0 w.0 (ap (λ (u : Vertex). u.0) e) i && eq-eqb v.1 w.1 (ap (λ (u : Vertex). u.1) e) i),
)

-- the test of two simplices tells whether they are one
pub same_simplex-decides : (s t : Simplex) → Decides (same_simplex s t) (s ≡ t)
same_simplex-decides = pointwise_decides same_vertex-decides

pub same_simplex-equivalence : IsEquivalence same_simplex
same_simplex-equivalence = decided same_simplex same_simplex-decides

pub simplex_cmp-itself : (s t : Simplex) → s ≡ t → simplex_cmp s t ≡ Equal
simplex_cmp-itself s t e = ap (simplex_cmp s) (sym e) ∙ tied_itself simplex_cmp-total s

pub same_simplex-ties : (s t : Simplex) → same_simplex s t ≡ eq_by_cmp simplex_cmp s t
same_simplex-ties s t =
    both_ways (same_simplex s t) (eq_by_cmp simplex_cmp s t)
    (λ h. (Equal-is (simplex_cmp s t)).1 (simplex_cmp-itself s t ((same_simplex-decides s t).0 h)))
    (λ h. (same_simplex-decides s t).1 (simplex_cmp-Equal s t ((Equal-is (simplex_cmp s t)).0 h)))
