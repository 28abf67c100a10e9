-- The order of multipliers is total, and tells apart what differs.
use Rattle.std.specs.Prelude.{◌≡◌, Bool, ◌==◌, ◌&&◌}
use Rattle.std.proofs.Common.{refl}
use Rattle.std.specs.declared.cmp.Ordering.{Ordering}
use Rattle.std.specs.declared.cmp.Ordering.TheVariants.{Less, Equal, Greater}
use Rattle.std.specs.Ordering.{ordering_then, nat_cmp, eq_by_cmp}
use Rattle.std.specs.Cmp.{IsTotalOrder, IsEquivalence, then_total, on_total, nat_cmp_total, and_equiv, on_equiv, nat_eq_equiv, both_tied, unsigned_ties}
use Rattle.std.specs.Cmp.Lexicographic.{slice_cmp, pointwise, nat_list_cmp_total, nat_list_eq_equiv, texts_ties}
use Rattle.wf_simplex.specs.Order.{nat_cmp-Equal, slice_cmp-Equal}
use Rattle.wf_tree_model.specs.Balance.{Multiplier}
use Rattle.wf_tree_explain.specs.Lists.{same_line}
use Rattle.wf_tree_explain.specs.Words.{multiplier_cmp}

-- whether two multipliers have one simplex, one place, one weight and the same values
abbrev pub same_multiplier : Multiplier → Multiplier → Bool
same_multiplier x y = same_line x y && pointwise (λ a b. a == b) x.others y.others

abbrev by_place : Multiplier → Multiplier → Ordering
by_place x y = ordering_then (nat_cmp x.simplex y.simplex) (nat_cmp x.place y.place)

abbrev by_line : Multiplier → Multiplier → Ordering
by_line x y = ordering_then (by_place x y) (nat_cmp x.weight y.weight)

pub multiplier_cmp-total : IsTotalOrder multiplier_cmp
multiplier_cmp-total =
    then_total
    (then_total (then_total (on_total (λ (x : Multiplier). x.simplex) nat_cmp_total) (on_total (λ (x : Multiplier). x.place) nat_cmp_total)) (on_total (λ (x : Multiplier). x.weight) nat_cmp_total))
    (on_total (λ (x : Multiplier). x.others) nat_list_cmp_total)

pub same_multiplier-equivalence : IsEquivalence same_multiplier
same_multiplier-equivalence =
    and_equiv
    (and_equiv (and_equiv (on_equiv (λ (x : Multiplier). x.simplex) nat_eq_equiv) (on_equiv (λ (x : Multiplier). x.place) nat_eq_equiv)) (on_equiv (λ (x : Multiplier). x.weight) nat_eq_equiv))
    (on_equiv (λ (x : Multiplier). x.others) nat_list_eq_equiv)

pub same_multiplier-ties : (x y : Multiplier) → same_multiplier x y ≡ eq_by_cmp multiplier_cmp x y
same_multiplier-ties x y =
    both_tied (same_line x y) (pointwise (λ a b. a == b) x.others y.others) (by_line x y) (slice_cmp nat_cmp x.others y.others)
    (both_tied ((x.simplex == y.simplex) && (x.place == y.place)) (x.weight == y.weight) (by_place x y) (nat_cmp x.weight y.weight)
    (both_tied (x.simplex == y.simplex) (x.place == y.place) (nat_cmp x.simplex y.simplex) (nat_cmp x.place y.place) (unsigned_ties x.simplex y.simplex) (unsigned_ties x.place y.place))
    (unsigned_ties x.weight y.weight))
    (texts_ties x.others y.others)

first_equal : (r s : Ordering) → ordering_then r s ≡ Equal → r ≡ Equal
first_equal Less s h = cc
first_equal Equal s h = refl
first_equal Greater s h = cc

second_equal : (r s : Ordering) → ordering_then r s ≡ Equal → s ≡ Equal
second_equal Less s h = cc
second_equal Equal s h = h
second_equal Greater s h = cc

-- multipliers that the order does not tell apart are one
pub multiplier_cmp-Equal : (x y : Multiplier) → multiplier_cmp x y ≡ Equal → x ≡ y
multiplier_cmp-Equal x y h =
    let by_values = slice_cmp nat_cmp x.others y.others in
    let line = first_equal (by_line x y) by_values h in
    let place = first_equal (by_place x y) (nat_cmp x.weight y.weight) line in
    let e = nat_cmp-Equal x.simplex y.simplex (first_equal (nat_cmp x.simplex y.simplex) (nat_cmp x.place y.place) place) in
    let f = nat_cmp-Equal x.place y.place (second_equal (nat_cmp x.simplex y.simplex) (nat_cmp x.place y.place) place) in
    let g = nat_cmp-Equal x.weight y.weight (second_equal (by_place x y) (nat_cmp x.weight y.weight) line) in
    let k = slice_cmp-Equal nat_cmp nat_cmp-Equal x.others y.others (second_equal (by_line x y) by_values h) in
    λ i. record { simplex = e i; place = f i; others = k i; weight = g i }
