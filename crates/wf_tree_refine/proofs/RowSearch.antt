-- What a binary search finds among tuples in order.
use Rattle.std.proofs.Common.{◌≡◌, ℕ, ◌+◌, ◌<◌, Bool, inl, inr, List, Result, Ok, Err, IfOk, filter, length, get_or, sym, ap, ◌∙◌, subst, arith}
use Rattle.std.specs.declared.cmp.Ordering.TheVariants.{Less, Equal, Greater}
use Rattle.std.specs.Ordering.{nat_cmp, is_lt, ordering_reverse}
use Rattle.std.specs.Cmp.{tied_itself}
use Rattle.std.specs.Cmp.Lexicographic.{slice_cmp, nat_list_cmp_total}
use Rattle.std.specs.List.{AllWithin, HoldsAt}
use Rattle.std.specs.List.Sorted.{IsStrictlySortedBy, IsSortedBy, IsBinarySearchResult, IsSearchInRange}
use Rattle.std.specs.Result.{is_ok}
use Rattle.std.proofs.lemmas.Bool.{cases_lt, false_from_ne_true}
use Rattle.std.proofs.lemmas.List.Sorted.{searchable_from_sorted}
use Rattle.std.proofs.lemmas.Map.Keys.{Less-from_sorted}
use Rattle.std.proofs.lemmas.Map.Lookups.{exact_bytes}
use Rattle.std.proofs.lemmas.List.Kept.{IsStrictlySortedBy-filter}
use Rattle.wf_model.specs.Lists.{in_order}
use Rattle.wf_model.specs.Task.{Tuple}
use Rattle.wf_simplex.proofs.Lemmas.{contains-has, has_at_place, in_order-sorted, sorted-in_order}
use Rattle.wf_tree_model.specs.Tuples.{has_tuple}
use Rattle.wf_tree_refine.proofs.Membership.{has-has_tuple, has_tuple-has}

pub in_order_sorted : (xs : List Tuple) → in_order (slice_cmp nat_cmp) xs ≡ xs → IsStrictlySortedBy (slice_cmp nat_cmp) xs
in_order_sorted xs e = subst (IsStrictlySortedBy (slice_cmp nat_cmp)) e (sorted-in_order (slice_cmp nat_cmp) nat_list_cmp_total exact_bytes xs)

-- some of the tuples in order are in order
pub filter_in_order : (p : Tuple → Bool) (xs : List Tuple) → in_order (slice_cmp nat_cmp) xs ≡ xs → in_order (slice_cmp nat_cmp) (filter p xs) ≡ filter p xs
filter_in_order p xs e =
    in_order-sorted (slice_cmp nat_cmp) nat_list_cmp_total exact_bytes (filter p xs) (IsStrictlySortedBy-filter (slice_cmp nat_cmp) p xs (in_order_sorted xs e))

sorted : (xs : List Tuple) → IsStrictlySortedBy (slice_cmp nat_cmp) xs → IsSortedBy (λ s t. is_lt (slice_cmp nat_cmp s t)) xs
sorted xs h k d low inside =
    let up = Less-from_sorted (slice_cmp nat_cmp) xs k (k + 1) d h (omega arith) inside in
    let down : slice_cmp nat_cmp (get_or xs (k + 1) d) (get_or xs k d) ≡ Greater = nat_list_cmp_total.antisymm (get_or xs (k + 1) d) (get_or xs k d) ∙ ap ordering_reverse up in
    ap is_lt down

beside : (xs : List Tuple) (s : Tuple) (i k : ℕ) → k < length xs → slice_cmp nat_cmp (get_or xs k s) s ≡ Equal
    → AllWithin (λ t. slice_cmp nat_cmp t s ≡ Less) xs 0 i → AllWithin (λ t. slice_cmp nat_cmp t s ≡ Greater) xs i (length xs) → ⊥
beside xs s i k inside equal below above = elim (cases_lt k i) [
  | inl low ↦ (let e : Less ≡ Equal = sym (below k s (omega arith) low) ∙ equal in cc)
  | inr high ↦ (let e : Greater ≡ Equal = sym (above k s high inside) ∙ equal in cc)
]

pub search_has : (rows : List Tuple) (row : Tuple) (r : Result ℕ ℕ) → in_order (slice_cmp nat_cmp) rows ≡ rows → IsSearchInRange r (length rows) → IfOk r (HoldsAt (λ y. slice_cmp nat_cmp y row ≡ Equal) rows)
    → IsBinarySearchResult (λ y. slice_cmp nat_cmp y row) rows r → is_ok r ≡ has_tuple rows row
search_has rows row (Ok i) ascends range here found =
    sym (has-has_tuple rows row (contains-has row rows (i, range, exact_bytes (get_or rows i row) row (here row))))
search_has rows row (Err i) ascends range here found =
    sym (false_from_ne_true (has_tuple rows row) (λ h.
    let there = has_at_place row rows (has_tuple-has rows row h) in
    let up = searchable_from_sorted nat_list_cmp_total (λ (t : Tuple). t) rows row (sorted rows (in_order_sorted rows ascends)) in
    let parts = found up in
    beside rows row i there.0 there.1 (ap (λ t. slice_cmp nat_cmp t row) there.2 ∙ tied_itself nat_list_cmp_total row) parts.0 parts.1))
