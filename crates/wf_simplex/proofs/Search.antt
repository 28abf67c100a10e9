-- What a binary search finds among simplices in order.
use Rattle.std.proofs.Common.{◌≡◌, ℕ, ◌+◌, ◌<◌, ◌≤◌, Bool, true, false, nat_lt, ltb-true, ltb-false, ◌⊎◌, inl, inr, List, length, get_or, slice_get, slice_index_or, Some, Contains, refl, sym, ap, ◌∙◌, subst, arith}
use Rattle.std.specs.declared.cmp.Ordering.TheVariants.{Less, Equal, Greater}
use Rattle.std.specs.Ordering.{ordering_index, is_lt, ordering_reverse}
use Rattle.std.specs.Cmp.{tied_itself}
use Rattle.std.specs.List.{AllWithin}
use Rattle.std.specs.List.Sorted.{IsStrictlySortedBy, IsSortedBy, IsNonDecreasingBy, IsPartitionPoint}
use Rattle.std.proofs.lemmas.List.Sorted.{searchable_from_sorted}
use Rattle.std.proofs.lemmas.Map.Keys.{Less-from_sorted}
use Rattle.std.proofs.lemmas.Option.{slice_get-get_or}
use Rattle.wf_model.specs.Simplex.{Simplex, simplex_cmp}
use Rattle.wf_simplex.specs.Order.{simplex_cmp-total, simplex_cmp-Equal}

pub found_at : (complex searched : List Simplex) (s : Simplex) (i : ℕ) → searched ≡ complex → i < length searched
    → ((d : Simplex) → simplex_cmp (slice_index_or searched i d) s ≡ Equal) → slice_get complex i ≡ Some s
found_at complex searched s i same inside equal =
    ap (λ xs. slice_get xs i) (sym same) ∙ slice_get-get_or searched i s inside ∙ ap Some (simplex_cmp-Equal (slice_index_or searched i s) s (equal s))

sorted : (xs : List Simplex) → IsStrictlySortedBy simplex_cmp xs → IsSortedBy (λ s t. is_lt (simplex_cmp s t)) xs
sorted xs h k d low inside =
    let up = Less-from_sorted simplex_cmp xs k (k + 1) d h (omega arith) inside in
    let down : simplex_cmp (get_or xs (k + 1) d) (get_or xs k d) ≡ Greater = simplex_cmp-total.antisymm (get_or xs (k + 1) d) (get_or xs k d) ∙ ap ordering_reverse up in
    ap is_lt down

beside : (xs : List Simplex) (s : Simplex) (i k : ℕ) → k < length xs → simplex_cmp (slice_index_or xs k s) s ≡ Equal
    → AllWithin (λ t. simplex_cmp t s ≡ Less) xs 0 i → AllWithin (λ t. simplex_cmp t s ≡ Greater) xs i (length xs) → ⊥
beside xs s i k inside equal below above = elim (split_at k i) [
  | inl low ↦ (let e : Less ≡ Equal = sym (below k s (omega arith) low) ∙ equal in cc)
  | inr high ↦ (let e : Greater ≡ Equal = sym (above k s high inside) ∙ equal in cc)
]
  where
    split_at : (k i : ℕ) → (k < i) ⊎ (i ≤ k)
    split_at k i = by (nat_lt k i) refl
      where
        by : (b : Bool) → nat_lt k i ≡ b → (k < i) ⊎ (i ≤ k)
        by true e = inl (ltb-true k i e)
        by false e = inr (ltb-false k i e)

pub not_found : (complex searched : List Simplex) (s : Simplex) (i : ℕ) → searched ≡ complex → IsStrictlySortedBy simplex_cmp complex
    → (IsNonDecreasingBy (λ t. ordering_index (simplex_cmp t s)) searched → IsPartitionPoint (λ t. simplex_cmp t s ≡ Less) (λ t. simplex_cmp t s ≡ Greater) searched i)
    → Contains complex s → ⊥
not_found complex searched s i same ascends split here =
    let up = searchable_from_sorted simplex_cmp-total (λ (t : Simplex). t) searched s (sorted searched (subst (IsStrictlySortedBy simplex_cmp) (sym same) ascends)) in
    let parts = split up in
    let there : Contains searched s = subst (λ xs. Contains xs s) (sym same) here in
    let equal : simplex_cmp (slice_index_or searched there.0 s) s ≡ Equal = ap (λ t. simplex_cmp t s) there.2 ∙ tied_itself simplex_cmp-total s in
    beside searched s i there.0 there.1 equal parts.0 parts.1
