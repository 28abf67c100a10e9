-- Multipliers in order.
use Rattle.std.proofs.Common.{◌≡◌, ◌<◌, ◌≤◌, ℕ, ◌+◌, List, [], ◌∷◌, ◌++◌, length, take, take_all, sym, ap, ◌∙◌}
use Rattle.std.specs.List.{slice_index_or}
use Rattle.std.specs.List.Retain.{IsFiltered, DiffersFromLast}
use Rattle.std.specs.List.Sorted.{IsPermutation, IsSorted}
use Rattle.std.proofs.lemmas.List.{take_more, map-append}
use Rattle.wf_model.specs.Lists.{in_order}
use Rattle.wf_simplex.proofs.Lemmas.{in_order-dedup}
use Rattle.wf_tree_model.specs.Balance.{Multiplier}
use Rattle.wf_tree_steps.specs.Balance.Multipliers.{multiplier_seen, multipliers_seen}
use Rattle.wf_tree_steps.specs.declared.balance.multiplier.Multiplier as code
use Rattle.wf_tree_explain.specs.Words.{multiplier_cmp}
use Rattle.wf_tree_explain.specs.Order.{same_multiplier, same_multiplier-equivalence, same_multiplier-ties, multiplier_cmp-Equal, multiplier_cmp-total}

-- one more multiplier
pub entry_more : (entries new : List Multiplier) (xs : List code.Multiplier) (i : ℕ) (x : code.Multiplier) (entry : Multiplier) → i < length xs → x ≡ slice_index_or xs i x → entry ≡ multiplier_seen x
    → entries ≡ multipliers_seen (take i xs) → new ≡ entries ++ (entry ∷ []) → new ≡ multipliers_seen (take (i + 1) xs)
entry_more entries new xs i x entry low is seen so_far next =
    let longer = ap multipliers_seen (take_more xs i x low ∙ ap (λ y. take i xs ++ (y ∷ [])) (sym is)) ∙ map-append multiplier_seen (take i xs) (x ∷ []) in
    next ∙ (λ j. so_far j ++ (seen j ∷ [])) ∙ sym longer

pub entries_sorted : (xs : List code.Multiplier) (i : ℕ) (entries sorted once : List Multiplier) → length xs ≤ i → entries ≡ multipliers_seen (take i xs)
    → IsPermutation entries sorted → IsSorted multiplier_cmp sorted → IsFiltered (DiffersFromLast same_multiplier) [] sorted once
    → once ≡ in_order multiplier_cmp (multipliers_seen xs)
entries_sorted xs i entries sorted once whole are moved ascend filtered =
    in_order-dedup multiplier_cmp multiplier_cmp-total multiplier_cmp-Equal same_multiplier-equivalence same_multiplier-ties entries sorted once moved ascend filtered
    ∙ ap (in_order multiplier_cmp) (are ∙ ap multipliers_seen (take_all i xs whole))
