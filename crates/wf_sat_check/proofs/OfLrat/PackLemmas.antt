-- Laws of one step in which a clause is moved together with those before it.
use Rattle.std.proofs.Common.{◌≡◌, ℕ, ◌+◌, ◌-◌, ◌<◌, ◌≤◌, suc, List, [], ◌∷◌, ◌++◌, refl, sym, ◌∙◌, ap, subst, arith, length, take, drop, get_or, set}
use Rattle.std.specs.List.{CopiedTo, SameBelow, SameFrom}
use Rattle.std.proofs.lemmas.List.{drop-set-lt, drop_more, get_or-take, length-take-le, set_split, take-append-drop, take_all, take_more, take_more_set}
use Rattle.wf_sat_check.specs.Lrat.Slots.{AreLaid, ArePacked, slots_in}
use Rattle.wf_sat_check.proofs.OfLrat.LaidLemmas.{SameWords, laid-moved, laid-packed, laid_range, packed-append, packed-moved, packed-same, slots_in-moved, slots_in-same}

suc_before : (p : ℕ) → 0 < p → p ≡ suc (p - 1)
suc_before p pos = omega (arith, pos)

add_one : (n : ℕ) → n + 1 ≡ suc n
add_one n = omega arith

-- the places from a number on
drop_place : (places : List ℕ) (n : ℕ) → n < length places → 0 < get_or places n 0 → drop n places ≡ suc (get_or places n 0 - 1) ∷ drop (n + 1) places
drop_place places n less pos = drop_more places n 0 less ∙ ap (λ p. p ∷ drop (n + 1) places) (suc_before (get_or places n 0) pos)

split_place : (places : List ℕ) (n : ℕ) → n < length places → 0 < get_or places n 0 → take n places ++ suc (get_or places n 0 - 1) ∷ drop (n + 1) places ≡ places
split_place places n less pos = ap (λ ps. take n places ++ ps) (sym (drop_place places n less pos)) ∙ take-append-drop n places

-- the clause of this number lies behind those before, and in the list
module _ (arena places : List ℕ) (n end : ℕ) (less : n < length places) (pos : 0 < get_or places n 0) (laid : AreLaid arena end (drop n places) (length arena)) where
  pub here_laid : AreLaid arena end (suc (get_or places n 0 - 1) ∷ drop (n + 1) places) (length arena)
  here_laid = subst (λ ps. AreLaid arena end ps (length arena)) (drop_place places n less pos) laid

  pub here_behind : end + 1 ≤ get_or places n 0
  here_behind = let first = here_laid.0 in omega (arith, first, pos)

  pub here_within : get_or places n 0 + get_or arena (get_or places n 0 - 1) 0 ≤ length arena
  here_within =
      let rest = laid_range arena (suc (get_or places n 0 - 1) + get_or arena (get_or places n 0 - 1) 0) (drop (n + 1) places) (length arena) here_laid.1 in
      omega (arith, rest, pos)

-- a clause moves
module _ (old new places : List ℕ) (n end to words : ℕ)
    (less : n < length places)
    (pos : 0 < get_or places n 0)
    (packed : ArePacked old 0 (take n places) end)
    (laid : AreLaid old end (drop n places) (length old))
    (long : length new ≡ length old)
    (count : words ≡ suc (get_or old (get_or places n 0 - 1) 0))
    (past : to ≡ end + suc (get_or old (get_or places n 0 - 1) 0))
    (copied : CopiedTo old new (get_or places n 0 - 1) end words)
    (below : SameBelow old new end)
    (above : SameFrom old new (end + words)) where
  abbrev at : ℕ
  at = get_or places n 0 - 1

  copied_all : CopiedTo old new at end (suc (get_or old at 0))
  copied_all = subst (CopiedTo old new at end) count copied

  same_above : SameFrom old new (end + suc (get_or old at 0))
  same_above = subst (λ w. SameFrom old new (end + w)) count above

  pub step_packed : ArePacked new 0 (take (n + 1) (set places n (end + 1))) to
  step_packed =
      rw (take_more_set places n (end + 1) less, add_one end, past)
      (packed-moved old new (take n places) (drop (n + 1) places) end at packed (here_laid old places n end less pos laid) long copied_all below same_above)

  pub step_laid : AreLaid new to (drop (n + 1) (set places n (end + 1))) (length new)
  step_laid =
      rw (drop-set-lt (n + 1) places n (end + 1) (omega arith), past)
      (laid-moved old new (take n places) (drop (n + 1) places) end at packed (here_laid old places n end less pos laid) long copied_all below same_above)

  pub step_slots : slots_in new (set places n (end + 1)) ≡ slots_in old places
  step_slots =
      ap (slots_in new) (set_split places n (end + 1) less ∙ ap (λ p. take n places ++ p ∷ drop (suc n) places) (add_one end) ∙ ap (λ k. take n places ++ suc end ∷ drop k places) (sym (add_one n)))
      ∙ slots_in-moved old new (take n places) (drop (n + 1) places) end at packed (here_laid old places n end less pos laid) long copied_all below same_above
      ∙ ap (slots_in old) (split_place places n less pos)

-- there is no clause of this number
module _ (arena places : List ℕ) (n end : ℕ) (less : n < length places) (none : get_or places n 0 ≡ 0) where
  pub none_packed : ArePacked arena 0 (take n places) end → ArePacked arena 0 (take (n + 1) places) end
  none_packed packed =
      subst (λ ps. ArePacked arena 0 ps end) (sym (take_more places n 0 less ∙ ap (λ p. take n places ++ p ∷ []) none))
      (packed-append arena 0 (take n places) end (0 ∷ []) end packed refl)

  pub none_laid : AreLaid arena end (drop n places) (length arena) → AreLaid arena end (drop (n + 1) places) (length arena)
  none_laid laid = subst (λ ps. AreLaid arena end ps (length arena)) (drop_more places n 0 less ∙ ap (λ p. p ∷ drop (n + 1) places) none) laid

-- what is behind the last clause goes
module _ (arena places : List ℕ) (n end : ℕ) (all : length places ≤ n) (packed : ArePacked arena 0 (take n places) end) (laid : AreLaid arena end (drop n places) (length arena)) where
  end_within : end ≤ length arena
  end_within = laid_range arena end (drop n places) (length arena) laid

  packed_all : ArePacked arena 0 places end
  packed_all = subst (λ ps. ArePacked arena 0 ps end) (take_all n places all) packed

  same_front : SameWords arena (take end arena) 0 end
  same_front k low high = get_or-take end arena k 0 high

  pub front_packed : ArePacked (take end arena) 0 places (length (take end arena))
  front_packed =
      subst (ArePacked (take end arena) 0 places) (sym (length-take-le end arena end_within))
      (packed-same arena (take end arena) 0 places end same_front packed_all)

  pub front_slots : slots_in (take end arena) places ≡ slots_in arena places
  front_slots =
      let long : length (take end arena) ≡ end = length-take-le end arena end_within in
      slots_in-same arena (take end arena) 0 places end end_within (omega (arith, long)) same_front (laid-packed arena 0 places end packed_all)
