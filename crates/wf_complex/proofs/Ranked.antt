-- Views with ranks in place of their processes, one after another.
use Rattle.std.proofs.Common.{◌≡◌, ◌<◌, ◌≤◌, ◌==◌, ◌||◌, ◌+◌, ◌^◌, max, ℕ, zero, suc, true, false, List, [], ◌∷◌, ◌++◌, map, filter, length, take, get_or, All, Some, slice_get, sym, refl, ap, ◌∙◌, subst, inl, inr, arith, eqb-true, eq-eqb, append_assoc, append-nil, length-append}
use Rattle.std.specs.Int.{bit_at}
use Rattle.std.specs.List.{list_any, AllByRecursion}
use Rattle.std.proofs.Math.ListN.{get_or-append}
use Rattle.std.proofs.lemmas.Bool.{cases_Bool, or_parts, or_left, or_right, both_ways}
use Rattle.std.proofs.lemmas.Nat.Bits.{bit_at_or, bit_at-zero, bit_at-lt, bit_at-pow_same, bit_at-pow_other}
use Rattle.std.proofs.lemmas.List.{take_all}
use Rattle.std.proofs.lemmas.Option.{slice_get_within, get_or_from_slice_get}
use Rattle.std.proofs.lemmas.List.Elements.{recursion_from_All, All-from_recursion, All-get_or}
use Rattle.wf_model.specs.Lists.{below, has}
use Rattle.wf_model.specs.View.{View, base, seen, Views, no_views, view, same_view, occurs, occurs_in, renamed, renamed_each, rank, normal}
use Rattle.wf_model.specs.Problem.{number_of}
use Rattle.wf_model.proofs.Lemmas.{Among, same_itself, weaker, each_append, Apart, other_way}
use Rattle.wf_complex.specs.Views.{view_at, with_view, inner_views, process_bits, process_bits_of_each, count_within}
use Rattle.wf_complex.specs.Renaming.{rank_in, are_lowest, SawAmong, SawEarlier, AreInside, number_beside, AreRenamed}
use Rattle.wf_complex.proofs.ShownViews.{views_at_front}
use Rattle.wf_complex.proofs.Steps.{slice_get-at}
use Rattle.wf_complex.proofs.Ranks.{own_rank}
use Rattle.wf_complex.proofs.NewNumbers.{each_take}
use Rattle.wf_complex.proofs.Renamed.{renamed_known}

-- ---- ranks by the processes that occur

or_bits : (a b : ℕ) → a < 2 → b < 2 → (max a b == 1) ≡ ((a == 1) || (b == 1))
or_bits zero zero h k = refl
or_bits zero (suc zero) h k = refl
or_bits zero (suc (suc b)) h k = absurd (let none : ⊥ = omega (arith, k) in none)
or_bits (suc zero) zero h k = refl
or_bits (suc zero) (suc zero) h k = refl
or_bits (suc zero) (suc (suc b)) h k = absurd (let none : ⊥ = omega (arith, k) in none)
or_bits (suc (suc a)) b h k = absurd (let none : ⊥ = omega (arith, h) in none)

bit_of_one : (q p : ℕ) → (bit_at (2 ^ p) q == 1) ≡ (q == p)
bit_of_one q p =
    elim (cases_Bool (q == p)) [
      | inl same ↦ rw same (rw (eqb-true q p same) (eq-eqb (bit_at (2 ^ p) p) 1 (bit_at-pow_same p)))
      | inr other ↦ rw other (rw (bit_at-pow_other p q (λ e. both_ways (q == p) other (eq-eqb q p e))) refl)
    ]

mutual
  occurs_by_bit : (v : View) (q : ℕ) → (bit_at (process_bits v) q == 1) ≡ occurs q v
  occurs_by_bit (base p x) q = bit_of_one q p
  occurs_by_bit (seen p vs) q =
      ap (λ n. n == 1) (bit_at_or (2 ^ p) (process_bits_of_each vs) q)
      ∙ or_bits (bit_at (2 ^ p) q) (bit_at (process_bits_of_each vs) q) (bit_at-lt (2 ^ p) q) (bit_at-lt (process_bits_of_each vs) q)
      ∙ (λ i. bit_of_one q p i || occurs_in_by_bit vs q i)

  occurs_in_by_bit : (vs : Views) (q : ℕ) → (bit_at (process_bits_of_each vs) q == 1) ≡ occurs_in q vs
  occurs_in_by_bit no_views q = ap (λ n. n == 1) (bit_at-zero q)
  occurs_in_by_bit (view v vs) q =
      ap (λ n. n == 1) (bit_at_or (process_bits v) (process_bits_of_each vs) q)
      ∙ or_bits (bit_at (process_bits v) q) (bit_at (process_bits_of_each vs) q) (bit_at-lt (process_bits v) q) (bit_at-lt (process_bits_of_each vs) q)
      ∙ (λ i. occurs_by_bit v q i || occurs_in_by_bit vs q i)

ranked : (v : View) (p : ℕ) → rank_in (process_bits v) p ≡ rank v p
ranked v p = λ i. length (filter (λ q. occurs_by_bit v q i) (below p))

pub renamed-normal : (v : View) → renamed (rank_in (process_bits v)) v ≡ normal v
renamed-normal v = λ i. renamed (λ p. ranked v p i) v

-- ---- views that are normal

mutual
  renamed_same : (f : ℕ → ℕ) (v : View) → ((q : ℕ) → occurs q v ≡ true → f q ≡ q) → renamed f v ≡ v
  renamed_same f (base p x) h = λ i. base (h p (eq-eqb p p refl) i) x
  renamed_same f (seen p vs) h = λ i. seen (h p (or_left _ _ (eq-eqb p p refl)) i) (renamed_each_same f vs (λ q there. h q (or_right _ _ there)) i)

  renamed_each_same : (f : ℕ → ℕ) (vs : Views) → ((q : ℕ) → occurs_in q vs ≡ true → f q ≡ q) → renamed_each f vs ≡ vs
  renamed_each_same f no_views h = refl
  renamed_each_same f (view v vs) h = λ i. view (renamed_same f v (λ q there. h q (or_left _ _ there)) i) (renamed_each_same f vs (λ q there. h q (or_right _ _ there)) i)

own_normal : (v : View) → are_lowest (process_bits v) ≡ true → normal v ≡ v
own_normal v h =
    sym (renamed-normal v)
    ∙ renamed_same (rank_in (process_bits v)) v (λ q there. own_rank (process_bits v) q h (eqb-true (bit_at (process_bits v) q) 1 (occurs_by_bit v q ∙ there)))

-- ---- tables in which no view stands twice

apart_push : (ws : List View) (v : View) → Apart ws → list_any (same_view v) ws ≡ false → Apart (ws ++ v ∷ [])
apart_push [] v h new = (tt, tt)
apart_push (w ∷ ws) v h new =
    let parts = or_parts (same_view v w) (list_any (same_view v) ws) new in
    (each_append (λ x. same_view w x ≡ false) ws (v ∷ []) h.0 (other_way v w parts.0, tt), apart_push ws v h.1 parts.1)

-- the number of the view at a place is the place
pub number_of-at : (ws : List View) (n : ℕ) → Apart ws → n < length ws → number_of ws (view_at ws n) ≡ n
number_of-at [] n h k = absurd (let none : ⊥ = omega (arith, k) in none)
number_of-at (w ∷ ws) zero h k = rw (same_itself w) refl
number_of-at (w ∷ ws) (suc n) h k =
    let low : n < length ws = omega (arith, k) in
    rw (other_way w (view_at ws n) (All-get_or (λ x. same_view w x ≡ false) ws n (base 0 0) low (All-from_recursion _ ws h.0))) (ap suc (number_of-at ws n h.1 low))

-- the number of a normal view
pub normal_at : (ws : List View) (n : ℕ) → Apart ws → n < length ws → are_lowest (process_bits (view_at ws n)) ≡ true →
    (n ≡ number_of ws (normal (view_at ws n))) × (slice_get ws n ≡ Some (normal (view_at ws n)))
normal_at ws n once within lowest =
    let own = own_normal (view_at ws n) lowest in
    (sym (number_of-at ws n once within) ∙ ap (number_of ws) (sym own), slice_get-at ws n (normal (view_at ws n)) within (sym own))

-- ---- one view more

-- a table that grew by at most one view, and still has none twice
record GrowsByOne (ws after : List View) : Type 0 where
  more : List View
  grown : after ≡ ws ++ more
  few : length more ≤ 1
  once : Apart after

with_view_grows : (ws after : List View) (v : View) → Apart ws → after ≡ with_view ws v → GrowsByOne ws after
with_view_grows ws after v once is =
    elim (cases_Bool (list_any (same_view v) ws)) [
      | inl there ↦ (let same : after ≡ ws = (rw there at is) in record { more = []; grown = same ∙ sym (append-nil ws); few = omega arith; once = subst Apart (sym same) once })
      | inr new ↦ (let longer : after ≡ ws ++ v ∷ [] = (rw new at is) in record { more = v ∷ []; grown = longer; few = omega arith; once = subst Apart (sym longer) (apart_push ws v once new) })
    ]

view_at-front : (ws more : List View) (n : ℕ) → n < length ws → view_at (ws ++ more) n ≡ view_at ws n
view_at-front ws more n h = get_or-append ws more (base 0 0) n h

are_renamed_more : (ws more : List View) (g : ℕ → ℕ) (old new : List ℕ) → AllByRecursion (λ k. k < length ws) old → AreRenamed ws g old new → AreRenamed (ws ++ more) g old new
are_renamed_more ws more g [] [] h are = tt
are_renamed_more ws more g (k ∷ old) [] h are = tt
are_renamed_more ws more g [] (n ∷ new) h are = absurd are
are_renamed_more ws more g (k ∷ old) (n ∷ new) h are = (
  (omega (arith, are.0.0, length-append ws more), view_at-front ws more n are.0.0 ∙ are.0.1 ∙ sym (ap (renamed g) (view_at-front ws more k h.0))),
  are_renamed_more ws more g old new h.1 are.1,
)

are_renamed_push : (ws : List View) (g : ℕ → ℕ) (old new : List ℕ) (n : ℕ) → AreRenamed ws g old new → length new < length old → n < length ws →
    view_at ws n ≡ renamed g (view_at ws (get_or old (length new) 0)) → AreRenamed ws g old (new ++ n ∷ [])
are_renamed_push ws g [] new n are long within is = absurd (let none : ⊥ = omega (arith, long) in none)
are_renamed_push ws g (k ∷ old) [] n are long within is = ((within, is), tt)
are_renamed_push ws g (k ∷ old) (m ∷ new) n are long within is = (are.0, are_renamed_push ws g old new n are.1 (omega (arith, long)) within is)

saw_among_front : (vs more : List View) (x : ℕ) (ids : List ℕ) → x < length vs → AllByRecursion (λ k. k < length vs) ids → SawAmong vs x ids → SawAmong (vs ++ more) x ids
saw_among_front vs more x ids h within saw =
    subst (λ v. All (Among (map (view_at (vs ++ more)) ids)) (inner_views v)) (sym (view_at-front vs more x h))
    (subst (λ ws. All (Among ws) (inner_views (view_at vs x))) (sym (views_at_front vs more ids within)) saw)

saw_at : (vs : List View) (before ids : List ℕ) (k : ℕ) → SawEarlier vs before ids → k < length ids → SawAmong vs (get_or ids k 0) (before ++ take k ids)
saw_at vs before [] k h low = absurd (let none : ⊥ = omega (arith, low) in none)
saw_at vs before (id ∷ ids) zero h low = subst (SawAmong vs id) (sym (append-nil before)) h.0
saw_at vs before (id ∷ ids) (suc k) h low =
    subst (SawAmong vs (get_or ids k 0)) (append_assoc before (id ∷ []) (take k ids)) (saw_at vs (before ++ id ∷ []) ids k h.1 (omega (arith, low)))

-- ---- all views inside a view

-- the table after k of the views inside got theirs
pub record IsRenaming (vs ws : List View) (processes : ℕ) (inside numbers : List ℕ) (k : ℕ) : Type 0 where
  pub more : List View
  pub grown : ws ≡ vs ++ more
  pub few : length more ≤ k
  pub long : length numbers ≡ k
  pub once : Apart ws
  pub are : AreRenamed ws (rank_in processes) inside numbers

pub renaming_none : (vs : List View) (processes : ℕ) (inside : List ℕ) → Apart vs → IsRenaming vs vs processes inside [] 0
renaming_none vs processes inside once = record { more = []; grown = sym (append-nil vs); few = omega arith; long = refl; once = once; are = none inside }
  where
    none : (xs : List ℕ) → AreRenamed vs (rank_in processes) xs []
    none [] = tt
    none (x ∷ xs) = tt

module _ (vs ws : List View) (processes id : ℕ) (inside numbers : List ℕ) (k : ℕ) (are_inside : AreInside vs id inside) (now : IsRenaming vs ws processes inside numbers k) where
  there : AllByRecursion (λ j. j < length vs) inside
  there = recursion_from_All (λ j. j < length vs) inside are_inside.numbers

  longer : length ws ≡ length vs + length now.more
  longer = ap length now.grown ∙ length-append vs now.more

  still_there : AllByRecursion (λ j. j < length ws) inside
  still_there = weaker (λ j. j < length vs) (λ j. j < length ws) (λ j h. omega (arith, h, longer)) inside there

  pub all_there : All (λ j. j < length ws) inside
  all_there = All-from_recursion (λ j. j < length ws) inside still_there

  pub this_there : k < length inside → get_or inside k 0 < length ws
  this_there h = All-get_or (λ j. j < length ws) inside k 0 h all_there

  pub room_left : (count : ℕ) → k < length inside → length inside ≤ count → length vs + count ≤ 4294967295 → length ws < 4294967295
  room_left count h most room = omega (arith, longer, now.few, h, most, room)

  pub parts_known : k < length inside → SawAmong ws (get_or inside k 0) (take (length numbers) inside)
  parts_known h =
      let saw : SawAmong vs (get_or inside k 0) (take k inside) = saw_at vs [] inside k are_inside.parts h in
      subst (λ n. SawAmong ws (get_or inside k 0) (take n inside)) (sym now.long)
      (subst (λ us. SawAmong us (get_or inside k 0) (take k inside)) (sym now.grown)
      (saw_among_front vs now.more (get_or inside k 0) (take k inside) (All-get_or (λ j. j < length vs) inside k 0 h are_inside.numbers) (each_take (λ j. j < length vs) k inside there) saw))

  pub renaming_more : (after : List View) (numbers_after : List ℕ) (n : ℕ) → k < length inside → after ≡ with_view ws (renamed (rank_in processes) (view_at ws (get_or inside k 0))) →
      slice_get after n ≡ Some (renamed (rank_in processes) (view_at ws (get_or inside k 0))) → numbers_after ≡ numbers ++ n ∷ [] → IsRenaming vs after processes inside numbers_after (k + 1)
  renaming_more after numbers_after n h table stands pushed =
      let g = rank_in processes in
      let x = get_or inside k 0 in
      let by_one = with_view_grows ws after (renamed (rank_in processes) (view_at ws (get_or inside k 0))) now.once table in
      let low : n < length after = slice_get_within after n (renamed (rank_in processes) (view_at ws (get_or inside k 0))) stands in
      let at : view_at after n ≡ renamed (rank_in processes) (view_at ws (get_or inside k 0)) = get_or_from_slice_get after n (renamed (rank_in processes) (view_at ws (get_or inside k 0))) (base 0 0) stands in
      let same : view_at after (get_or inside k 0) ≡ view_at ws (get_or inside k 0) = ap (λ us. view_at us (get_or inside k 0)) by_one.grown ∙ view_at-front ws by_one.more x (this_there h) in
      let place : view_at after n ≡ renamed (rank_in processes) (view_at after (get_or inside (length numbers) 0)) =
      at ∙ ap (renamed g) (sym same) ∙ ap (λ j. renamed g (view_at after (get_or inside j 0))) (sym now.long) in
      let old_ones : AreRenamed after (rank_in processes) inside numbers = subst (λ us. AreRenamed us (rank_in processes) inside numbers) (sym by_one.grown) (are_renamed_more ws by_one.more g inside numbers still_there now.are) in
      let short : length numbers < length inside = omega (arith, now.long, h) in
      record {
        more = now.more ++ by_one.more;
        grown = by_one.grown ∙ ap (λ us. us ++ by_one.more) now.grown ∙ append_assoc vs now.more by_one.more;
        few = omega (arith, length-append now.more by_one.more, now.few, by_one.few);
        long = ap length pushed ∙ length-append numbers (n ∷ []) ∙ ap (λ j. j + 1) now.long;
        once = by_one.once;
        are = subst (AreRenamed after (rank_in processes) inside) (sym pushed) (are_renamed_push after g inside numbers n old_ones short low place);
      }

  -- the views that were added, which are no more than the views inside
  pub grows : (after : List View) → after ≡ ws → k ≤ length inside → (added : List View) × (after ≡ vs ++ added) × (length added ≤ count_within (view_at vs id))
  grows after same h = (now.more, same ∙ now.grown, omega (arith, now.few, h, are_inside.few))

  pub itself_known : length inside ≤ k → has (take (length numbers) inside) id ≡ true
  itself_known all = ap (λ ks. has ks id) (take_all (length numbers) inside (omega (arith, now.long, all))) ∙ are_inside.itself

  -- the number of the normal view, when all are done
  pub renaming_all : (n : ℕ) → n ≡ number_beside inside numbers id → length inside ≤ k → id < length vs → processes ≡ process_bits (view_at vs id) →
      (n ≡ number_of ws (normal (view_at vs id))) × (slice_get ws n ≡ Some (normal (view_at vs id)))
  renaming_all n is all within known =
      let at = renamed_known ws (rank_in processes) inside numbers id now.are (itself_known all) in
      let below_all : n < length ws = subst (λ j. j < length ws) (sym is) at.0 in
      let same : view_at ws id ≡ view_at vs id = ap (λ us. view_at us id) now.grown ∙ view_at-front vs now.more id within in
      let view_is : view_at ws n ≡ normal (view_at vs id) =
      ap (view_at ws) is ∙ at.1 ∙ ap (renamed (rank_in processes)) same ∙ ap (λ c. renamed (rank_in c) (view_at vs id)) known ∙ renamed-normal (view_at vs id) in
      (sym (number_of-at ws n now.once below_all) ∙ ap (number_of ws) view_is, slice_get-at ws n (normal (view_at vs id)) below_all view_is)
