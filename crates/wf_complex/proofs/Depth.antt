-- After r rounds of n participants there are at most n * (r + 1) different views inside a view.
use Rattle.std.proofs.Common.{◌≡◌, ◌≤◌, ℕ, zero, suc, ◌+◌, ◌*◌, nat_le, All, List, [], ◌∷◌, ◌++◌, map, flat_map, zip, length, sym, ◌∙◌, subst, inl, inr, arith, length-append}
use Rattle.std.specs.List.{AllByRecursion}
use Rattle.std.proofs.lemmas.Bool.{cases_Bool}
use Rattle.std.proofs.lemmas.List.Elements.{All-from_recursion}
use Rattle.wf_model.specs.Lists.{distinct}
use Rattle.wf_model.specs.Simplex.{Simplex}
use Rattle.wf_model.specs.Word.{Word, words}
use Rattle.wf_model.specs.View.{View, seen, views_of, process_of, same_view, base_views, visible, round}
use Rattle.wf_model.proofs.Lemmas.{Among, among_append_left, among_append_right, each_among_itself, weaker, each_append, each_distinct, apart_distinct, words_long}
use Rattle.wf_complex.specs.Views.{view_at, views_within, views_within_each, count_within}
use Rattle.wf_complex.proofs.ViewsWithin.{no_more}
use Rattle.wf_complex.specs.Rounds.{views_at, leaves, leaves_of}
use Rattle.wf_complex.proofs.Bounds.{IsSized, suc_times}
use Rattle.wf_complex.proofs.LayoutLemmas.{product_small}
use Rattle.wf_complex.proofs.InputLemmas.{length-base_views}
use Rattle.wf_complex.proofs.RoundLemmas.{length-round}
use Rattle.wf_complex.specs.Classes.{most_within}

-- ---- views of which all that is inside is among some views

abbrev IsHeld : List View → View → Type 0
IsHeld zs v = AllByRecursion (Among zs) (views_within v)

few_within : (zs : List View) (v : View) → IsHeld zs v → count_within v ≤ length zs
few_within zs v h = no_more (distinct same_view (views_within v)) zs (apart_distinct (views_within v)) (each_distinct (Among zs) same_view (views_within v) h)

within_each : (zs us : List View) → AllByRecursion (IsHeld zs) us → AllByRecursion (Among zs) (views_within_each (views_of us))
within_each zs [] h = tt
within_each zs (u ∷ us) h = each_append (Among zs) (views_within u) (views_within_each (views_of us)) h.0 (within_each zs us h.1)

visible_each : (P : View → Type 0) (block : ℕ) (w : Word) (vs : List View) → AllByRecursion P vs → AllByRecursion P (visible block w vs)
visible_each P block [] [] h = tt
visible_each P block [] (v ∷ vs) h = tt
visible_each P block (l ∷ w) [] h = tt
visible_each P block (l ∷ w) (v ∷ vs) h =
    elim (cases_Bool (nat_le l block)) [ inl sees ↦ rw sees (h.0, visible_each P block w vs h.1) | inr not_sees ↦ rw not_sees (visible_each P block w vs h.1) ]

-- a round's views are held by those before it and its own
held_round : (zs vs : List View) (w : Word) → AllByRecursion (IsHeld zs) vs → AllByRecursion (IsHeld (zs ++ round vs w)) (round vs w)
held_round zs vs w h = onto w vs (weaker (Among (round vs w)) (Among (zs ++ round vs w)) (λ v k. among_append_right v zs (round vs w) k) (round vs w) (each_among_itself (round vs w)))
  where
    onto : (u : Word) (xs : List View) → AllByRecursion (Among (zs ++ round vs w)) (map (λ (q : ℕ × View). seen (process_of q.1) (views_of (visible q.0 w vs))) (zip u xs)) →
        AllByRecursion (IsHeld (zs ++ round vs w)) (map (λ (q : ℕ × View). seen (process_of q.1) (views_of (visible q.0 w vs))) (zip u xs))
    onto [] [] k = tt
    onto [] (x ∷ xs) k = tt
    onto (l ∷ u) [] k = tt
    onto (l ∷ u) (x ∷ xs) k = (
      (
        k.0,
        weaker (Among zs) (Among (zs ++ round vs w)) (λ v a. among_append_left v zs (round vs w) a) (views_within_each (views_of (visible l w vs))) (within_each zs (visible l w vs) (visible_each (IsHeld zs) l w vs h)),
      ),
      onto u xs k.1,
    )

-- ---- rounds after rounds

bound_more : (zs vs : List View) (w : Word) (n k : ℕ) → length vs ≡ n → length vs ≡ length w → length (zs ++ round vs w) + k * n ≤ length zs + suc k * n
bound_more zs vs w n k long e = omega (arith, length-append zs (round vs w), length-round vs w e, long, suc_times k n)

leaves_shallow : (n : ℕ) (ws : List Word) → AllByRecursion (λ w. length w ≡ n) ws → (k : ℕ) (vs zs : List View) → length vs ≡ n → AllByRecursion (IsHeld zs) vs → AllByRecursion (λ v. count_within v ≤ length zs + k * n) (leaves ws k vs)
leaves_shallow n ws h zero vs zs long held = weaker (IsHeld zs) (λ v. count_within v ≤ length zs + 0 * n) (λ v k. omega (arith, few_within zs v k)) vs held
leaves_shallow n ws h (suc k) vs zs long held = onto (λ us ys e j. leaves_shallow n ws h k us ys e j) ws h
  where
    onto : ((us ys : List View) → length us ≡ n → AllByRecursion (IsHeld ys) us → AllByRecursion (λ v. count_within v ≤ length ys + k * n) (leaves ws k us)) → (all : List Word) → AllByRecursion (λ w. length w ≡ n) all →
        AllByRecursion (λ v. count_within v ≤ length zs + suc k * n) (flat_map (λ w. leaves ws k (round vs w)) all)
    onto next [] j = tt
    onto next (w ∷ all) j =
        let e : length vs ≡ length w = long ∙ sym j.0 in
        each_append (λ v. count_within v ≤ length zs + suc k * n) (leaves ws k (round vs w)) (flat_map (λ u. leaves ws k (round vs u)) all)
        (weaker (λ v. count_within v ≤ length (zs ++ round vs w) + k * n) (λ v. count_within v ≤ length zs + suc k * n) (λ v few. omega (arith, few, bound_more zs vs w n k long e)) (leaves ws k (round vs w))
        (next (round vs w) (zs ++ round vs w) (length-round vs w e ∙ long) (held_round zs vs w held)))
        (onto next all j.1)

held_bases : (zs : List View) (s : Simplex) → AllByRecursion (Among zs) (base_views s) → AllByRecursion (IsHeld zs) (base_views s)
held_bases zs [] h = tt
held_bases zs (v ∷ s) h = ((h.0, tt), held_bases zs s h.1)

on_simplex : (m r : ℕ) (s : Simplex) → r ≤ 8 → IsSized s → AllByRecursion (λ v. count_within v ≤ most_within) (leaves_of m r s)
on_simplex m r s rounds h =
    let few : r * length s ≤ 8 * 4 = product_small r (length s) 8 4 rounds h.1 in
    weaker (λ v. count_within v ≤ length (base_views s) + r * length s) (λ v. count_within v ≤ most_within) (λ v k. omega (arith, k, few, length-base_views s, h.1)) (leaves_of m r s)
    (leaves_shallow (length s) (words m (length s)) (words_long m (length s)) r (base_views s) (base_views s) (length-base_views s) (held_bases (base_views s) s (each_among_itself (base_views s))))

on_simplices : (m r : ℕ) (ss : List Simplex) → r ≤ 8 → AllByRecursion IsSized ss → AllByRecursion (λ v. count_within v ≤ most_within) (flat_map (leaves_of m r) ss)
on_simplices m r [] rounds h = tt
on_simplices m r (s ∷ ss) rounds h = each_append (λ v. count_within v ≤ most_within) (leaves_of m r s) (flat_map (leaves_of m r) ss) (on_simplex m r s rounds h.0) (on_simplices m r ss rounds h.1)

by_number : (P : View → Type 0) (table : List View) (ids : List ℕ) → AllByRecursion P (views_at table ids) → AllByRecursion (λ k. P (view_at table k)) ids
by_number P table [] h = tt
by_number P table (k ∷ ids) h = (h.0, by_number P table ids h.1)

-- at most so many views are inside a last view of at most 8 rounds
pub lasts_shallow : (m r : ℕ) (ss : List Simplex) → r ≤ 8 → AllByRecursion IsSized ss → (table : List View) (lasts : List ℕ) → views_at table lasts ≡ flat_map (leaves_of m r) ss → All (λ k. count_within (view_at table k) ≤ most_within) lasts
lasts_shallow m r ss rounds h table lasts made =
    All-from_recursion (λ k. count_within (view_at table k) ≤ most_within) lasts
    (by_number (λ v. count_within v ≤ most_within) table lasts (subst (AllByRecursion (λ v. count_within v ≤ most_within)) (sym made) (on_simplices m r ss rounds h)))
