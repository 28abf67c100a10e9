-- One participant's view after a round, by numbers.
use Rattle.std.proofs.Common.{◌≡◌, ◌<◌, ◌≤◌, ℕ, zero, suc, ◌+◌, nat_le, true, List, [], ◌∷◌, ◌++◌, map, length, zip, take, get_or, slice_get, slice_set, Some, All, sym, refl, ap, ◌∙◌, subst, arith, inl, inr, eq-eqb, append_assoc, append-nil, length-append}
use Rattle.std.specs.List.{AllByRecursion, list_any}
use Rattle.std.proofs.lemmas.Bool.{cases_Bool, or_left, or_right, le-leb}
use Rattle.std.proofs.lemmas.List.{take_more_set, take_more, take_all}
use Rattle.std.proofs.lemmas.List.Elements.{recursion_from_All, All-from_recursion, All-get_or, All-push}
use Rattle.std.proofs.lemmas.Option.{slice_get_within, get_or_from_slice_get}
use Rattle.wf_model.specs.Lists.{has}
use Rattle.wf_model.specs.Simplex.{is_ascending}
use Rattle.wf_model.specs.View.{View, base, seen, views_of, process_of, same_view, visible, round}
use Rattle.wf_model.specs.Word.{Word}
use Rattle.wf_model.proofs.Lemmas.{weaker, each_map, each_of_map, Ascends, ascends_from, is_ascending_from}
use Rattle.wf_complex.specs.Views.{view_at, view_seen, with_view}
use Rattle.wf_complex.proofs.ShownViews.{views_at_front}
use Rattle.wf_complex.specs.Rounds.{views_at, visible_ids, Extends, AreViews}

-- ---- tables that grow

pub extends_itself : (table : List View) → Extends table table
extends_itself table = ([], sym (append-nil table))

pub extends_with : (table : List View) (v : View) → Extends table (with_view table v)
extends_with table v = elim (cases_Bool (list_any (same_view v) table)) [ inl among ↦ rw among (extends_itself table) | inr new ↦ rw new (v ∷ [], refl) ]

pub extends_then : (a b c : List View) → Extends a b → Extends b c → Extends a c
extends_then a b c e f = (e.0 ++ f.0, f.1 ∙ ap (λ vs. vs ++ f.0) e.1 ∙ append_assoc a e.0 f.0)

pub extends_longer : (old now : List View) → Extends old now → length old ≤ length now
extends_longer old now e = omega (arith, ap length e.1, length-append old e.0)

pub views_kept : (old now : List View) (ids : List ℕ) → Extends old now → AllByRecursion (λ k. k < length old) ids → views_at now ids ≡ views_at old ids
views_kept old now ids e within = ap (λ table. views_at table ids) e.1 ∙ views_at_front old e.0 ids within

pub within_kept : (old now : List View) (ids : List ℕ) → Extends old now → AllByRecursion (λ k. k < length old) ids → AllByRecursion (λ k. k < length now) ids
within_kept old now ids e within = weaker (λ k. k < length old) (λ k. k < length now) (λ k below. omega (arith, below, extends_longer old now e)) ids within

pub are_views_kept : (old now : List View) (ids : List ℕ) → Extends old now → AreViews old ids → AreViews now ids
are_views_kept old now ids e views =
    let within = recursion_from_All (λ k. k < length old) ids views.within in
    record {
      within = All-from_recursion _ ids (within_kept old now ids e within);
      ascending = ap (λ vs. is_ascending (map process_of vs)) (views_kept old now ids e within) ∙ views.ascending;
      low = subst (λ vs. All (λ p. p ≤ 3) (map process_of vs)) (sym (views_kept old now ids e within)) views.low;
    }

-- ---- what is visible

visible_all : (P : ℕ → Type 0) (block : ℕ) (w ids : List ℕ) → AllByRecursion P ids → AllByRecursion P (visible_ids block w ids)
visible_all P block [] [] h = tt
visible_all P block [] (x ∷ ids) h = tt
visible_all P block (l ∷ w) [] h = tt
visible_all P block (l ∷ w) (x ∷ ids) h =
    elim (cases_Bool (nat_le l block)) [ inl sees ↦ rw sees (h.0, visible_all P block w ids h.1) | inr not_sees ↦ rw not_sees (visible_all P block w ids h.1) ]

visible_ascends : (f : ℕ → ℕ) (block : ℕ) (w ids : List ℕ) → Ascends (map f ids) → Ascends (map f (visible_ids block w ids))
visible_ascends f block [] [] h = tt
visible_ascends f block [] (x ∷ ids) h = tt
visible_ascends f block (l ∷ w) [] h = tt
visible_ascends f block (l ∷ w) (x ∷ ids) h =
    elim (cases_Bool (nat_le l block)) [
      | inl sees ↦ rw sees (
        each_map (λ y. f x < y) f (visible_ids block w ids) (visible_all (λ k. f x < f k) block w ids (each_of_map (λ y. f x < y) f ids h.0)),
        visible_ascends f block w ids h.1,
      )
      | inr not_sees ↦ rw not_sees (visible_ascends f block w ids h.1)
    ]

-- a participant sees itself
visible_own : (f : ℕ → ℕ) (block : ℕ) (w ids : List ℕ) (i : ℕ) → i < length ids → length ids ≡ length w → nat_le (get_or w i 0) block ≡ true → has (map f (visible_ids block w ids)) (f (get_or ids i 0)) ≡ true
visible_own f block [] [] i h e s = absurd (let none : ⊥ = omega (arith, h) in none)
visible_own f block [] (x ∷ ids) i h e s = absurd (let none : ⊥ = omega (arith, e) in none)
visible_own f block (l ∷ w) [] i h e s = absurd (let none : ⊥ = omega (arith, h) in none)
visible_own f block (l ∷ w) (x ∷ ids) zero h e s = rw s (or_left _ _ (eq-eqb (f x) (f x) refl))
visible_own f block (l ∷ w) (x ∷ ids) (suc i) h e s =
    let rest = visible_own f block w ids i (omega (arith, h)) (omega (arith, e)) s in
    elim (cases_Bool (nat_le l block)) [ inl sees ↦ rw sees (or_right _ _ rest) | inr not_sees ↦ rw not_sees rest ]

visible_views : (table : List View) (block : ℕ) (w ids : List ℕ) → views_at table (visible_ids block w ids) ≡ visible block w (views_at table ids)
visible_views table block [] [] = refl
visible_views table block [] (x ∷ ids) = refl
visible_views table block (l ∷ w) [] = refl
visible_views table block (l ∷ w) (x ∷ ids) =
    elim (cases_Bool (nat_le l block)) [
      | inl sees ↦ rw sees (ap (λ vs. view_at table x ∷ vs) (visible_views table block w ids))
      | inr not_sees ↦ rw not_sees (visible_views table block w ids)
    ]

pub one_more : (now : List View) (v : View) (new : List View) → new ≡ with_view now v → length new ≤ length now + 1
one_more now v new table =
    elim (cases_Bool (list_any (same_view v) now)) [
      | inl among ↦ (let e : new ≡ now = table ∙ (rw among refl) in omega (arith, ap length e))
      | inr absent ↦ (let e : new ≡ now ++ v ∷ [] = table ∙ (rw absent refl) in omega (arith, ap length e, length-append now (v ∷ [])))
    ]

pub views_push : (table : List View) (xs : List ℕ) (x : ℕ) → views_at table (xs ++ x ∷ []) ≡ views_at table xs ++ view_at table x ∷ []
views_push table [] x = refl
views_push table (y ∷ xs) x = ap (λ vs. view_at table y ∷ vs) (views_push table xs x)

-- ---- views that are numbered one after another

-- the views made so far and one more are the first ones that are wanted
pub record IsFurther (old now : List View) (wanted : List View) (i : ℕ) (next : List ℕ) (new : List View) (id : ℕ) : Type 0 where
  pub extends : Extends old new
  pub few : length new ≤ length now + 1
  pub within : All (λ k. k < length new) (take (i + 1) (slice_set next i id))
  pub made : views_at new (take (i + 1) (slice_set next i id)) ≡ take (i + 1) wanted

module _ (old now : List View) (grown : Extends old now) (wanted : List View) (i : ℕ) (place : i < length wanted) (next : List ℕ) (room : i < length next)
    (before : All (λ k. k < length now) (take i next)) (made_before : views_at now (take i next) ≡ take i wanted) where
  pub further : (new : List View) (id : ℕ) → Extends now new → length new ≤ length now + 1 → slice_get new id ≡ Some (get_or wanted i (base 0 0)) → IsFurther old now wanted i next new id
  further new id on few stands =
      let before_each = recursion_from_All (λ k. k < length now) (take i next) before in
      let there : id < length new = slice_get_within new id (get_or wanted i (base 0 0)) stands in
      let is : view_at new id ≡ get_or wanted i (base 0 0) = get_or_from_slice_get new id (get_or wanted i (base 0 0)) (base 0 0) stands in
      let set : take (i + 1) (slice_set next i id) ≡ take i next ++ id ∷ [] = take_more_set next i id room in
      record {
        extends = extends_then old now new grown on;
        few = few;
        within = subst (All (λ k. k < length new)) (sym set) (All-push (λ k. k < length new) (take i next) id (All-from_recursion _ (take i next) (within_kept now new (take i next) on before_each)) there);
        made =
            ap (views_at new) set
            ∙ views_push new (take i next) id
            ∙ (λ k. views_kept now new (take i next) on before_each k ++ is k ∷ [])
            ∙ ap (λ vs. vs ++ get_or wanted i (base 0 0) ∷ []) made_before
            ∙ sym (take_more wanted i (base 0 0) place);
      }

-- ---- one participant's view after the round

-- the view at a place of a round
abbrev pub view_after : Word → List View → ℕ × View → View
view_after w vs q = seen (process_of q.1) (views_of (visible q.0 w vs))

pub get_or-round : (whole : List View) (all w : Word) (vs : List View) (i : ℕ) → i < length vs → length vs ≡ length w →
    get_or (map (view_after all whole) (zip w vs)) i (base 0 0) ≡ view_after all whole (get_or w i 0, get_or vs i (base 0 0))
get_or-round whole all [] [] i h e = absurd (let none : ⊥ = omega (arith, h) in none)
get_or-round whole all [] (v ∷ vs) i h e = absurd (let none : ⊥ = omega (arith, e) in none)
get_or-round whole all (l ∷ w) [] i h e = absurd (let none : ⊥ = omega (arith, h) in none)
get_or-round whole all (l ∷ w) (v ∷ vs) zero h e = refl
get_or-round whole all (l ∷ w) (v ∷ vs) (suc i) h e = get_or-round whole all w vs i (omega (arith, h)) (omega (arith, e))

pub length-round : (vs : List View) (w : Word) → length vs ≡ length w → length (round vs w) ≡ length vs
length-round vs w e = long vs w e
  where
    long : (ws : List View) (u : Word) → length ws ≡ length u → length (map (view_after w vs) (zip u ws)) ≡ length ws
    long [] [] e = refl
    long [] (l ∷ u) e = refl
    long (v ∷ ws) [] e = absurd (let none : ⊥ = omega (arith, e) in none)
    long (v ∷ ws) (l ∷ u) e = ap suc (long ws u (omega (arith, e)))

pub processes-round : (vs : List View) (w : Word) → length vs ≡ length w → map process_of (round vs w) ≡ map process_of vs
processes-round vs w e = same vs w e
  where
    same : (ws : List View) (u : Word) → length ws ≡ length u → map process_of (map (view_after w vs) (zip u ws)) ≡ map process_of ws
    same [] [] e = refl
    same [] (l ∷ u) e = refl
    same (v ∷ ws) [] e = absurd (let none : ⊥ = omega (arith, e) in none)
    same (v ∷ ws) (l ∷ u) e = ap (λ ps. process_of v ∷ ps) (same ws u (omega (arith, e)))

get_or-views : (table : List View) (ids : List ℕ) (i : ℕ) → i < length ids → get_or (views_at table ids) i (base 0 0) ≡ view_at table (get_or ids i 0)
get_or-views table [] i h = absurd (let none : ⊥ = omega (arith, h) in none)
get_or-views table (x ∷ ids) zero h = refl
get_or-views table (x ∷ ids) (suc i) h = get_or-views table ids i (omega (arith, h))

pub length-views : (table : List View) (ids : List ℕ) → length (views_at table ids) ≡ length ids
length-views table [] = refl
length-views table (x ∷ ids) = ap suc (length-views table ids)

nat_le-itself : (n : ℕ) → nat_le n n ≡ true
nat_le-itself n = le-leb n n (omega arith)

module _ (table : List View) (ids : List ℕ) (w : Word) (views : AreViews table ids) (long : length ids ≡ length w) (i : ℕ) (place : i < length ids)
    (process : ℕ) (own : process ≡ process_of (view_at table (get_or ids i 0))) (parts : List ℕ) (are : parts ≡ visible_ids (get_or w i 0) w ids) where
  map-map : (xs : List ℕ) → map process_of (views_at table xs) ≡ map (λ k. process_of (view_at table k)) xs
  map-map [] = refl
  map-map (x ∷ xs) = ap (λ ys. process_of (view_at table x) ∷ ys) (map-map xs)

  pub numbers : All (λ k. k < length table) parts
  numbers = subst (All (λ k. k < length table)) (sym are) (All-from_recursion _ (visible_ids (get_or w i 0) w ids) (visible_all (λ k. k < length table) (get_or w i 0) w ids (recursion_from_All (λ k. k < length table) ids views.within)))

  pub ascending : is_ascending (map (λ k. process_of (view_at table k)) parts) ≡ true
  ascending =
      subst (λ xs. is_ascending (map (λ k. process_of (view_at table k)) xs) ≡ true) (sym are)
      (is_ascending_from (map (λ k. process_of (view_at table k)) (visible_ids (get_or w i 0) w ids))
      (visible_ascends (λ k. process_of (view_at table k)) (get_or w i 0) w ids (subst Ascends (map-map ids) (ascends_from (map process_of (views_at table ids)) views.ascending))))

  pub own_part : has (map (λ k. process_of (view_at table k)) parts) process ≡ true
  own_part =
      subst (λ p. has (map (λ k. process_of (view_at table k)) parts) p ≡ true) (sym own)
      (subst (λ xs. has (map (λ k. process_of (view_at table k)) xs) (process_of (view_at table (get_or ids i 0))) ≡ true) (sym are)
      (visible_own (λ k. process_of (view_at table k)) (get_or w i 0) w ids i place long (nat_le-itself (get_or w i 0))))

  pub low : process ≤ 3
  low = subst (λ p. p ≤ 3) (sym own) (All-get_or (λ k. process_of (view_at table k) ≤ 3) ids i 0 place (All-from_recursion _ ids (each_of_map (λ p. p ≤ 3) (λ k. process_of (view_at table k)) ids (subst (AllByRecursion (λ p. p ≤ 3)) (map-map ids) (recursion_from_All _ (map process_of (views_at table ids)) views.low)))))

  -- the view that is asked for is the participant's after the round
  pub is_view_after : view_seen table process parts ≡ get_or (round (views_at table ids) w) i (base 0 0)
  is_view_after =
      let here : get_or (views_at table ids) i (base 0 0) ≡ view_at table (get_or ids i 0) = get_or-views table ids i place in
      let seen_views : views_at table parts ≡ visible (get_or w i 0) w (views_at table ids) = ap (views_at table) are ∙ visible_views table (get_or w i 0) w ids in
      (λ k. seen (own k) (views_of (seen_views k)))
      ∙ (λ k. seen (process_of (sym here k)) (views_of (visible (get_or w i 0) w (views_at table ids))))
      ∙ sym (get_or-round (views_at table ids) w w (views_at table ids) i (omega (arith, place, length-views table ids)) (length-views table ids ∙ long))

module _ (old now : List View) (ids : List ℕ) (w : Word) (views : AreViews old ids) (long : length ids ≡ length w) (n : ℕ) (whole : length ids ≤ n) (no_more : n ≤ length ids) (next : List ℕ) where
  pub after_round : All (λ k. k < length now) (take n next) → views_at now (take n next) ≡ take n (round (views_at old ids) w) →
      AreViews now (take (length ids) next) × (views_at now (take (length ids) next) ≡ round (views_at old ids) w)
  after_round within made =
      let e : n ≡ length ids = omega (arith, whole, no_more) in
      let all : views_at now (take (length ids) next) ≡ round (views_at old ids) w =
      subst (λ k. views_at now (take k next) ≡ take k (round (views_at old ids) w)) e made
      ∙ take_all (length ids) (round (views_at old ids) w) (omega (arith, length-round (views_at old ids) w (length-views old ids ∙ long), length-views old ids)) in
      let same : map process_of (views_at now (take (length ids) next)) ≡ map process_of (views_at old ids) = ap (map process_of) all ∙ processes-round (views_at old ids) w (length-views old ids ∙ long) in (
        record {
          within = subst (λ k. All (λ x. x < length now) (take k next)) e within;
          ascending = ap is_ascending same ∙ views.ascending;
          low = subst (All (λ p. p ≤ 3)) (sym same) views.low;
        },
        all,
      )
