-- A decision map of a task gives one of the task with names in place of values: at a view on the
-- simplex it decides the name that the tuple of an execution with this view has there.
use Rattle.std.proofs.Common.{◌≡◌, ℕ, ◌==◌, ◌&&◌, ◌||◌, not, ◌<◌, Bool, true, false, cond, List, [], ◌∷◌, map, filter, flat_map, fold, length, get_or, Contains, inl, inr, refl, sym, ap, ◌∙◌, subst, arith, ext_get_or}
use Rattle.std.specs.Ordering.{nat_cmp}
use Rattle.std.specs.FinMap.{nat_cmp-IsAntisymmetric}
use Rattle.std.proofs.lemmas.Bool.{and_from, and_parts, cases_eq, eq-eqb, eqb-true, ne_eqb, or_cases, or_left, or_right}
use Rattle.std.proofs.lemmas.List.{length-map}
use Rattle.std.proofs.lemmas.List.Elements.{recursion_from_All, All-from_recursion}
use Rattle.wf_model.specs.Lists.{below, lists_of}
use Rattle.wf_model.specs.Simplex.{processes_of}
use Rattle.wf_model.specs.Word.{Word, words}
use Rattle.wf_model.specs.View.{View, base, base_views, process_of, round}
use Rattle.wf_model.specs.Task.{Rule, Task, Tuple}
use Rattle.wf_model.specs.DecisionMap.{HasNoDecisionMap, IsDecisionMap}
use Rattle.wf_model.proofs.Lemmas.{by_place}
use Rattle.wf_tree_model.specs.Counting.Signs.{keep}
use Rattle.wf_tree_model.proofs.OfCounting.Lemmas.{each_passes, map_same_on, keep_map}
use Rattle.wf_tree_model.specs.Stars.{DifferAtOne, runs, view_after}
use Rattle.wf_tree_model.specs.Tuples.{agree_elsewhere, choices_of, is_kept, is_part, mask_of, value_at}
use Rattle.wf_tree_model.specs.Splits.{IsSplitting, Splitting, by_stars, choices, hang_together, names_at, names_of, split, stars, tuples_on_face, tuples_split, with_names}
use Rattle.wf_tree_model.proofs.Members.{Has, any_has, contained_has, contains, filter_has, flat_has, from_each, has_any, in_order_has, map_has, of_has, passes_each}
use Rattle.wf_tree_model.proofs.Inputs.{Setting}
use Rattle.wf_tree_model.proofs.Maps.{decides_allowed, own_class}
use Rattle.wf_tree_model.proofs.PartsJoin.{in_the_same, one_name_beside, there_has}
use Rattle.wf_tree_model.proofs.Places.{at, map_twice}
use Rattle.wf_tree_model.proofs.ViewsAfter.{stars_connected}
use Rattle.wf_tree_model.proofs.WordTests.{below_has, has_below}
use Rattle.wf_tree_model.proofs.OnSimplex as On
use Rattle.wf_tree_model.proofs.ByView as By

-- tuples that agree at all other places
pub elsewhere_agree : (n p : ℕ) (a b : Tuple) → ((i : ℕ) → i < n → (i ≡ p → ⊥) → value_at a i ≡ value_at b i) → agree_elsewhere n p a b ≡ true
elsewhere_agree n p a b same =
    passes_each (λ i. (i == p) || (value_at a i == value_at b i)) (below n)
    (from_each (λ i. ((i == p) || (value_at a i == value_at b i)) ≡ true) (below n)
    (λ i there. elim (cases_eq i p) [
      | inl here ↦ or_left (i == p) (value_at a i == value_at b i) (eq-eqb i p here)
      | inr other ↦ or_right (i == p) (value_at a i == value_at b i) (eq-eqb (value_at a i) (value_at b i) (same i (has_below n i there) other))
    ]))

-- it goes both ways
pub agree_turned : (n p : ℕ) (a b : Tuple) → agree_elsewhere n p a b ≡ true → agree_elsewhere n p b a ≡ true
agree_turned n p a b h =
    elsewhere_agree n p b a
    (λ i low other.
    let here = of_has (λ k. ((k == p) || (value_at a k == value_at b k)) ≡ true) (below n) i (each_passes (λ k. (k == p) || (value_at a k == value_at b k)) (below n) h) (below_has n i low) in
    elim (or_cases (i == p) (value_at a i == value_at b i) here) [
      | inl same ↦ absurd (other (eqb-true i p same))
      | inr same ↦ sym (eqb-true (value_at a i) (value_at b i) same)
    ])

module _ (t : Task) (s : Splitting) (r : ℕ) (set : Setting t s.rule) (is : IsSplitting t s) (m : View → ℕ) (decides : IsDecisionMap t r m) where
  abbrev n : ℕ
  n = length s.rule.input

  abbrev views : List Word → List View
  views ws = fold round (base_views s.rule.input) ws

  -- what the map decides on the simplex
  abbrev tuple : List Word → Tuple
  tuple ws = map m (views ws)

  -- the name at a place
  abbrev name_at : List Word → ℕ → ℕ
  name_at ws i = s.name i (tuple ws)

  abbrev IsRun : List Word → Type 0
  IsRun ws = Has ws (runs s.rule.input r)

  allowed : (q : Rule) → Contains t.delta q → (ws : List Word) → Has ws (runs q.input r) → Has (map m (fold round (base_views q.input) ws)) q.tuples
  allowed = On.decided_plain t set.by_process set.all_words r m decides

  views_long : (ws : List Word) → IsRun ws → length (views ws) ≡ n
  views_long = On.views_long s.rule.input r

  value_decided : (ws : List Word) → IsRun ws → (i : ℕ) → i < n → value_at (tuple ws) i ≡ m (at (views ws) i)
  value_decided = On.value_decided s.rule.input r m

  process_there : (ws : List Word) → IsRun ws → (i : ℕ) → i < n → process_of (at (views ws) i) ≡ get_or (processes_of s.rule.input) i 0
  process_there = On.process_there s.rule.input r

  -- ---- executions with one view at a place have one name there

  same_tuple : (us ws : List Word) → IsRun us → IsRun ws → ((i : ℕ) → i < n → at (views us) i ≡ at (views ws) i) → tuple us ≡ tuple ws
  same_tuple us ws us_run ws_run same =
      let us_long = length-map (views us) m ∙ views_long us us_run in
      let ws_long = length-map (views ws) m ∙ views_long ws ws_run in
      ext_get_or 0 (tuple us) (tuple ws) (us_long ∙ sym ws_long)
      (λ i low. let inside : i < n = omega (arith, low, us_long) in value_decided us us_run i inside ∙ ap m (same i inside) ∙ sym (value_decided ws ws_run i inside))

  joined : (place : ℕ) → place < n → (us ws : List Word) → IsRun us → IsRun ws → at (views us) place ≡ at (views ws) place → DifferAtOne s.rule.input us ws → name_at us place ≡ name_at ws place
  joined place inside us ws us_run ws_run same (other, low, same_there) =
      elim (cases_eq other place) [
        | inl here ↦ ap (s.name place) (same_tuple us ws us_run ws_run (λ i l. elim (cases_eq i place) [
          | inl there ↦ ap (at (views us)) there ∙ same ∙ ap (at (views ws)) (sym there)
          | inr off ↦ same_there i l (λ e. off (e ∙ here))
        ]))
        | inr apart ↦
            is.unbroken place (tuple us) (tuple ws) inside (contains (tuple us) s.rule.tuples (allowed s.rule is.listed us us_run)) (contains (tuple ws) s.rule.tuples (allowed s.rule is.listed ws ws_run))
            (any_has (λ p. not (p == place) && agree_elsewhere n p (tuple us) (tuple ws)) other (below n) (below_has n other low)
            (and_from (not (other == place)) (agree_elsewhere n other (tuple us) (tuple ws)) (ap not (ne_eqb other place apart))
            (elsewhere_agree n other (tuple us) (tuple ws) (λ i l off. value_decided us us_run i l ∙ ap m (same_there i l off) ∙ sym (value_decided ws ws_run i l)))))
      ]

  one_name : (us ws : List Word) → IsRun us → IsRun ws → (place : ℕ) → place < n → at (views us) place ≡ at (views ws) place → name_at us place ≡ name_at ws place
  one_name us ws us_run ws_run place inside same =
      let all = runs s.rule.input r in
      let Same = λ (ys zs : List Word) (p : ℕ). view_after s.rule.input ys p ≡ view_after s.rule.input zs p in
      stars_connected s.rule.input r (place ∷ []) (λ ys. name_at ys place) set.simplex set.few
      (λ ys zs y_run z_run agree differ.
      let here = (recursion_from_All (Same ys zs) (place ∷ []) agree).0 in
      joined place inside ys zs (contained_has ys all y_run) (contained_has zs all z_run) here differ)
      us ws (contains us all us_run) (contains ws all ws_run) (All-from_recursion (Same us ws) (place ∷ []) (same, tt))

  -- ---- the map with names

  abbrev named : View → ℕ
  named v = By.picked s.rule.input r name_at m (By.all_viewed s.rule.input r name_at m) v

  named_there : (ws : List Word) → IsRun ws → (i : ℕ) → i < n → named (at (views ws) i) ≡ name_at ws i
  named_there = By.picked_there s.rule.input r name_at m set.simplex one_name

  -- ---- on the simplex

  on_simplex : (ws : List Word) → IsRun ws → map named (views ws) ≡ with_names s (tuple ws)
  on_simplex ws run =
      let vs = views ws in
      ap (map named) (sym (subst (λ k. map (at vs) (below k) ≡ vs) (views_long ws run) (by_place vs (base 0 0))))
      ∙ map_twice named (at vs) (below n)
      ∙ map_same_on (λ i. named (at vs i)) (name_at ws) (below n)
      (from_each (λ i. named (at vs i) ≡ name_at ws i) (below n) (λ i there. named_there ws run i (has_below n i there)))

  -- ---- on a face

  on_face : (q : Rule) → Contains t.delta q → is_part q.input s.rule.input ≡ true → (ws : List Word) → Has ws (runs q.input r) → Has (map named (fold round (base_views q.input) ws)) (tuples_on_face s q)
  on_face q q_there part ws run =
      let mask = mask_of q.input s.rule.input in
      let more = On.face_run s.rule.input r set.simplex set.few q.input part ws run in
      let us = more.0 in
      let before : map m (fold round (base_views q.input) ws) ≡ keep mask (tuple us) = ap (map m) more.2 ∙ sym (keep_map m mask (views us)) in
      let after : map named (fold round (base_views q.input) ws) ≡ keep mask (with_names s (tuple us)) =
      ap (map named) more.2 ∙ sym (keep_map named mask (views us)) ∙ ap (keep mask) (on_simplex us more.1) in
      let pass : is_kept q mask (tuple us) ≡ true = there_has q.tuples (keep mask (tuple us)) (subst (λ y. Has y q.tuples) before (allowed q q_there ws run)) in
      subst (λ y. Has y (tuples_on_face s q)) (sym after)
      (map_has (λ y. keep mask (with_names s y)) (tuple us) (filter (is_kept q mask) s.rule.tuples)
      (filter_has (is_kept q mask) (tuple us) s.rule.tuples (allowed s.rule is.listed us more.1) pass))

  -- ---- elsewhere

  choice : (v : View) → Has (named v) (choices s (process_of v) (m v))
  choice v =
      in_order_has nat_cmp nat_cmp-IsAntisymmetric (named v) (m v ∷ flat_map (names_at s (process_of v) (m v)) (below n))
      (elim (By.picked_is s.rule.input r name_at m v) [
        | inl own ↦ inl (sym own)
        | inr found ↦ inr (subst (λ x. Has x (flat_map (names_at s (process_of v) (m v)) (below n))) (sym found.5) (from found.0 found.1 found.2 found.3 found.4))
      ])
    where
      from : (ws : List Word) (i : ℕ) → IsRun ws → i < n → at (views ws) i ≡ v → Has (name_at ws i) (flat_map (names_at s (process_of v) (m v)) (below n))
      from ws i run low same =
          let value : value_at (tuple ws) i ≡ m v = value_decided ws run i low ∙ ap m same in
          let process : get_or (processes_of s.rule.input) i 0 ≡ process_of v = sym (process_there ws run i low) ∙ ap process_of same in
          flat_has (names_at s (process_of v) (m v)) i (name_at ws i) (below n) (below_has n i low)
          (subst (λ b. Has (name_at ws i) (cond b (map (s.name i) (filter (λ y. value_at y i == m v) s.rule.tuples)) [])) (sym (eq-eqb (get_or (processes_of s.rule.input) i 0) (process_of v) process))
          (map_has (s.name i) (tuple ws) (filter (λ y. value_at y i == m v) s.rule.tuples)
          (filter_has (λ y. value_at y i == m v) (tuple ws) s.rule.tuples (allowed s.rule is.listed ws run) (eq-eqb (value_at (tuple ws) i) (m v) value))))

  chosen : (vs : List View) → Has (map named vs) (choices_of (choices s) (map process_of vs) (map m vs))
  chosen [] = inl refl
  chosen (v ∷ vs) =
      flat_has (λ z. map (λ rest. z ∷ rest) (choices_of (choices s) (map process_of vs) (map m vs))) (named v) (named v ∷ map named vs) (choices s (process_of v) (m v)) (choice v)
      (map_has (λ rest. named v ∷ rest) (map named vs) (choices_of (choices s) (map process_of vs) (map m vs)) (chosen vs))

  elsewhere : (q : Rule) → Contains t.delta q → (ws : List Word) → Has ws (runs q.input r) → Has (map named (fold round (base_views q.input) ws)) (flat_map (choices_of (choices s) (processes_of q.input)) q.tuples)
  elsewhere q q_there ws run =
      let vs = fold round (base_views q.input) ws in
      flat_has (choices_of (choices s) (processes_of q.input)) (map m vs) (map named vs) q.tuples (allowed q q_there ws run)
      (subst (λ ps. Has (map named vs) (choices_of (choices s) ps (map m vs))) (On.processes_there q.input r ws run) (chosen vs))

  -- ---- in all

  decides_names : IsDecisionMap (split s t) r named
  decides_names =
      decides_allowed t (tuples_split s) r named
      (λ q q_there ws run.
      let here = subst (λ b. Has ws (lists_of (words b (length q.input)) r)) set.all_words run in
      subst (λ vs. Has (map named vs) (tuples_split s q)) (sym (own_class t set.by_process (fold round (base_views q.input) ws))) (by q q_there ws here (is_part q.input s.rule.input) refl))
    where
      by : (q : Rule) → Contains t.delta q → (ws : List Word) → Has ws (lists_of (words 1 (length q.input)) r) → (b : Bool) → is_part q.input s.rule.input ≡ b →
          Has (map named (fold round (base_views q.input) ws)) (cond b (tuples_on_face s q) (flat_map (choices_of (choices s) (processes_of q.input)) q.tuples))
      by q q_there ws run true part = on_face q q_there part ws run
      by q q_there ws run false part = elsewhere q q_there ws run

pub splits_leave : (t : Task) (s : Splitting) (r : ℕ) → Setting t s.rule → IsSplitting t s → HasNoDecisionMap (split s t) r → HasNoDecisionMap t r
splits_leave t s r set is none m decides = none (named t s r set is m decides) (decides_names t s r set is m decides)

-- ---- by stars

hang_turned : (n place : ℕ) (a b : Tuple) → hang_together n place a b ≡ true → hang_together n place b a ≡ true
hang_turned n place a b h =
    let found = has_any (λ p. not (p == place) && agree_elsewhere n p a b) (below n) h in
    let both = and_parts (not (found.0 == place)) (agree_elsewhere n found.0 a b) found.2 in
    any_has (λ p. not (p == place) && agree_elsewhere n p b a) found.0 (below n) found.1
    (and_from (not (found.0 == place)) (agree_elsewhere n found.0 b a) both.0 (agree_turned n found.0 a b both.1))

pub stars_split : (t : Task) (rule : Rule) (new : ℕ) → Contains t.delta rule → IsSplitting t (by_stars rule new)
stars_split t rule new there = record {
  listed = there;
  unbroken = λ place a b inside a_there b_there near.
      let n = length rule.input in
      one_name_beside (stars rule place) (names_of place new [] (stars rule place)) a b
      (in_the_same (hang_together n place) (hang_turned n place) rule.tuples a b (contained_has a rule.tuples a_there) (contained_has b rule.tuples b_there) near);
}
