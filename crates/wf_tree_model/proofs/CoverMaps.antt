-- A decision map of a task gives one of the task with values on sheets: each view on the simplex
-- has a sheet, by the potential.
use Rattle.std.proofs.Common.{◌≡◌, ℕ, zero, suc, ◌==◌, ◌&&◌, ◌<◌, nat_lt, Bool, true, false, cond, List, [], ◌∷◌, map, filter, flat_map, fold, length, get_or, Contains, inl, inr, refl, sym, ap, ◌∙◌, subst, arith}
use Rattle.std.specs.List.{AllByRecursion, list_all}
use Rattle.std.proofs.lemmas.Bool.{and_parts, cases_Bool, eq-eqb, eqb-true, lt-ltb, ltb-true}
use Rattle.std.proofs.lemmas.List.{get_or-map, length-map}
use Rattle.wf_model.specs.Lists.{below, has, lists_of}
use Rattle.wf_model.specs.Simplex.{Simplex, Vertex, processes_of}
use Rattle.wf_model.specs.Word.{Word, words}
use Rattle.wf_model.specs.View.{View, base, seen, no_views, view, base_views, process_of, round}
use Rattle.wf_model.specs.Task.{Rule, Task, Tuple}
use Rattle.wf_model.specs.DecisionMap.{HasNoDecisionMap, IsDecisionMap}
use Rattle.wf_model.proofs.Lemmas.{by_place}
use Rattle.wf_tree_model.specs.Counting.Signs.{keep}
use Rattle.wf_tree_model.specs.Counting.Rules.{same_numbers}
use Rattle.wf_tree_model.proofs.OfCounting.Lemmas.{each_passes, map_same_on, keep_map, numbers_same, view_of}
use Rattle.wf_tree_model.specs.Covers.{Covering, IsCovering, corner_vertex, covered, is_corner, is_flat_at, lifted, lifts, lifts_on_corner, lifts_on_face, moved, sheets_of, tuples_covered}
use Rattle.wf_tree_model.specs.Stars.{runs}
use Rattle.wf_tree_model.specs.Tuples.{choices_of, is_kept, is_part, mask_of, value_at}
use Rattle.wf_tree_model.proofs.Members.{AreOf, Has, any_has, filter_has, flat_has, from_each, has_lists, lists_have, map_has, of_has}
use Rattle.wf_tree_model.proofs.Maps.{decides_allowed, own_class}
use Rattle.wf_tree_model.proofs.AloneViews.{alone, alone_after, last_alone}
use Rattle.wf_tree_model.proofs.WordTests.{below_has, has_below, number_has, row}
use Rattle.wf_tree_model.proofs.Places.{after, at, map_twice}
use Rattle.wf_tree_model.proofs.StarRuns as Star
use Rattle.wf_tree_model.proofs.OneRound.{alone_row, together}
use Rattle.wf_tree_model.proofs.CoverRuns as Runs
use Rattle.wf_tree_model.proofs.CoverRuns.{KeepsBelow, Labels}
use Rattle.wf_tree_model.proofs.ViewsAfter.{base_long, base_process, fold_turned, processes_apart, turned, turned_of, turned_twice}
use Rattle.wf_tree_model.proofs.OnSimplex as On
use Rattle.wf_tree_model.proofs.ByView as By
use Rattle.wf_tree_model.proofs.Inputs.{Setting}
use Rattle.wf_tree_model.proofs.CaseMaps.{repeated, repeated_run}

-- ---- moves between sheets

-- what is no sheet stays
abbrev held : ℕ → ℕ → ℕ → ℕ
held d y x = cond (nat_lt x d && nat_lt y d) y x

held_low : (d y x : ℕ) → x < d → y < d → held d y x ≡ y
held_low d y x x_low y_low = let a = lt-ltb x d x_low in let b = lt-ltb y d y_low in rw (a, b) refl

held_high : (d y x : ℕ) → nat_lt x d ≡ false → held d y x ≡ x
held_high d y x high = rw high refl

held_below : (d y x : ℕ) → x < d → held d y x < d
held_below d y x low = by (nat_lt x d) (nat_lt y d) refl
  where
    by : (a b : Bool) → nat_lt y d ≡ b → cond (a && b) y x < d
    by true true e = ltb-true y d e
    by true false e = low
    by false true e = low
    by false false e = low

-- a tuple round which each sheet comes to itself
abbrev IsFlatTuple : Covering → Tuple → Type 0
IsFlatTuple c a = (i j k x : ℕ) → i < length c.rule.input → j < length c.rule.input → k < length c.rule.input → x < c.sheets →
    (moved c a i j x < c.sheets) × (moved c a j k (moved c a i j x) ≡ moved c a i k x)

flat_tuple : (t : Task) (c : Covering) → IsCovering t c → (a : Tuple) → Has a c.rule.tuples → IsFlatTuple c a
flat_tuple t c is a there i j k x i_low j_low k_low x_low =
    let n = length c.rule.input in
    let at_sheet = λ (i j k : ℕ). list_all (is_flat_at c a i j k) (below c.sheets) in
    let at_three = λ (i j : ℕ). list_all (at_sheet i j) (below n) in
    let at_two = λ (i : ℕ). list_all (at_three i) (below n) in
    let Passes = λ (b : Tuple). list_all (λ i. list_all (λ j. list_all (λ k. list_all (is_flat_at c b i j k) (below c.sheets)) (below n)) (below n)) (below n) ≡ true in
    let one : list_all at_two (below n) ≡ true =
    of_has Passes c.rule.tuples a (each_passes (λ (b : Tuple). list_all (λ i. list_all (λ j. list_all (λ k. list_all (is_flat_at c b i j k) (below c.sheets)) (below n)) (below n)) (below n)) c.rule.tuples is.flat) there in
    let two : list_all (at_three i) (below n) ≡ true = of_has (λ p. at_two p ≡ true) (below n) i (each_passes at_two (below n) one) (below_has n i i_low) in
    let three : list_all (at_sheet i j) (below n) ≡ true = of_has (λ p. at_three i p ≡ true) (below n) j (each_passes (at_three i) (below n) two) (below_has n j j_low) in
    let four : list_all (is_flat_at c a i j k) (below c.sheets) ≡ true = of_has (λ p. at_sheet i j p ≡ true) (below n) k (each_passes (at_sheet i j) (below n) three) (below_has n k k_low) in
    let here : is_flat_at c a i j k x ≡ true = of_has (λ p. is_flat_at c a i j k p ≡ true) (below c.sheets) x (each_passes (is_flat_at c a i j k) (below c.sheets) four) (below_has c.sheets x x_low) in
    let parts = and_parts (nat_lt (moved c a i j x) c.sheets) (moved c a j k (moved c a i j x) == moved c a i k x) here in
    (ltb-true (moved c a i j x) c.sheets parts.0, eqb-true (moved c a j k (moved c a i j x)) (moved c a i k x) parts.1)

held_flat : (c : Covering) (a : Tuple) → IsFlatTuple c a → (i j k x : ℕ) → i < length c.rule.input → j < length c.rule.input → k < length c.rule.input →
    held c.sheets (moved c a j k (held c.sheets (moved c a i j x) x)) (held c.sheets (moved c a i j x) x) ≡ held c.sheets (moved c a i k x) x
held_flat c a flat i j k x i_low j_low k_low =
    let d = c.sheets in
    elim (cases_Bool (nat_lt x d)) [
      | inl in' ↦
          let x_low = ltb-true x d in' in
          let first = flat i j k x i_low j_low k_low x_low in
          let last = flat i k k x i_low k_low k_low x_low in
          let second = flat j k k (moved c a i j x) j_low k_low k_low first.0 in
          ap (λ y. held d (moved c a j k y) y) (held_low d (moved c a i j x) x x_low first.0)
          ∙ held_low d (moved c a j k (moved c a i j x)) (moved c a i j x) first.0 second.0
          ∙ first.1
          ∙ sym (held_low d (moved c a i k x) x x_low last.0)
      | inr out ↦
          ap (λ y. held d (moved c a j k y) y) (held_high d (moved c a i j x) x out)
          ∙ held_high d (moved c a j k x) x out
          ∙ sym (held_high d (moved c a i k x) x out)
    ]

get_has : (xs : List ℕ) (i : ℕ) → i < length xs → Has (get_or xs i 0) xs
get_has [] i low = absurd (let none : ⊥ = omega (arith, low) in none)
get_has (x ∷ xs) zero low = inl refl
get_has (x ∷ xs) (suc i) low = inr (get_has xs i (omega (arith, low)))

-- ---- the view of who always is alone first

abbrev one_more : View → View
one_more v = seen (process_of v) (view v no_views)

later_alone : (r : ℕ) (v : View) → alone_after r (one_more v) ≡ one_more (alone_after r v)
later_alone zero v = refl
later_alone (suc r) v = later_alone r (one_more v)

module _ (t : Task) (c : Covering) (r : ℕ) (set : Setting t c.rule) (is : IsCovering t c) (m : View → ℕ) (decides : IsDecisionMap t r m) where
  abbrev s : Simplex
  s = c.rule.input

  abbrev n : ℕ
  n = length s

  abbrev d : ℕ
  d = c.sheets

  abbrev old : List View
  old = base_views s

  abbrev views : List Word → List View
  views ws = fold round old ws

  abbrev IsRun : List Word → Type 0
  IsRun ws = Has ws (runs s r)

  abbrev tuple : List Word → Tuple
  tuple ws = map m (views ws)

  allowed : (q : Rule) → Contains t.delta q → (ws : List Word) → Has ws (runs q.input r) → Has (map m (fold round (base_views q.input) ws)) q.tuples
  allowed = On.decided_plain t set.by_process set.all_words r m decides

  apart : (i j : ℕ) → i < n → j < n → process_of (at old i) ≡ process_of (at old j) → i ≡ j
  apart i j first second h = processes_apart s set.simplex i j first second (sym (base_process s i first) ∙ h ∙ base_process s j second)

  -- ---- words from the last one back

  run_back : (us : List Word) → AreOf (words 1 n) r us → IsRun (turned us)
  run_back us run = lists_have (words 1 n) r (turned us) (turned_of (words 1 n) r us run)

  run_turned : (ws : List Word) → IsRun ws → AreOf (words 1 n) r (turned ws)
  run_turned ws run = turned_of (words 1 n) r ws (has_lists (words 1 n) r ws run)

  view_back : (ws : List Word) (i : ℕ) → at (views ws) i ≡ at (after old (turned ws)) i
  view_back ws i = ap (λ us. at (views us) i) (sym (turned_twice ws)) ∙ ap (λ vs. at vs i) (fold_turned old (turned ws))

  -- ---- labels

  abbrev carried : ℕ → ℕ → ℕ → ℕ → ℕ → ℕ
  carried i a j b x = cond (i == j) x (c.move i a j b x)

  abbrev g : Labels
  g i a j b x = held d (carried i (m a) j (m b) x) x

  g_below : KeepsBelow d g
  g_below i a j b x low = held_below d (carried i (m a) j (m b) x) x low

  -- on an execution they move between the sheets of its tuple
  g_is : (us : List Word) → AreOf (words 1 n) r us → (i j x : ℕ) → i < n → j < n → g i (at (after old us) i) j (at (after old us) j) x ≡ held d (moved c (tuple (turned us)) i j x) x
  g_is us run i j x i_low j_low =
      let value = λ (p : ℕ) (low : p < n). ap (λ vs. m (at vs p)) (sym (fold_turned old us)) ∙ sym (On.value_decided s r m (turned us) (run_back us run) p low) in
      let a = value i i_low in
      let b = value j j_low in
      λ z. held d (carried i (a z) j (b z) x) x

  flat_here : (us : List Word) → AreOf (words 1 n) r us → IsFlatTuple c (tuple (turned us))
  flat_here us run = flat_tuple t c is (tuple (turned us)) (allowed c.rule is.listed (turned us) (run_back us run))

  g_flat : Runs.IsFlatAfter n is.some set.few old (base_long s) apart r g
  g_flat = record {
    own = λ us run i x low. ap (λ b. held d (cond b x (c.move i (m (at (after old us) i)) i (m (at (after old us) i)) x)) x) (eq-eqb i i refl) ∙ same (nat_lt x d && nat_lt x d) x;
    flat = λ us run i j k x i_low j_low k_low.
        let a = tuple (turned us) in
        ap (g j (at (after old us) j) k (at (after old us) k)) (g_is us run i j x i_low j_low)
        ∙ g_is us run j k (held d (moved c a i j x) x) j_low k_low
        ∙ held_flat c a (flat_here us run) i j k x i_low j_low k_low
        ∙ sym (g_is us run i k x i_low k_low);
  }
    where
      same : (b : Bool) (x : ℕ) → cond b x x ≡ x
      same true x = refl
      same false x = refl

  -- ---- sheets

  abbrev sheet : List Word → ℕ → ℕ
  sheet ws i = Runs.height n is.some set.few old (base_long s) apart c.corner 0 is.inside r g (turned ws) i

  sheet_low : (ws : List Word) (i : ℕ) → sheet ws i < d
  sheet_low ws i = Runs.height_below n is.some set.few old (base_long s) apart c.corner 0 is.inside d r g g_below is.some_sheet (turned ws) i

  sheet_moved : (ws : List Word) → IsRun ws → (i : ℕ) → i < n → sheet ws i ≡ moved c (tuple ws) c.corner i (sheet ws c.corner)
  sheet_moved ws run i low =
      let us = turned ws in
      let us_run = run_turned ws run in
      let x = sheet ws c.corner in
      let flat = flat_here us us_run c.corner i i x is.inside low low (sheet_low ws c.corner) in
      sym (Runs.height_follows n is.some set.few old (base_long s) apart c.corner 0 is.inside r g g_flat us us_run c.corner i is.inside low)
      ∙ g_is us us_run c.corner i x is.inside low
      ∙ held_low d (moved c (tuple (turned us)) c.corner i x) x (sheet_low ws c.corner) flat.0
      ∙ ap (λ zs. moved c (tuple zs) c.corner i x) (turned_twice ws)

  sheet_settled : (us ws : List Word) → IsRun us → IsRun ws → (i : ℕ) → i < n → at (views us) i ≡ at (views ws) i → sheet us i ≡ sheet ws i
  sheet_settled us ws us_run ws_run i low same =
      Runs.height_settled n is.some set.few old (base_long s) apart c.corner 0 is.inside r g (turned us) (turned ws) (run_turned us us_run) (run_turned ws ws_run) i low
      (sym (view_back us i) ∙ same ∙ view_back ws i)

  -- ---- the map on sheets

  -- the sheet of a view of the simplex, and 0 of others
  abbrev picked : View → ℕ
  picked v = By.picked s r sheet (λ v. 0) (By.all_viewed s r sheet (λ v. 0)) v

  picked_low : (v : View) → picked v < d
  picked_low v =
      elim (By.picked_is s r sheet (λ v. 0) v) [
        | inl none ↦ subst (λ x. x < d) (sym none) is.some_sheet
        | inr found ↦ subst (λ x. x < d) (sym found.5) (sheet_low found.0 found.1)
      ]

  picked_there : (ws : List Word) → IsRun ws → (i : ℕ) → i < n → picked (at (views ws) i) ≡ sheet ws i
  picked_there = By.picked_there s r sheet (λ v. 0) set.simplex (λ us ws us_run ws_run i low same. sheet_settled us ws us_run ws_run i low same)

  abbrev copied : View → ℕ
  copied v = cond (has (processes_of s) (process_of v)) (c.name (m v) (picked v)) (m v)

  process_has : (i : ℕ) → i < n → has (processes_of s) (get_or (processes_of s) i 0) ≡ true
  process_has i low =
      let long = length-map s (λ (v : Vertex). v.0) in
      number_has (get_or (processes_of s) i 0) (processes_of s) (get_has (processes_of s) i (omega (arith, low, long)))

  copied_there : (ws : List Word) → IsRun ws → (i : ℕ) → i < n → copied (at (views ws) i) ≡ c.name (m (at (views ws) i)) (sheet ws i)
  copied_there ws run i low =
      let v = at (views ws) i in
      let process = On.process_there s r ws run i low in
      ap (λ b. cond b (c.name (m v) (picked v)) (m v)) (ap (has (processes_of s)) process ∙ process_has i low)
      ∙ ap (c.name (m v)) (picked_there ws run i low)

  -- ---- on the simplex

  on_simplex : (ws : List Word) → IsRun ws → map copied (views ws) ≡ lifted c (tuple ws) (sheet ws c.corner)
  on_simplex ws run =
      let x = sheet ws c.corner in
      let vs = views ws in
      let name = λ (i : ℕ). c.name (value_at (tuple ws) i) (moved c (tuple ws) c.corner i x) in
      ap (map copied) (sym (subst (λ k. map (at vs) (below k) ≡ vs) (On.views_long s r ws run) (by_place vs (base 0 0))))
      ∙ map_twice copied (at vs) (below n)
      ∙ map_same_on (λ i. copied (at vs i)) name (below n)
      (from_each (λ i. copied (at vs i) ≡ name i) (below n)
      (λ i there.
      let low = has_below n i there in
      copied_there ws run i low
      ∙ ap (λ y. c.name y (sheet ws i)) (sym (On.value_decided s r m ws run i low))
      ∙ ap (c.name (value_at (tuple ws) i)) (sheet_moved ws run i low)))

  -- ---- on a face

  on_face : (q : Rule) → Contains t.delta q → is_part q.input s ≡ true → (ws : List Word) → Has ws (runs q.input r) → Has (map copied (fold round (base_views q.input) ws)) (lifts_on_face c q)
  on_face q q_there part ws run =
      let mask = mask_of q.input s in
      let more = On.face_run s r set.simplex set.few q.input part ws run in
      let us = more.0 in
      let x = sheet us c.corner in
      let before : map m (fold round (base_views q.input) ws) ≡ keep mask (tuple us) = ap (map m) more.2 ∙ sym (keep_map m mask (views us)) in
      let on_sheets : map copied (fold round (base_views q.input) ws) ≡ keep mask (lifted c (tuple us) x) =
      ap (map copied) more.2 ∙ sym (keep_map copied mask (views us)) ∙ ap (keep mask) (on_simplex us more.1) in
      let pass : is_kept q mask (tuple us) ≡ true =
      any_has (same_numbers (keep mask (tuple us))) (keep mask (tuple us)) q.tuples (subst (λ y. Has y q.tuples) before (allowed q q_there ws run)) (numbers_same (keep mask (tuple us))) in
      let kept = filter (is_kept q mask) c.rule.tuples in
      subst (λ y. Has y (lifts_on_face c q)) (sym on_sheets)
      (map_has (keep mask) (lifted c (tuple us) x) (flat_map (lifts c) kept)
      (flat_has (lifts c) (tuple us) (lifted c (tuple us) x) kept
      (filter_has (is_kept q mask) (tuple us) c.rule.tuples (allowed c.rule is.listed us more.1) pass)
      (map_has (lifted c (tuple us)) x (below d) (below_has d x (sheet_low us c.corner)))))

  -- ---- the corner alone

  abbrev lone : Word
  lone = together n (c.corner ∷ [])

  abbrev lone_run : ℕ → List Word
  lone_run k = repeated lone k

  of_lone : (k : ℕ) → AreOf (words 1 n) k (lone_run k)
  of_lone k = repeated_run (words 1 n) lone (alone_row n c.corner is.some set.few is.inside).word k

  rows_alone : (k : ℕ) → AllByRecursion (λ w. row n c.corner w ≡ c.corner ∷ c.corner ∷ []) (lone_run k)
  rows_alone zero = tt
  rows_alone (suc k) = ((alone_row n c.corner is.some set.few is.inside).row, rows_alone k)

  corner_view : (k : ℕ) → at (after old (lone_run k)) c.corner ≡ alone (corner_vertex c) k
  corner_view zero = get_or-map (λ (v : Vertex). base v.0 v.1) s c.corner (0, 0) (base 0 0) is.inside
  corner_view (suc k) =
      let us = lone_run k in
      let there = alone_row n c.corner is.some set.few is.inside in
      Star.next n (omega (arith, is.some)) set.few old (base_long s) apart lone us k c.corner there.word (of_lone k) is.inside
      ∙ ap (view_of (at (after old us))) there.row
      ∙ ap one_more (corner_view k)
      ∙ sym (later_alone k (base (corner_vertex c).0 (corner_vertex c).1))

  copied_corner : copied (alone (corner_vertex c) r) ≡ c.name (m (alone (corner_vertex c) r)) 0
  copied_corner =
      let us = lone_run r in
      let ws = turned us in
      let run = run_back us (of_lone r) in
      let here : at (views ws) c.corner ≡ alone (corner_vertex c) r = ap (λ vs. at vs c.corner) (fold_turned old us) ∙ corner_view r in
      let start : sheet ws c.corner ≡ 0 =
      ap (λ zs. Runs.height n is.some set.few old (base_long s) apart c.corner 0 is.inside r g zs c.corner) (turned_twice us)
      ∙ Runs.height_starts n is.some set.few old (base_long s) apart c.corner 0 is.inside r g g_flat us (of_lone r) (rows_alone r) in
      ap copied (sym here)
      ∙ copied_there ws run c.corner is.inside
      ∙ ap (λ v. c.name (m v) (sheet ws c.corner)) here
      ∙ ap (c.name (m (alone (corner_vertex c) r))) start

  on_corner : (q : Rule) → Contains t.delta q → is_corner c q ≡ true → (ws : List Word) → Has ws (runs q.input r) → Has (map copied (fold round (base_views q.input) ws)) (lifts_on_corner c q)
  on_corner q q_there here ws run =
      let v = corner_vertex c in
      let same : q.input ≡ v ∷ [] = On.same_vertices_in q.input (v ∷ []) here in
      let alone_run : Has ws (lists_of (words 1 1) r) = subst (λ z. Has ws (lists_of (words 1 (length z)) r)) same run in
      let last : fold round (base_views q.input) ws ≡ alone v r ∷ [] = ap (λ z. fold round (base_views z) ws) same ∙ last_alone 1 r v ws alone_run in
      subst (λ y. Has y (lifts_on_corner c q)) (sym (ap (map copied) last ∙ ap (λ y. y ∷ []) copied_corner))
      (map_has (λ a. c.name (value_at a 0) 0 ∷ []) (m (alone v r) ∷ []) q.tuples (subst (λ vs. Has (map m vs) q.tuples) last (allowed q q_there ws run)))

  -- ---- elsewhere

  choice : (v : View) → Has (copied v) (sheets_of c (process_of v) (m v))
  choice v = by (has (processes_of s) (process_of v))
    where
      by : (b : Bool) → Has (cond b (c.name (m v) (picked v)) (m v)) (cond b (map (c.name (m v)) (below d)) (m v ∷ []))
      by true = map_has (c.name (m v)) (picked v) (below d) (below_has d (picked v) (picked_low v))
      by false = inl refl

  chosen : (vs : List View) → Has (map copied vs) (choices_of (sheets_of c) (map process_of vs) (map m vs))
  chosen [] = inl refl
  chosen (v ∷ vs) =
      flat_has (λ z. map (λ rest. z ∷ rest) (choices_of (sheets_of c) (map process_of vs) (map m vs))) (copied v) (copied v ∷ map copied vs) (sheets_of c (process_of v) (m v)) (choice v)
      (map_has (λ rest. copied v ∷ rest) (map copied vs) (choices_of (sheets_of c) (map process_of vs) (map m vs)) (chosen vs))

  elsewhere : (q : Rule) → Contains t.delta q → (ws : List Word) → Has ws (runs q.input r) → Has (map copied (fold round (base_views q.input) ws)) (flat_map (choices_of (sheets_of c) (processes_of q.input)) q.tuples)
  elsewhere q q_there ws run =
      let vs = fold round (base_views q.input) ws in
      flat_has (choices_of (sheets_of c) (processes_of q.input)) (map m vs) (map copied vs) q.tuples (allowed q q_there ws run)
      (subst (λ ps. Has (map copied vs) (choices_of (sheets_of c) ps (map m vs))) (On.processes_there q.input r ws run) (chosen vs))

  -- ---- in all

  decides_covered : IsDecisionMap (covered c t) r copied
  decides_covered =
      decides_allowed t (tuples_covered c) r copied
      (λ q q_there ws run.
      let here = subst (λ b. Has ws (lists_of (words b (length q.input)) r)) set.all_words run in
      subst (λ vs. Has (map copied vs) (tuples_covered c q)) (sym (own_class t set.by_process (fold round (base_views q.input) ws)))
      (by q q_there ws here (is_corner c q) refl (is_part q.input s) refl))
    where
      by : (q : Rule) → Contains t.delta q → (ws : List Word) → Has ws (runs q.input r) → (b : Bool) → is_corner c q ≡ b → (e : Bool) → is_part q.input s ≡ e →
          Has (map copied (fold round (base_views q.input) ws)) (cond b (lifts_on_corner c q) (cond e (lifts_on_face c q) (flat_map (choices_of (sheets_of c) (processes_of q.input)) q.tuples)))
      by q q_there ws run true corner e part = on_corner q q_there corner ws run
      by q q_there ws run false corner true part = on_face q q_there part ws run
      by q q_there ws run false corner false part = elsewhere q q_there ws run

pub covers_leave : (t : Task) (c : Covering) (r : ℕ) → Setting t c.rule → IsCovering t c → HasNoDecisionMap (covered c t) r → HasNoDecisionMap t r
covers_leave t c r set is none m decides = none (copied t c r set is m decides) (decides_covered t c r set is m decides)
