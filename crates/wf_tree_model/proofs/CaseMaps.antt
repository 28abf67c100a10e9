-- A decision map decides tuples of one part on a simplex, and on those that are alike.
use Rattle.std.proofs.Common.{◌≡◌, ℕ, zero, suc, ◌==◌, ◌<◌, ◌≤◌, Bool, true, false, cond, List, [], ◌∷◌, map, filter, fold, length, get_or, Contains, refl, sym, ap, ◌∙◌, subst, arith}
use Rattle.std.proofs.lemmas.Bool.{eqb-true}
use Rattle.std.proofs.lemmas.List.{get_or-map}
use Rattle.std.proofs.lemmas.List.Elements.{All-from_recursion}
use Rattle.wf_model.specs.Lists.{below, lists_of}
use Rattle.wf_model.specs.Simplex.{Simplex, Vertex}
use Rattle.wf_model.specs.Word.{Word, words}
use Rattle.wf_model.specs.View.{View, base, base_views, round}
use Rattle.wf_model.specs.Task.{Rule, Task, Tuple, first_block}
use Rattle.wf_model.specs.Points.{class}
use Rattle.wf_model.specs.DecisionMap.{HasNoDecisionMap, IsDecisionMap}
use Rattle.wf_tree_model.specs.Counting.Rules.{same_numbers}
use Rattle.wf_tree_model.proofs.OfCounting.Lemmas.{numbers_same}
use Rattle.wf_tree_model.specs.Alike.{are_alike}
use Rattle.wf_tree_model.specs.Cases.{components, in_case, is_step, tuples_in_case}
use Rattle.wf_tree_model.specs.Stars.{DifferAtOne, runs, view_after}
use Rattle.wf_tree_model.specs.Tuples.{agree_elsewhere, are_adjacent, has_tuple, value_at}
use Rattle.wf_tree_model.proofs.Members.{AreOf, Has, any_has, contained_has, contains, filter_has, has_any, lists_have, of_has}
use Rattle.wf_tree_model.proofs.Inputs.{HasInputComplex, input_ascends, input_small}
use Rattle.wf_tree_model.proofs.Alike.{alike_long, decide_alike, decided_on}
use Rattle.wf_tree_model.proofs.AloneViews.{last_alone}
use Rattle.wf_tree_model.proofs.Maps.{decided, decides_allowed}
use Rattle.wf_tree_model.proofs.PartsJoin.{in_the_same, same_tuples, some_part, there_has}
use Rattle.wf_tree_model.proofs.Places.{at, map_twice}
use Rattle.wf_tree_model.proofs.SplitMaps.{agree_turned, elsewhere_agree}
use Rattle.wf_tree_model.proofs.ViewsAfter.{simplex_some, stars_connected}
use Rattle.wf_tree_model.proofs.WordTests.{below_has, is_a_word}
use Rattle.wf_tree_model.proofs.OnSimplex as On

-- ---- an execution

-- all at once
abbrev pub at_once : ℕ → Word
at_once n = map (λ i. 0) (below n)

at_once_word : (n : ℕ) → 1 ≤ n → n ≤ 4 → Has (at_once n) (words 1 n)
at_once_word zero some few = absurd (let none : ⊥ = omega arith in none)
at_once_word (suc zero) some few = is_a_word 1 (at_once 1) refl
at_once_word (suc (suc zero)) some few = is_a_word 2 (at_once 2) refl
at_once_word (suc (suc (suc zero))) some few = is_a_word 3 (at_once 3) refl
at_once_word (suc (suc (suc (suc zero)))) some few = is_a_word 4 (at_once 4) refl
at_once_word (suc (suc (suc (suc (suc n))))) some few = absurd (let none : ⊥ = omega arith in none)

-- a word again and again
abbrev pub repeated : Word → ℕ → List Word
repeated w zero = []
repeated w (suc r) = w ∷ repeated w r

pub repeated_run : (all : List Word) (w : Word) → Has w all → (r : ℕ) → AreOf all r (repeated w r)
repeated_run all w there zero = (refl, tt)
repeated_run all w there (suc r) = let h = repeated_run all w there r in (ap suc h.0, (there, h.1))

-- ---- steps

adjacent_turned : (n : ℕ) (a b : Tuple) → are_adjacent n a b ≡ true → are_adjacent n b a ≡ true
adjacent_turned n a b h =
    let found = has_any (λ p. agree_elsewhere n p a b) (below n) h in
    any_has (λ p. agree_elsewhere n p b a) found.0 (below n) found.1 (agree_turned n found.0 a b found.2)

same_turned : (a b : Tuple) → same_numbers a b ≡ true → same_numbers b a ≡ true
same_turned a b h = let e = same_tuples a b h in subst (λ c. same_numbers c a ≡ true) e (numbers_same a)

step_turned : (n : ℕ) (a b : Tuple) → is_step n a b ≡ true → is_step n b a ≡ true
step_turned n a b h = by (n == 1) h
  where
    by : (one : Bool) → cond one (same_numbers a b) (are_adjacent n a b) ≡ true → cond one (same_numbers b a) (are_adjacent n b a) ≡ true
    by true k = same_turned a b k
    by false k = adjacent_turned n a b k

abbrev number : Bool → ℕ
number b = cond b 1 0

-- one vertex
only_vertex : (s : Simplex) → length s ≡ 1 → (v : Vertex) × (s ≡ v ∷ [])
only_vertex [] h = absurd (let none : ⊥ = omega (arith, h) in none)
only_vertex (v ∷ []) h = (v, refl)
only_vertex (v ∷ w ∷ s) h = absurd (let none : ⊥ = omega (arith, h) in none)

module _ (t : Task) (of : Rule) (r : ℕ) (fit : HasInputComplex t) (all_words : first_block t ≡ 1) (listed : Contains t.delta of) (m : View → ℕ) (decides : IsDecisionMap t r m) where
  abbrev n : ℕ
  n = length of.input

  abbrev IsRun : List Word → Type 0
  IsRun ws = Has ws (runs of.input r)

  abbrev views : List Word → List View
  views ws = fold round (base_views of.input) ws

  abbrev tuple : List Word → Tuple
  tuple ws = decided_on t m of.input ws

  allowed : (ws : List Word) → IsRun ws → Has (tuple ws) of.tuples
  allowed ws run = decided t r m decides of listed ws (subst (λ b. Has ws (lists_of (words b n) r)) (sym all_words) run)

  value_decided : (ws : List Word) → IsRun ws → (i : ℕ) → i < n → value_at (tuple ws) i ≡ m (class t (at (views ws) i))
  value_decided ws run i low =
      let long = On.views_long of.input r ws run in
      ap (λ ys. get_or ys i 0) (map_twice m (class t) (views ws))
      ∙ get_or-map (λ v. m (class t v)) (views ws) i (base 0 0) 0 (omega (arith, low, long))

  -- alone a process has one view
  same_alone : n ≡ 1 → (us ws : List Word) → IsRun us → IsRun ws → tuple us ≡ tuple ws
  same_alone one us ws us_run ws_run =
      let v = only_vertex of.input one in
      let there = λ (zs : List Word) (run : IsRun zs). ap (λ s. fold round (base_views s) zs) v.1 ∙ last_alone 1 r v.0 zs (subst (λ s. Has zs (lists_of (words 1 (length s)) r)) v.1 run) in
      ap (λ vs. map m (map (class t) vs)) (there us us_run ∙ sym (there ws ws_run))

  step : (us ws : List Word) → IsRun us → IsRun ws → DifferAtOne of.input us ws → is_step n (tuple us) (tuple ws) ≡ true
  step us ws us_run ws_run (p, low, others) = by (n == 1) refl
    where
      by : (one : Bool) → (n == 1) ≡ one → cond one (same_numbers (tuple us) (tuple ws)) (are_adjacent n (tuple us) (tuple ws)) ≡ true
      by true one = subst (λ y. same_numbers (tuple us) y ≡ true) (same_alone (eqb-true n 1 one) us ws us_run ws_run) (numbers_same (tuple us))
      by false more =
          any_has (λ q. agree_elsewhere n q (tuple us) (tuple ws)) p (below n) (below_has n p low)
          (elsewhere_agree n p (tuple us) (tuple ws) (λ i l other. value_decided us us_run i l ∙ ap (λ v. m (class t v)) (others i l other) ∙ sym (value_decided ws ws_run i l)))

  -- an execution
  abbrev first : List Word
  first = repeated (at_once n) r

  first_run : IsRun first
  first_run =
      lists_have (words 1 n) r first
      (repeated_run (words 1 n) (at_once n) (at_once_word n (simplex_some of.input (input_ascends t fit of listed).0) (input_small t fit of listed)) r)

  -- the part of its tuple
  abbrev own : (part : List Tuple) × Has part (components of) × Has (tuple first) part
  own = some_part (is_step n) of.tuples (tuple first) (allowed first first_run)

  -- whether a part has the tuple of an execution, as a number
  abbrev inside : List Tuple → List Word → ℕ
  inside part ws = number (has_tuple part (tuple ws))

  one_part : (part : List Tuple) → Has part (components of) → (us ws : List Word) → IsRun us → IsRun ws → inside part us ≡ inside part ws
  one_part part there us ws us_run ws_run =
      let all = runs of.input r in
      stars_connected of.input r [] (inside part) (input_ascends t fit of listed).0 (input_small t fit of listed)
      (λ ys zs y_run z_run agree differ.
      let y_in = contained_has ys all y_run in
      let z_in = contained_has zs all z_run in
      ap number
      (of_has (λ q. has_tuple q (tuple ys) ≡ has_tuple q (tuple zs)) (components of) part
      (in_the_same (is_step n) (step_turned n) of.tuples (tuple ys) (tuple zs) (allowed ys y_in) (allowed zs z_in) (step ys zs y_in z_in differ)) there))
      us ws (contains us all us_run) (contains ws all ws_run) (All-from_recursion (λ p. view_after of.input us p ≡ view_after of.input ws p) [] tt)

  in_own : (ws : List Word) → IsRun ws → has_tuple own.0 (tuple ws) ≡ true
  in_own ws run =
      let same = one_part own.0 own.1 first ws first_run run in
      let here = there_has own.0 (tuple first) own.2 in
      by (has_tuple own.0 (tuple ws)) (ap number (sym here) ∙ same)
    where
      by : (b : Bool) → number true ≡ number b → b ≡ true
      by true h = refl
      by false h = absurd (let none : ⊥ = omega (arith, h) in none)

  decides_case : IsDecisionMap (in_case of own.0 t) r m
  decides_case =
      decides_allowed t (tuples_in_case t of own.0) r m
      (λ q q_there ws run. by q q_there ws run (decided t r m decides q q_there ws run) (are_alike t of.input q.input) refl)
    where
      by : (q : Rule) → Contains t.delta q → (ws : List Word) → Has ws (lists_of (words (first_block t) (length q.input)) r) → Has (decided_on t m q.input ws) q.tuples →
          (b : Bool) → are_alike t of.input q.input ≡ b → Has (decided_on t m q.input ws) (cond b (filter (has_tuple own.0) q.tuples) q.tuples)
      by q q_there ws run there true alike =
          let here_run : IsRun ws = subst (λ k. Has ws (lists_of (words 1 k) r)) (sym (alike_long t of.input q.input alike)) (subst (λ b. Has ws (lists_of (words b (length q.input)) r)) all_words run) in
          let tuples : tuple ws ≡ decided_on t m q.input ws = decide_alike t m of.input q.input (input_ascends t fit of listed).1 (input_ascends t fit q q_there).1 alike ws in
          filter_has (has_tuple own.0) (decided_on t m q.input ws) q.tuples there (subst (λ y. has_tuple own.0 y ≡ true) tuples (in_own ws here_run))
      by q q_there ws run there false other = there

pub cases_leave : (t : Task) (of : Rule) (r : ℕ) → HasInputComplex t → first_block t ≡ 1 → Contains t.delta of →
    ((part : List Tuple) → Contains (components of) part → HasNoDecisionMap (in_case of part t) r) → HasNoDecisionMap t r
cases_leave t of r fit all_words listed none m decides =
    let mine = own t of r fit all_words listed m decides in
    none mine.0 (contains mine.0 (components of) mine.1) m (decides_case t of r fit all_words listed m decides)
