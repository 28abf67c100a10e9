-- Executions with the same views at some places are joined by executions with these views, each
-- with another view at one place than the one before. The words are taken from the last one back.
use Rattle.std.proofs.Common.{◌≡◌, ℕ, zero, suc, ◌<◌, ◌≤◌, Bool, true, false, List, [], ◌∷◌, map, drop, length, refl, sym, ap, ◌∙◌, subst, inl, inr, arith}
use Rattle.std.specs.List.{AllByRecursion, list_any}
use Rattle.std.proofs.lemmas.Bool.{cases_Bool, cases_eq, false≢true}
use Rattle.wf_model.specs.Lists.{has}
use Rattle.wf_model.specs.Word.{Word, words}
use Rattle.wf_model.specs.View.{View, process_of}
use Rattle.wf_tree_model.proofs.OfCounting.Lemmas.{each, map_same_on, view_of}
use Rattle.wf_tree_model.proofs.Members.{AreOf, Has, any_has, from_each, has_any, of_has}
use Rattle.wf_tree_model.proofs.WordTests.{at_goal, chosen, chosen_has, goal, goal_of, has_chosen, has_number, headed, hop, hopped, hops, last, number_has, row, seen_at, sets_at, with_last}
use Rattle.wf_tree_model.proofs.Places.{after, after_long, at, map_injective, map_twice, same_places, same_seen, seen_after, seen_lists, word_long}

module _ (n : ℕ) (some : 1 ≤ n) (few : n ≤ 4) (old : List View) (olds : length old ≡ n)
    (apart : (i j : ℕ) → i < n → j < n → process_of (at old i) ≡ process_of (at old j) → i ≡ j) where
  abbrev pub views : List Word → ℕ → View
  views us = at (after old us)

  abbrev pub IsRun : ℕ → List Word → Type 0
  IsRun r us = AreOf (words 1 n) r us

  -- the view after one more word
  pub next : (w : Word) (us : List Word) (r : ℕ) (place : ℕ) → Has w (words 1 n) → IsRun r us → place < n → views (w ∷ us) place ≡ view_of (views us) (row n place w)
  next w us r place there run low = seen_after n (after old us) w place (after_long n old olds us run.1) (word_long n old olds w there) low

  pub own_process : (us : List Word) → AllByRecursion (λ w. Has w (words 1 n)) us → (i : ℕ) → i < n → process_of (views us i) ≡ process_of (at old i)
  own_process [] run i low = refl
  own_process (w ∷ us) run i low =
      ap process_of (next w us (length us) i run.0 (refl, run.1) low ∙ ap (view_of (views us)) (headed n some few w run.0 i low).row)
      ∙ own_process us run.1 i low

  pub longer : (r : ℕ) (w : Word) (us : List Word) → Has w (words 1 n) → IsRun r us → IsRun (suc r) (w ∷ us)
  longer r w us there run = (ap suc run.0, (there, run.1))

  -- the same views at the places that pass
  abbrev pub Agree : (ℕ → Bool) → List Word → List Word → Type 0
  Agree test us ws = (p : ℕ) → p < n → test p ≡ true → views us p ≡ views ws p

  -- the same views at all places but one
  abbrev pub Close : List Word → List Word → Type 0
  Close us ws = (i : ℕ) × (i < n) × ((p : ℕ) → p < n → (p ≡ i → ⊥) → views us p ≡ views ws p)

  -- what is the same where two executions agree at the places and are close
  abbrev pub Starred : ℕ → (ℕ → Bool) → (List Word → ℕ) → Type 0
  Starred r test f = (us ws : List Word) → IsRun r us → IsRun r ws → Agree test us ws → Close us ws → f us ≡ f ws

  -- ---- another last word

  one_hop : (r : ℕ) (test : ℕ → Bool) (f : List Word → ℕ) → Starred (suc r) test f → (us : List Word) → IsRun r us → (w : Word) → Has w (words 1 n) → f (w ∷ us) ≡ f (hop (chosen n test) w ∷ us)
  one_hop r test f starred us run w there =
      let by = hopped n some few test w there in
      let u = hop (chosen n test) w in
      let view_same = λ (p : ℕ) (low : p < n) (e : row n p w ≡ row n p u).
      next w us r p there run low ∙ ap (view_of (views us)) e ∙ sym (next u us r p by.word run low) in
      starred (w ∷ us) (u ∷ us) (longer r w us there run) (longer r u us by.word run)
      (λ p low pass. view_same p low (of_has (λ q. row n q w ≡ row n q u) (chosen n test) p by.same (chosen_has n test p low pass)))
      (by.close.0, by.close.1, (λ p low other. view_same p low (by.close.2 p low other)))

  hopping : (k r : ℕ) (test : ℕ → Bool) (f : List Word → ℕ) → Starred (suc r) test f → (us : List Word) → IsRun r us → (w : Word) → Has w (words 1 n) → f (w ∷ us) ≡ f (hops k (chosen n test) w ∷ us)
  hopping zero r test f starred us run w there = refl
  hopping (suc k) r test f starred us run w there =
      one_hop r test f starred us run w there
      ∙ hopping k r test f starred us run (hop (chosen n test) w) (hopped n some few test w there).word

  to_goal : (r : ℕ) (test : ℕ → Bool) (f : List Word → ℕ) → Starred (suc r) test f → (us : List Word) → IsRun r us → (w : Word) → Has w (words 1 n) → f (w ∷ us) ≡ f (goal n (chosen n test) w ∷ us)
  to_goal r test f starred us run w there = hopping 5 r test f starred us run w there ∙ ap (λ u. f (u ∷ us)) (at_goal n some few test w there)

  -- words in which the places see the same
  same_sets : (r : ℕ) (test : ℕ → Bool) (f : List Word → ℕ) → Starred (suc r) test f → (us : List Word) → IsRun r us → (w v : Word) → Has w (words 1 n) → Has v (words 1 n) →
      sets_at n (chosen n test) w ≡ sets_at n (chosen n test) v → f (w ∷ us) ≡ f (v ∷ us)
  same_sets r test f starred us run w v w_there v_there same =
      to_goal r test f starred us run w w_there
      ∙ ap (λ sets. f (goal_of n sets ∷ us)) same
      ∙ sym (to_goal r test f starred us run v v_there)

  -- ---- other words before the last

  -- the last view of a place says what it saw, and what the views there were
  abbrev pub Alike : ℕ → Word → Word → List Word → List Word → Type 0
  Alike c w v us ws = (seen_at n c w ≡ seen_at n c v) × AllByRecursion (λ i. views us i ≡ views ws i) (seen_at n c w)

  pub alike : (r c : ℕ) → c < n → (w v : Word) (us ws : List Word) → Has w (words 1 n) → Has v (words 1 n) → IsRun r us → IsRun r ws → views (w ∷ us) c ≡ views (v ∷ ws) c → Alike c w v us ws
  alike r c inside w v us ws w_there v_there us_run ws_run h =
      let w_headed = headed n some few w w_there c inside in
      let v_headed = headed n some few v v_there c inside in
      let sets = seen_at n c w in
      let other = seen_at n c v in
      let lists : map (views us) sets ≡ map (views ws) other =
      seen_lists (process_of (views us c)) (process_of (views ws c)) (map (views us) sets) (map (views ws) other)
      (ap (view_of (views us)) (sym w_headed.row) ∙ sym (next w us r c w_there us_run inside) ∙ h ∙ next v ws r c v_there ws_run inside ∙ ap (view_of (views ws)) v_headed.row) in
      let first : ℕ → ℕ = λ i. process_of (at old i) in
      let processes = λ (zs : List Word) (run : IsRun r zs) (ps : List ℕ) (low : AllByRecursion (λ i. i < n) ps).
      map_twice process_of (views zs) ps ∙ map_same_on (λ i. process_of (views zs i)) first ps (each (λ i. i < n) (λ i. process_of (views zs i) ≡ first i) (λ i l. own_process zs run.1 i l) ps low) in
      let same : sets ≡ other = map_injective n first apart sets other w_headed.low v_headed.low (sym (processes us us_run sets w_headed.low) ∙ ap (map process_of) lists ∙ processes ws ws_run other v_headed.low) in
      (same, same_places (views us) (views ws) sets (lists ∙ ap (map (views ws)) (sym same)))

  -- the same last word, in which a place sees only places with the same views
  pub one_word : (r : ℕ) (w : Word) (us ws : List Word) (p : ℕ) → Has w (words 1 n) → IsRun r us → IsRun r ws → p < n → AllByRecursion (λ i. views us i ≡ views ws i) (row n p w) → views (w ∷ us) p ≡ views (w ∷ ws) p
  one_word r w us ws p there us_run ws_run low h = next w us r p there us_run low ∙ same_seen (views us) (views ws) (row n p w) h ∙ sym (next w ws r p there ws_run low)

  -- each place of a row is below n
  row_low : (w : Word) → Has w (words 1 n) → (p : ℕ) → p < n → AllByRecursion (λ i. i < n) (row n p w)
  row_low w there p low = let here = headed n some few w there p low in subst (AllByRecursion (λ i. i < n)) (sym here.row) (low, here.low)

  -- what some of the places see
  abbrev sees : (ℕ → Bool) → Word → ℕ → Bool
  sees test w i = list_any (λ p. has (seen_at n p w) i) (chosen n test)

  -- with the last word fixed f has the premise a round earlier, at what the places see
  earlier : (r : ℕ) (test : ℕ → Bool) (f : List Word → ℕ) → Starred (suc r) test f → (w : Word) → Has w (words 1 n) → Starred r (sees test w) (λ us. f (w ∷ us))
  earlier r test f starred w there us ws us_run ws_run agree (i, inside, same) = by (sees test w i) refl
    where
      by : (b : Bool) → sees test w i ≡ b → f (w ∷ us) ≡ f (w ∷ ws)
      by true in' =
          let all : (p : ℕ) → p < n → views us p ≡ views ws p = λ p low. elim (cases_eq p i) [
            | inl is ↦ ap (views us) is ∙ agree i inside in' ∙ ap (views ws) (sym is)
            | inr other ↦ same p low other
          ] in
          let later = λ (p : ℕ) (low : p < n). one_word r w us ws p there us_run ws_run low (each (λ q. q < n) (λ q. views us q ≡ views ws q) (λ q l. all q l) (row n p w) (row_low w there p low)) in
          starred (w ∷ us) (w ∷ ws) (longer r w us there us_run) (longer r w ws there ws_run) (λ p low pass. later p low) (i, inside, (λ p low other. later p low))
      by false out =
          let lone = last n some few w there i inside in
          let u = with_last n i w in
          let unseen : (p : ℕ) → Has p (chosen n test) → has (seen_at n p w) i ≡ false = λ p k. elim (cases_Bool (has (seen_at n p w) i)) [
            | inl seen ↦ absurd (false≢true (sym out ∙ any_has (λ q. has (seen_at n q w) i) p (chosen n test) k seen))
            | inr unseen ↦ unseen
          ] in
          let sets : sets_at n (chosen n test) w ≡ sets_at n (chosen n test) u =
          map_same_on (λ p. seen_at n p w) (λ p. seen_at n p u) (chosen n test)
          (from_each (λ p. seen_at n p w ≡ seen_at n p u) (chosen n test) (λ p k. ap (drop 1) (lone.unseen p (has_chosen n test p k).0 (unseen p k)))) in
          let moved = λ (zs : List Word) (run : IsRun r zs). same_sets r test f starred zs run w u there lone.word sets in
          let view_same = λ (p : ℕ) (low : p < n) (other : p ≡ i → ⊥).
          one_word r u us ws p lone.word us_run ws_run low
          (from_each (λ q. views us q ≡ views ws q) (row n p u)
          (λ q k. same q (of_has (λ j. j < n) (row n p u) q (row_low u lone.word p low) k)
          (λ e. absurd (false≢true (sym (lone.apart p low other) ∙ number_has i (row n p u) (subst (λ j. Has j (row n p u)) e k)))))) in
          let not_it = λ (p : ℕ) (low : p < n) (pass : test p ≡ true) (e : p ≡ i).
          false≢true (sym (unseen p (chosen_has n test p low pass)) ∙ ap (has (seen_at n p w)) (sym e) ∙ (headed n some few w there p low).itself) in
          moved us us_run
          ∙ starred (u ∷ us) (u ∷ ws) (longer r u us lone.word us_run) (longer r u ws lone.word ws_run)
          (λ p low pass. view_same p low (not_it p low pass)) (i, inside, view_same)
          ∙ sym (moved ws ws_run)

  pub star_runs : (r : ℕ) (test : ℕ → Bool) (f : List Word → ℕ) → Starred r test f → (us ws : List Word) → IsRun r us → IsRun r ws → Agree test us ws → f us ≡ f ws
  star_runs zero test f starred [] [] us_run ws_run agree = refl
  star_runs zero test f starred [] (w ∷ ws) us_run ws_run agree = absurd (let none : ⊥ = (let l = ws_run.0 in omega (arith, l)) in none)
  star_runs zero test f starred (w ∷ us) ws us_run ws_run agree = absurd (let none : ⊥ = (let l = us_run.0 in omega (arith, l)) in none)
  star_runs (suc r) test f starred [] ws us_run ws_run agree = absurd (let none : ⊥ = (let l = us_run.0 in omega (arith, l)) in none)
  star_runs (suc r) test f starred (w ∷ us) [] us_run ws_run agree = absurd (let none : ⊥ = (let l = ws_run.0 in omega (arith, l)) in none)
  star_runs (suc r) test f starred (w ∷ us) (v ∷ ws) us_run ws_run agree =
      let us_shorter : IsRun r us = ((let l = us_run.0 in omega (arith, l)), us_run.1.1) in
      let ws_shorter : IsRun r ws = ((let l = ws_run.0 in omega (arith, l)), ws_run.1.1) in
      let at_place = λ (p : ℕ) (k : Has p (chosen n test)).
      let is = has_chosen n test p k in
      alike r p is.0 w v us ws us_run.1.0 ws_run.1.0 us_shorter ws_shorter (agree p is.0 is.1) in
      star_runs r (sees test w) (λ zs. f (w ∷ zs)) (earlier r test f starred w us_run.1.0) us ws us_shorter ws_shorter
      (λ i low seen.
      let found = has_any (λ p. has (seen_at n p w) i) (chosen n test) seen in
      of_has (λ j. views us j ≡ views ws j) (seen_at n found.0 w) i (at_place found.0 found.1).1 (has_number i (seen_at n found.0 w) found.2))
      ∙ same_sets r test f starred ws ws_shorter w v us_run.1.0 ws_run.1.0
      (map_same_on (λ p. seen_at n p w) (λ p. seen_at n p v) (chosen n test) (from_each (λ p. seen_at n p w ≡ seen_at n p v) (chosen n test) (λ p k. (at_place p k).0)))
