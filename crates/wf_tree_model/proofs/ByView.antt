-- What executions on one simplex give a place, told of views: the first execution with a view at a
-- place says it.
use Rattle.std.proofs.Common.{◌≡◌, ℕ, ◌<◌, true, cond, List, [], ◌∷◌, map, flat_map, fold, length, ◌⊎◌, inl, inr, refl, sym, ap, ◌∙◌}
use Rattle.std.specs.List.{AllByRecursion}
use Rattle.std.proofs.lemmas.Bool.{cases_Bool, false≢true}
use Rattle.wf_model.specs.Lists.{below}
use Rattle.wf_model.specs.Simplex.{Simplex, is_simplex}
use Rattle.wf_model.specs.Word.{Word}
use Rattle.wf_model.specs.View.{View, base_views, process_of, round, same_view}
use Rattle.wf_model.proofs.Lemmas.{each_flat, each_map, same_is, same_itself}
use Rattle.wf_tree_model.specs.Stars.{runs}
use Rattle.wf_tree_model.proofs.Members.{Has, flat_has, from_each, map_has, of_has}
use Rattle.wf_tree_model.proofs.WordTests.{below_has, has_below}
use Rattle.wf_tree_model.proofs.Places.{at}
use Rattle.wf_tree_model.proofs.ViewsAfter.{processes_apart}
use Rattle.wf_tree_model.proofs.OnSimplex as On

-- what an execution gives a place, and what no execution says
module _ (s : Simplex) (r : ℕ) (f : List Word → ℕ → ℕ) (other : View → ℕ) where
  abbrev n : ℕ
  n = length s

  abbrev views : List Word → List View
  views ws = fold round (base_views s) ws

  abbrev IsRun : List Word → Type 0
  IsRun ws = Has ws (runs s r)

  abbrev pub Viewed : Type 0
  Viewed = List Word × ℕ

  -- the executions, each with each place
  abbrev pub all_viewed : List Viewed
  all_viewed = flat_map (λ ws. map (λ i. (ws, i)) (below n)) (runs s r)

  viewed_there : (ws : List Word) → IsRun ws → (i : ℕ) → i < n → Has (ws, i) all_viewed
  viewed_there ws run i low = flat_has (λ us. map (λ j. (us, j)) (below n)) ws (ws, i) (runs s r) run (map_has (λ j. (ws, j)) i (below n) (below_has n i low))

  abbrev IsViewed : Viewed → Type 0
  IsViewed e = IsRun e.0 × (e.1 < n)

  each_viewed : AllByRecursion IsViewed all_viewed
  each_viewed =
      each_flat IsViewed (λ ws. map (λ i. (ws, i)) (below n)) (runs s r)
      (from_each (λ ws. AllByRecursion IsViewed (map (λ i. (ws, i)) (below n))) (runs s r)
      (λ ws run. each_map IsViewed (λ i. (ws, i)) (below n) (from_each (λ i. IsViewed (ws, i)) (below n) (λ i there. (run, has_below n i there)))))

  -- what the first of these with this view gives
  abbrev pub picked : List Viewed → View → ℕ
  picked [] v = other v
  picked (e ∷ rest) v = cond (same_view (at (views e.0) e.1) v) (f e.0 e.1) (picked rest v)

  abbrev Source : List Viewed → View → Type 0
  Source list v = (e : Viewed) × Has e list × (at (views e.0) e.1 ≡ v) × (picked list v ≡ f e.0 e.1)

  source : (list : List Viewed) (v : View) → (picked list v ≡ other v) ⊎ Source list v
  source [] v = inl refl
  source (e ∷ rest) v =
      elim (cases_Bool (same_view (at (views e.0) e.1) v)) [
        | inl here ↦ inr (e, inl refl, same_is (at (views e.0) e.1) v here, ap (λ b. cond b (f e.0 e.1) (picked rest v)) here)
        | inr apart ↦
            let skip : picked (e ∷ rest) v ≡ picked rest v = ap (λ b. cond b (f e.0 e.1) (picked rest v)) apart in
            elim (source rest v) [
              | inl own ↦ inl (skip ∙ own)
              | inr found ↦ inr (found.0, inr found.1, found.2, skip ∙ found.3)
            ]
      ]

  source_there : (list : List Viewed) (v : View) (k : Viewed) → Has k list → at (views k.0) k.1 ≡ v → Source list v
  source_there [] v k there same = absurd there
  source_there (e ∷ rest) v k there same =
      elim (cases_Bool (same_view (at (views e.0) e.1) v)) [
        | inl here ↦ (e, inl refl, same_is (at (views e.0) e.1) v here, ap (λ b. cond b (f e.0 e.1) (picked rest v)) here)
        | inr apart ↦
            let skip : picked (e ∷ rest) v ≡ picked rest v = ap (λ b. cond b (f e.0 e.1) (picked rest v)) apart in
            let later : Has k rest = elim there [
              | inl first ↦ absurd (false≢true (sym apart ∙ ap (λ w. same_view w v) (ap (λ (z : Viewed). at (views z.0) z.1) first ∙ same) ∙ same_itself v))
              | inr more ↦ more
            ] in
            let found = source_there rest v k later same in
            (found.0, inr found.1, found.2, skip ∙ found.3)
      ]

  -- what no execution says, or what an execution with this view at a place gives
  pub picked_is : (v : View) → (picked all_viewed v ≡ other v) ⊎ ((ws : List Word) × (i : ℕ) × IsRun ws × (i < n) × (at (views ws) i ≡ v) × (picked all_viewed v ≡ f ws i))
  picked_is v =
      elim (source all_viewed v) [
        | inl own ↦ inl own
        | inr found ↦ let of = of_has IsViewed all_viewed found.0 each_viewed found.1 in inr (found.0.0, found.0.1, of.0, of.1, found.2, found.3)
      ]

  -- executions with one view at a place give it the same
  abbrev pub IsSettled : Type 0
  IsSettled = (us ws : List Word) → IsRun us → IsRun ws → (i : ℕ) → i < n → at (views us) i ≡ at (views ws) i → f us i ≡ f ws i

  pub picked_there : is_simplex s ≡ true → IsSettled → (ws : List Word) → IsRun ws → (i : ℕ) → i < n → picked all_viewed (at (views ws) i) ≡ f ws i
  picked_there simplex settled ws run i low =
      let found = source_there all_viewed (at (views ws) i) (ws, i) (viewed_there ws run i low) refl in
      let e = found.0 in
      let of = of_has IsViewed all_viewed e each_viewed found.1 in
      let place : e.1 ≡ i =
      processes_apart s simplex e.1 i of.1 low (sym (On.process_there s r e.0 of.0 e.1 of.1) ∙ ap process_of found.2 ∙ On.process_there s r ws run i low) in
      found.3
      ∙ ap (f e.0) place
      ∙ settled e.0 ws of.0 run i low (ap (at (views e.0)) (sym place) ∙ found.2)
