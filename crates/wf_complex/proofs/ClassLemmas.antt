-- The classes of views.
use Rattle.std.proofs.Common.{◌≡◌, ◌<◌, ◌≤◌, ℕ, ◌+◌, Bool, true, false, Some, List, [], ◌∷◌, ◌++◌, map, take, length, get_or, slice_get, slice_index, All, sym, refl, ap, ◌∙◌, subst, arith}
use Rattle.std.proofs.lemmas.List.{map-append, get_or-map, length-map, take_more}
use Rattle.std.proofs.lemmas.List.Elements.{recursion_from_All, All-from_recursion, All-get_or, All-push}
use Rattle.std.proofs.lemmas.Option.{slice_get_within, get_or_from_slice_get}
use Rattle.wf_model.specs.View.{View, base, normal}
use Rattle.wf_complex.specs.Views.{view_at, count_within}
use Rattle.wf_complex.specs.Rounds.{views_at, Extends}
use Rattle.wf_complex.specs.Classes.{class_by, most_within}
use Rattle.wf_complex.proofs.RoundLemmas.{views_kept, within_kept, views_push}
use Rattle.wf_model.proofs.Lemmas.{map_same, weaker}
use Rattle.std.proofs.lemmas.Simd.{map-map}

-- ---- tasks that are not symmetric

own_classes : (vs : List View) → vs ≡ map (class_by false) vs
own_classes [] = refl
own_classes (v ∷ vs) = ap (λ ws. v ∷ ws) (own_classes vs)

-- where the task is not symmetric, views are their own classes
pub classes_are_views : (symmetric : Bool) → symmetric ≡ false → (vs : List View) → vs ≡ map (class_by symmetric) vs
classes_are_views true h vs = absurd (let none : ⊥ = cc in none)
classes_are_views false h vs = own_classes vs

-- ---- one normal view more

module _ (old now : List View) (grown : Extends old now) (ids : List ℕ) (i : ℕ) (place : i < length ids) (within : All (λ k. k < length old) ids) where
  pub low : slice_index ids i < length old
  low = All-get_or (λ k. k < length old) ids i 0 place within

  pub same_there : view_at now (slice_index ids i) ≡ view_at old (slice_index ids i)
  same_there = (let e : views_at now (slice_index ids i ∷ []) ≡ views_at old (slice_index ids i ∷ []) = views_kept old now (slice_index ids i ∷ []) grown (low, tt) in cc)

  pub shallow_there : All (λ k. count_within (view_at old k) ≤ most_within) ids → count_within (view_at now (slice_index ids i)) ≤ most_within
  shallow_there h = subst (λ v. count_within v ≤ most_within) (sym same_there) (All-get_or (λ k. count_within (view_at old k) ≤ most_within) ids i 0 place h)

  pub normal_more : (normals : List ℕ) → All (λ k. k < length now) normals → views_at now normals ≡ map normal (views_at old (take i ids)) → (new : List View) → Extends now new → (n : ℕ) → slice_get new n ≡ Some (normal (view_at now (slice_index ids i))) →
      All (λ k. k < length new) (normals ++ n ∷ []) × (views_at new (normals ++ n ∷ []) ≡ map normal (views_at old (take (i + 1) ids)))
  normal_more normals inside made new more n stands =
      let each = recursion_from_All (λ k. k < length now) normals inside in
      let is : view_at new n ≡ normal (view_at old (slice_index ids i)) = get_or_from_slice_get new n (normal (view_at now (slice_index ids i))) (base 0 0) stands ∙ ap normal same_there in
      let one : views_at old (take (i + 1) ids) ≡ views_at old (take i ids) ++ view_at old (slice_index ids i) ∷ [] = ap (views_at old) (take_more ids i 0 place) ∙ views_push old (take i ids) (slice_index ids i) in (
        All-push (λ k. k < length new) normals n (All-from_recursion (λ k. k < length new) normals (within_kept now new normals more each)) (slice_get_within new n (normal (view_at now (slice_index ids i))) stands),
        views_push new normals n
            ∙ (λ k. views_kept now new normals more each k ++ is k ∷ [])
            ∙ ap (λ vs. vs ++ normal (view_at old (slice_index ids i)) ∷ []) made
            ∙ sym (ap (map normal) one ∙ map-append normal (views_at old (take i ids)) (view_at old (slice_index ids i) ∷ [])),
      )

-- ---- the classes of all by those of the different ones

module _ (old new : List View) (lasts firsts places normals : List ℕ) (low : All (λ p. p < length firsts) places) (found : map (λ p. slice_index lasts (slice_index firsts p)) places ≡ lasts)
    (made : views_at new normals ≡ map normal (views_at old (map (λ j. slice_index lasts j) firsts))) where
  pub length-normals : length normals ≡ length firsts
  length-normals =
      sym (length-map normals (view_at new))
      ∙ ap length made
      ∙ length-map (views_at old (map (λ j. slice_index lasts j) firsts)) normal
      ∙ length-map (map (λ j. slice_index lasts j) firsts) (view_at old)
      ∙ length-map firsts (λ j. slice_index lasts j)

  normal_there : (p : ℕ) → p < length firsts → view_at new (slice_index normals p) ≡ normal (view_at old (slice_index lasts (slice_index firsts p)))
  normal_there p h =
      sym (get_or-map (view_at new) normals p 0 (base 0 0) (omega (arith, h, length-normals)))
      ∙ ap (λ vs. get_or vs p (base 0 0)) (made ∙ map-map normal (view_at old) (map (λ j. slice_index lasts j) firsts) ∙ map-map (λ k. normal (view_at old k)) (λ j. slice_index lasts j) firsts)
      ∙ get_or-map (λ j. normal (view_at old (slice_index lasts j))) firsts p 0 (base 0 0) h

  all_normals : views_at new (map (λ p. slice_index normals p) places) ≡ map normal (views_at old lasts)
  all_normals =
      map-map (view_at new) (λ p. slice_index normals p) places
      ∙ map_same (λ p. view_at new (slice_index normals p)) (λ p. normal (view_at old (slice_index lasts (slice_index firsts p)))) places
      (weaker (λ p. p < length firsts) (λ p. view_at new (slice_index normals p) ≡ normal (view_at old (slice_index lasts (slice_index firsts p)))) normal_there places (recursion_from_All (λ p. p < length firsts) places low))
      ∙ sym (map-map (λ k. normal (view_at old k)) (λ p. slice_index lasts (slice_index firsts p)) places)
      ∙ ap (map (λ k. normal (view_at old k))) found
      ∙ sym (map-map normal (view_at old) lasts)

  pub classes_are_normals : (symmetric : Bool) → symmetric ≡ true → views_at new (map (λ p. slice_index normals p) places) ≡ map (class_by symmetric) (views_at old lasts)
  classes_are_normals true h = all_normals
  classes_are_normals false h = absurd (let none : ⊥ = cc in none)
