-- Different views by their numbers, and those of them that have one class merged.
use Rattle.std.proofs.Common.{◌≡◌, ◌<◌, ℕ, ◌==◌, Bool, true, false, not, cond, List, [], ◌∷◌, map, filter, length, slice_index, get_or, All, sym, refl, ap, ◌∙◌, subst, arith, inl, inr, eqb-true, eq-eqb}
use Rattle.std.proofs.lemmas.Bool.{cases_Bool}
use Rattle.std.proofs.lemmas.List.{length-map, get_or-map}
use Rattle.std.proofs.lemmas.List.Elements.{recursion_from_All, All-get_or}
use Rattle.std.proofs.lemmas.Simd.{map-map}
use Rattle.wf_model.specs.Lists.{distinct, below}
use Rattle.wf_model.specs.View.{View, base}
use Rattle.wf_model.specs.Problem.{number_of}
use Rattle.wf_model.proofs.Lemmas.{by_place, weaker, Apart, apart_distinct, map_same}
use Rattle.wf_complex.specs.Views.{view_at}
use Rattle.wf_complex.proofs.Ranked.{number_of-at}
use Rattle.wf_complex.specs.Rounds.{views_at}
use Rattle.wf_complex.specs.Numbering.{same_at, first_places, picked, AreNumbered}
use Rattle.wf_complex.proofs.DifferentViews.{IsOnce, all_in_range, all_picked, distinct_agrees, distinct_by_place, distinct_views, firsts_low}

-- ---- a coarser test

module _ {X : Type 0} where
  filter_swap : (p q : X → Bool) (xs : List X) → filter p (filter q xs) ≡ filter q (filter p xs)
  filter_swap p q [] = refl
  filter_swap p q (x ∷ xs) =
      elim (cases_Bool (p x)) [
        | inl here ↦ elim (cases_Bool (q x)) [
          | inl there ↦ rw here (rw there (rw here (ap (λ ys. x ∷ ys) (filter_swap p q xs))))
          | inr other ↦ rw here (rw other (filter_swap p q xs))
        ]
        | inr apart ↦ elim (cases_Bool (q x)) [
          | inl there ↦ rw apart (rw there (rw apart (filter_swap p q xs)))
          | inr other ↦ rw apart (rw other (filter_swap p q xs))
        ]
      ]

  filter_within : (p q : X → Bool) → ((x : X) → q x ≡ false → p x ≡ false) → (xs : List X) → filter p (filter q xs) ≡ filter p xs
  filter_within p q h [] = refl
  filter_within p q h (x ∷ xs) =
      elim (cases_Bool (q x)) [
        | inl there ↦ rw there (ap (λ ys. cond (p x) (x ∷ ys) ys) (filter_within p q h xs))
        | inr other ↦ rw other (rw (h x other) (filter_within p q h xs))
      ]

  module _ (same : X → X → Bool) (p q : X → Bool) (alike : (x y : X) → same x y ≡ true → p x ≡ false → p y ≡ false) (fewer : (x : X) → q x ≡ false → p x ≡ false) where
    away : (x : X) → p x ≡ false → (y : X) → not (same x y) ≡ false → p y ≡ false
    away x h y k =
        elim (cases_Bool (same x y)) [
          | inl here ↦ alike x y here h
          | inr apart ↦ absurd (let none : ⊥ = cc in none)
        ]

    distinct_filter : (xs : List X) → filter p (distinct same (filter q xs)) ≡ filter p (distinct same xs)
    distinct_filter [] = refl
    distinct_filter (x ∷ xs) =
        let test : X → Bool = λ y. not (same x y) in
        elim (cases_Bool (q x)) [
          | inl there ↦
              rw there (ap (λ ys. cond (p x) (x ∷ ys) ys)
              (filter_swap p test (distinct same (filter q xs)) ∙ ap (filter test) (distinct_filter xs) ∙ filter_swap test p (distinct same xs)))
          | inr other ↦
              rw other (distinct_filter xs ∙ sym (rw (fewer x other) (filter_within p test (away x (fewer x other)) (distinct same xs))))
        ]

  -- the different ones by a number, and of these the different ones by what the number leads to
  pub distinct_coarser : (f : X → ℕ) (g : ℕ → ℕ) (xs : List X) → distinct (λ x y. g (f x) == g (f y)) (distinct (λ x y. f x == f y) xs) ≡ distinct (λ x y. g (f x) == g (f y)) xs
  distinct_coarser f g [] = refl
  distinct_coarser f g (x ∷ xs) =
      let coarse : X → X → Bool = λ y z. g (f y) == g (f z) in
      let fine : X → X → Bool = λ y z. f y == f z in
      ap (λ ys. x ∷ ys)
      (distinct_filter coarse (λ y. not (coarse x y)) (λ y. not (fine x y)) (like f g x) (fine_is_coarse f g x) (distinct fine xs)
      ∙ ap (filter (λ y. not (coarse x y))) (distinct_coarser f g xs))
    where
      like : (f : X → ℕ) (g : ℕ → ℕ) (x y z : X) → (g (f y) == g (f z)) ≡ true → not (g (f x) == g (f y)) ≡ false → not (g (f x) == g (f z)) ≡ false
      like f g x y z e h = ap (λ n. not (g (f x) == n)) (sym (eqb-true (g (f y)) (g (f z)) e)) ∙ h

      fine_is_coarse : (f : X → ℕ) (g : ℕ → ℕ) (x y : X) → not (f x == f y) ≡ false → not (g (f x) == g (f y)) ≡ false
      fine_is_coarse f g x y h =
          elim (cases_Bool (f x == f y)) [
            | inl same ↦ ap not (eq-eqb (g (f x)) (g (f y)) (ap g (eqb-true (f x) (f y) same)))
            | inr apart ↦ absurd (let none : ⊥ = cc in none)
          ]

-- ---- different views by their places among them

module _ (old : List View) (once : IsOnce old) (lasts : List ℕ) (inside : All (λ k. k < length old) lasts) (different firsts places : List ℕ) (views : AreNumbered lasts different firsts places) where
  abbrev different_views : List View
  different_views = views_at old different

  apart : Apart different_views
  apart = subst Apart (distinct_views old once lasts inside ∙ sym (ap (views_at old) (views.different_are ∙ ap (picked lasts) views.firsts_are))) (apart_distinct (views_at old lasts))

  length-different : length different ≡ length firsts
  length-different = ap length views.different_are ∙ length-map firsts (λ j. slice_index lasts j)

  length-places : length places ≡ length lasts
  length-places = sym (length-map places (λ p. slice_index different p)) ∙ ap length views.found

  named_place : (p : ℕ) → p < length firsts → number_of different_views (view_at old (slice_index different p)) ≡ p
  named_place p h =
      let here : p < length different = omega (arith, h, length-different) in
      let seen : get_or different_views p (base 0 0) ≡ view_at old (slice_index different p) = get_or-map (view_at old) different p 0 (base 0 0) here in
      ap (number_of different_views) (sym seen) ∙ number_of-at different_views p apart (omega (arith, here, length-map different (view_at old)))

  -- the place of a view is its number among the different ones
  place_there : (i : ℕ) → i < length lasts → slice_index places i ≡ number_of different_views (view_at old (slice_index lasts i))
  place_there i h =
      let here : i < length places = omega (arith, h, length-places) in
      let read : slice_index different (slice_index places i) ≡ slice_index lasts i = sym (get_or-map (λ p. slice_index different p) places i 0 0 here) ∙ ap (λ xs. slice_index xs i) views.found in
      sym (named_place (slice_index places i) (All-get_or (λ p. p < length firsts) places i 0 here views.low))
      ∙ ap (λ k. number_of different_views (view_at old k)) read

  first_inside : (q : ℕ) → q < length firsts → slice_index firsts q < length lasts
  first_inside q h = All-get_or (λ j. j < length lasts) firsts q 0 h (firsts_low lasts firsts views.firsts_are)

  own_place : (q : ℕ) → q < length firsts → slice_index places (slice_index firsts q) ≡ q
  own_place q h =
      let read : slice_index different q ≡ slice_index lasts (slice_index firsts q) = ap (λ xs. slice_index xs q) views.different_are ∙ get_or-map (λ j. slice_index lasts j) firsts q 0 0 h in
      place_there (slice_index firsts q) (first_inside q h)
      ∙ ap (λ k. number_of different_views (view_at old k)) (sym read)
      ∙ named_place q h

  -- ---- merged

  module _ (normals merged merged_firsts merged_places : List ℕ) (long : length normals ≡ length firsts) (classes_merged : AreNumbered normals merged merged_firsts merged_places) where
    abbrev classes : List ℕ
    classes = picked normals places

    length-classes : length classes ≡ length lasts
    length-classes = length-map places (λ p. slice_index normals p) ∙ length-places

    class_at : (i : ℕ) → i < length lasts → slice_index classes i ≡ slice_index normals (slice_index places i)
    class_at i h = get_or-map (λ p. slice_index normals p) places i 0 0 (omega (arith, h, length-places))

    class_first : (q : ℕ) → q < length normals → slice_index classes (slice_index firsts q) ≡ slice_index normals q
    class_first q h =
        let here : q < length firsts = omega (arith, h, long) in
        class_at (slice_index firsts q) (first_inside q here) ∙ ap (slice_index normals) (own_place q here)

    abbrev key : ℕ → ℕ
    key k = slice_index normals (number_of different_views (view_at old k))

    abbrev by_key : ℕ → ℕ → Bool
    by_key i j = key (slice_index lasts i) == key (slice_index lasts j)

    class_by_key : (i : ℕ) → i < length lasts → slice_index classes i ≡ key (slice_index lasts i)
    class_by_key i h = class_at i h ∙ ap (slice_index normals) (place_there i h)

    agree : (i j : ℕ) → i < length lasts → j < length lasts → same_at classes i j ≡ by_key i j
    agree i j h k at = class_by_key i h at == class_by_key j k at

    firsts_merged : picked firsts merged_firsts ≡ first_places classes (length classes)
    firsts_merged =
        ap (picked firsts) classes_merged.firsts_are
        ∙ sym (distinct_by_place (λ q. slice_index firsts q) (same_at classes) normals (λ i j h k at. class_first i h at == class_first j k at))
        ∙ ap (λ n. distinct (same_at classes) (map (λ q. slice_index firsts q) (below n))) long
        ∙ ap (distinct (same_at classes)) (by_place firsts 0)
        ∙ distinct_agrees (same_at classes) by_key (λ j. j < length lasts) agree firsts (recursion_from_All (λ j. j < length lasts) firsts (firsts_low lasts firsts views.firsts_are))
        ∙ ap (distinct by_key) views.firsts_are
        ∙ distinct_coarser (λ i. slice_index lasts i) key (below (length lasts))
        ∙ sym (distinct_agrees (same_at classes) by_key (λ j. j < length lasts) agree (below (length lasts)) (all_in_range 0 (length lasts) (length lasts) (omega arith)))
        ∙ ap (first_places classes) (sym length-classes)

    different_merged : merged ≡ picked classes (picked firsts merged_firsts)
    different_merged =
        classes_merged.different_are
        ∙ map_same (λ q. slice_index normals q) (λ q. slice_index classes (slice_index firsts q)) merged_firsts
        (weaker (λ q. q < length normals) (λ q. slice_index normals q ≡ slice_index classes (slice_index firsts q)) (λ q h. sym (class_first q h)) merged_firsts (recursion_from_All (λ q. q < length normals) merged_firsts (firsts_low normals merged_firsts classes_merged.firsts_are)))
        ∙ sym (map-map (λ i. slice_index classes i) (λ q. slice_index firsts q) merged_firsts)

    length-merged_places : length merged_places ≡ length normals
    length-merged_places = sym (length-map merged_places (λ p. slice_index merged p)) ∙ ap length classes_merged.found

    pub low_normals : All (λ p. p < length normals) places
    low_normals = subst (λ n. All (λ p. p < n) places) (sym long) views.low

    pub low_merged : All (λ p. p < length merged_places) places
    low_merged = subst (λ n. All (λ p. p < n) places) (sym length-merged_places) low_normals

    low_again : All (λ p. p < length (picked firsts merged_firsts)) (picked merged_places places)
    low_again =
        subst (λ n. All (λ p. p < n) (picked merged_places places)) (sym (length-map merged_firsts (λ q. slice_index firsts q)))
        (all_picked (λ p. p < length merged_firsts) merged_places places classes_merged.low low_merged)

    numbers_merged : picked merged (picked merged_places places) ≡ classes
    numbers_merged =
        map-map (λ p. slice_index merged p) (λ p. slice_index merged_places p) places
        ∙ map_same (λ p. slice_index merged (slice_index merged_places p)) (λ p. slice_index normals p) places
        (weaker (λ p. p < length merged_places) (λ p. slice_index merged (slice_index merged_places p) ≡ slice_index normals p)
        (λ p h. sym (get_or-map (λ x. slice_index merged x) merged_places p 0 0 h) ∙ ap (λ xs. slice_index xs p) classes_merged.found) places (recursion_from_All (λ p. p < length merged_places) places low_merged))

    -- the places by the classes of the different views
    pub are_merged : AreNumbered classes merged (picked firsts merged_firsts) (picked merged_places places)
    are_merged = record {
      firsts_are = firsts_merged;
      different_are = different_merged;
      low = low_again;
      found = numbers_merged;
    }
