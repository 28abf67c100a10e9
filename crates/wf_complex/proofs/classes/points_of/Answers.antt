use Rattle.std.proofs.Common.{◌≡◌, ◌<◌, ◌≤◌, ℕ, List, length, map, slice_index, All, ap, sym, ◌∙◌, subst, arith, rules}
use Rattle.std.proofs.lemmas.List.{length-map}
use Rattle.wf_model.specs.View.{View, normal}
use Rattle.wf_complex.specs.Views.{view_at, count_within}
use Rattle.wf_complex.specs.Rounds.{views_at}
use Rattle.wf_complex.specs.Numbering.{picked, AreNumbered}
use Rattle.wf_complex.specs.Classes.{most_within}
use Rattle.wf_complex.proofs.FirstPlaces.{picked_twice}
use Rattle.wf_complex.proofs.DifferentViews.{firsts_low, few_firsts, all_picked, length-distinct_views}
use Rattle.wf_complex.proofs.ClassLemmas.{length-normals, classes_are_views, classes_are_normals}
use Rattle.wf_complex.proofs.Merging.{are_merged, low_normals, low_merged}
use Rattle.wf_complex.proofs.classes.points_of.Goals as goal

-- ---- numbered views

few_different : (lasts different firsts places : List ℕ) → AreNumbered lasts different firsts places → length different ≤ length lasts
few_different lasts different firsts places views = omega (arith, ap length views.different_are, length-map firsts (λ j. slice_index lasts j), few_firsts lasts firsts views.firsts_are)

each_different : (P : ℕ → Type 0) (lasts different firsts places : List ℕ) → AreNumbered lasts different firsts places → All P lasts → All P different
each_different P lasts different firsts places views each = subst (All P) (sym views.different_are) (all_picked P lasts firsts each (firsts_low lasts firsts views.firsts_are))

found_again : (lasts different firsts places : List ℕ) → AreNumbered lasts different firsts places → map (λ p. slice_index lasts (slice_index firsts p)) places ≡ lasts
found_again lasts different firsts places views = sym (picked_twice lasts firsts places views.low) ∙ ap (λ ds. picked ds places) (sym views.different_are) ∙ views.found

made_again : (old new : List View) (lasts different firsts places normals : List ℕ) → AreNumbered lasts different firsts places → views_at new normals ≡ map normal (views_at old different) → views_at new normals ≡ map normal (views_at old (map (λ j. slice_index lasts j) firsts))
made_again old new lasts different firsts places normals views made = made ∙ ap (λ xs. map normal (views_at old xs)) views.different_are

-- as many normal views as different ones
as_many : (old new : List View) (lasts different firsts places normals : List ℕ) → AreNumbered lasts different firsts places → views_at new normals ≡ map normal (views_at old different) → length normals ≡ length firsts
as_many old new lasts different firsts places normals views made =
    length-normals old new lasts firsts places normals views.low (found_again lasts different firsts places views) (made_again old new lasts different firsts places normals views made)

-- ---- the goals

pub overflow_cast-view_count : goal.overflow_cast-view_count
overflow_cast-view_count c =
    let n = c.in_ok-numbered.numbered in
    let low : c.len-view_count.result < 4294967296 = omega (arith, few_different c.args.lasts.items n.different.items n.firsts.items n.places.items c.in_ok-numbered.ensures, c.requires.few, c.len-view_count.ensures, c.in_ok-numbered.numbered.different.ok) in
    search (rules, low)

pub returns-then-not-symmetric-clause-points : goal.returns-then-not-symmetric-clause-points
returns-then-not-symmetric-clause-points c = record {
  ids = c.args.lasts.items;
  named = classes_are_views c.args.symmetric c.if-not-symmetric.true (views_at c.args.views.now c.args.lasts.items);
  within = c.requires.lasts;
  once = c.len.ensures.once;
  numbered = c.in_ok-numbered.ensures;
}

pub returns-then-not-symmetric-clause-count : goal.returns-then-not-symmetric-clause-count
returns-then-not-symmetric-clause-count c =
    c.len-view_count.ensures
    ∙ c.in_ok-numbered.numbered.different.ok.0
    ∙ ap length c.in_ok-numbered.ensures.different_are
    ∙ length-map c.in_ok-numbered.numbered.firsts.items (λ j. slice_index c.args.lasts.items j)
    ∙ ap length c.in_ok-numbered.ensures.firsts_are
    ∙ sym (length-distinct_views c.args.views.now c.len.ensures.once c.args.lasts.items c.requires.lasts)

pub returns-clause-count : goal.returns-clause-count
returns-clause-count c =
    c.len-view_count.ensures
    ∙ c.in_ok-numbered.numbered.different.ok.0
    ∙ ap length c.in_ok-numbered.ensures.different_are
    ∙ length-map c.in_ok-numbered.numbered.firsts.items (λ j. slice_index c.args.lasts.items j)
    ∙ ap length c.in_ok-numbered.ensures.firsts_are
    ∙ sym (length-distinct_views c.args.views.now c.len.ensures.once c.args.lasts.items c.requires.lasts)

pub anonymous_views-requires-clause-ids : goal.anonymous_views-requires-clause-ids
anonymous_views-requires-clause-ids c =
    let n = c.in_ok-numbered.numbered in
    subst (All (λ k. k < length c.args.views.now)) (sym c.deref.ensures.value)
    (each_different (λ k. k < length c.args.views.now) c.args.lasts.items n.different.items n.firsts.items n.places.items c.in_ok-numbered.ensures c.requires.lasts)

pub anonymous_views-requires-clause-shallow : goal.anonymous_views-requires-clause-shallow
anonymous_views-requires-clause-shallow c =
    let n = c.in_ok-numbered.numbered in
    subst (All (λ k. count_within (view_at c.args.views.now k) ≤ most_within)) (sym c.deref.ensures.value)
    (each_different (λ k. count_within (view_at c.args.views.now k) ≤ most_within) c.args.lasts.items n.different.items n.firsts.items n.places.items c.in_ok-numbered.ensures c.requires.shallow)

pub anonymous_views-requires-clause-room : goal.anonymous_views-requires-clause-room
anonymous_views-requires-clause-room c =
    let n = c.in_ok-numbered.numbered in
    omega (arith, ap length c.deref.ensures.value, few_different c.args.lasts.items n.different.items n.firsts.items n.places.items c.in_ok-numbered.ensures, c.requires.room)

pub number_all-requires-2-clause-few : goal.number_all-requires-2-clause-few
number_all-requires-2-clause-few c =
    let n = c.in_ok-numbered.numbered in
    let made : views_at c.anonymous_views.new.views c.in_ok-normals.normals.items ≡ map normal (views_at c.args.views.now c.in_ok-numbered.numbered.different.items) =
    c.in_ok-normals.ensures.normals ∙ ap (λ xs. map normal (views_at c.args.views.now xs)) c.deref.ensures.value in
    let long = as_many c.args.views.now c.anonymous_views.new.views c.args.lasts.items n.different.items n.firsts.items n.places.items c.in_ok-normals.normals.items c.in_ok-numbered.ensures made in
    omega (arith, long, few_firsts c.args.lasts.items c.in_ok-numbered.numbered.firsts.items c.in_ok-numbered.ensures.firsts_are, c.requires.few)

pub pick-requires : goal.pick-requires
pick-requires c =
    let n = c.in_ok-numbered.numbered in
    let made : views_at c.anonymous_views.new.views c.in_ok-normals.normals.items ≡ map normal (views_at c.args.views.now c.in_ok-numbered.numbered.different.items) =
    c.in_ok-normals.ensures.normals ∙ ap (λ xs. map normal (views_at c.args.views.now xs)) c.deref.ensures.value in
    let long = as_many c.args.views.now c.anonymous_views.new.views c.args.lasts.items n.different.items n.firsts.items n.places.items c.in_ok-normals.normals.items c.in_ok-numbered.ensures made in
    let ns = c.in_ok-normals.normals.items in
    let mf = c.in_ok-merged.merged.firsts.items in
    subst (λ n. All (λ p. p < n) c.deref-3.result.now) (long ∙ ap length (sym c.deref-2.ensures.value))
    (subst (All (λ p. p < length c.in_ok-normals.normals.items)) (sym c.deref-3.ensures.value) (firsts_low ns mf c.in_ok-merged.ensures.firsts_are))

pub gather_in_place-requires : goal.gather_in_place-requires
gather_in_place-requires c =
    let n = c.in_ok-numbered.numbered in
    let made : views_at c.anonymous_views.new.views c.in_ok-normals.normals.items ≡ map normal (views_at c.args.views.now c.in_ok-numbered.numbered.different.items) =
    c.in_ok-normals.ensures.normals ∙ ap (λ xs. map normal (views_at c.args.views.now xs)) c.deref.ensures.value in
    let long = as_many c.args.views.now c.anonymous_views.new.views c.args.lasts.items n.different.items n.firsts.items n.places.items c.in_ok-normals.normals.items c.in_ok-numbered.ensures made in
    let m = c.in_ok-merged.merged in
    subst (λ xs. All (λ p. p < length xs) c.in_ok-numbered.numbered.places.items) (sym c.deref-4.ensures.value)
    (low_merged c.args.views.now c.len.ensures.once c.args.lasts.items c.requires.lasts n.different.items n.firsts.items n.places.items c.in_ok-numbered.ensures
    c.in_ok-normals.normals.items m.different.items m.firsts.items m.places.items long c.in_ok-merged.ensures)

pub returns-clause-points : goal.returns-clause-points
returns-clause-points c =
    let old = c.args.views.now in
    let new = c.anonymous_views.new.views in
    let lasts = c.args.lasts.items in
    let normals = c.in_ok-normals.normals.items in
    let n = c.in_ok-numbered.numbered in
    let made : views_at c.anonymous_views.new.views c.in_ok-normals.normals.items ≡ map normal (views_at c.args.views.now c.in_ok-numbered.numbered.different.items) =
    c.in_ok-normals.ensures.normals ∙ ap (λ xs. map normal (views_at c.args.views.now xs)) c.deref.ensures.value in
    let long = as_many c.args.views.now c.anonymous_views.new.views c.args.lasts.items n.different.items n.firsts.items n.places.items c.in_ok-normals.normals.items c.in_ok-numbered.ensures made in
    let m = c.in_ok-merged.merged in
    let views = c.in_ok-numbered.ensures in
    let low = low_normals old c.len.ensures.once lasts c.requires.lasts n.different.items n.firsts.items n.places.items views normals m.different.items m.firsts.items m.places.items long c.in_ok-merged.ensures in
    let firsts_are : c.in_ok-firsts.firsts.items ≡ picked c.in_ok-numbered.numbered.firsts.items c.in_ok-merged.merged.firsts.items = c.in_ok-firsts.ensures ∙ (λ i. picked (c.deref-2.ensures.value i) (c.deref-3.ensures.value i)) in
    let numbers_are : c.gather_in_place.result.items ≡ picked c.in_ok-merged.merged.places.items c.in_ok-numbered.numbered.places.items = c.gather_in_place.ensures ∙ ap (λ xs. picked xs n.places.items) c.deref-4.ensures.value in
    let merged =
    are_merged old c.len.ensures.once lasts c.requires.lasts n.different.items n.firsts.items n.places.items views normals m.different.items m.firsts.items m.places.items long c.in_ok-merged.ensures in
    record {
      ids = picked normals n.places.items;
      named =
          classes_are_normals old new lasts n.firsts.items n.places.items normals views.low (found_again lasts n.different.items n.firsts.items n.places.items views)
          (made_again old new lasts n.different.items n.firsts.items n.places.items normals views made) c.args.symmetric c.if-not-symmetric.false;
      within = all_picked (λ k. k < length c.anonymous_views.new.views) normals n.places.items c.in_ok-normals.ensures.within low;
      once = c.len-2.ensures.once;
      numbered =
          subst (λ fs. AreNumbered (picked normals n.places.items) m.different.items fs c.gather_in_place.result.items) (sym firsts_are)
          (subst (AreNumbered (picked normals n.places.items) m.different.items (picked n.firsts.items m.firsts.items)) (sym numbers_are) merged);
    }
