use Rattle.std.proofs.Common.{◌≡◌, ◌<◌, ◌+◌, ◌++◌, ◌∷◌, ◌&&◌, ℕ, List, [], map, flat_map, slice_index, append-nil, zip, length, ap, sym, ◌∙◌, subst, arith}
use Rattle.std.specs.Option.{MatchOption}
use Rattle.wf_model.specs.Lists.{has}
use Rattle.wf_base.specs.Set.Sets.{values_in}
use Rattle.wf_sat_cnf.specs.Found.{found_with, having, occurs, occurs_in_each}
use Rattle.wf_sat_cnf.specs.Groups.{AreAllowed}
use Rattle.wf_sat_cnf.specs.Patterns.{pattern_seen}
use Rattle.wf_sat_cnf.proofs.Steps.{before_more, one_list_more, two_missing}
use Rattle.wf_sat_cnf.proofs.patterns.add_last_two.Goals as goal

pub values-init : goal.values-init
values-init c = λ nearly allowed.
    let low : c.args.search.now.from + 1 < length c.args.search.now.places = omega (arith, c.requires.from) in
    ap (λ ps. map pattern_seen c.args.found.now.items ++ ps)
    (before_more (values_in c.args.search.now.values) c.args.search.now.places c.args.search.now.begun.now c.args.search.now.from c.args.search.now.fitting.now nearly c.value-place.result (values_in c.values_at.result)
    (values_in c.intersection-left.result) low c.value-place.ensures c.values_at.ensures c.intersection-left.ensures)

pub values-preserved : goal.values-preserved
values-preserved c = λ nearly allowed.
    let values = values_in c.args.search.now.values in
    let places = c.args.search.now.places in
    let begun = c.args.search.now.begun.now in
    let fitting = c.args.search.now.fitting.now in
    let place = c.value-place.result in
    let next = c.value-last.result in
    let v = c.in-Some.next.0 in
    let missing = values_in c.intersection-missing.result in
    let more : c.as_slice.result.now ≡ begun ++ v ∷ [] = c.as_slice.ensures ∙ c.longer-more.ensures in
    let fit_says : (a : ℕ) → has (values_in c.set.result) a ≡ occurs (having place v fitting) next a =
    λ a. ap (λ s. has s a) c.set.ensures ∙ c.in_ok-fit.ensures v a (omega arith) in
    let here : AreAllowed place next values nearly c.args.near.now =
    subst (λ p. AreAllowed p next values nearly c.args.near.now) (sym c.value-place.ensures)
    (subst (λ q. AreAllowed (slice_index places c.args.search.now.from) q values nearly c.args.near.now) (sym c.value-last.ensures) allowed) in
    let near_says : (a : ℕ) → has (values_in c.set-in-Some.result) a ≡ (has values a && occurs_in_each (map (having place v) nearly) next a) =
    λ a. ap (λ s. has s a) c.set-in-Some.ensures ∙ here v a (omega arith) in
    one_list_more (found_with values places c.args.search.now.from begun fitting nearly) (map pattern_seen c.values.found.items)
    (map (λ a. zip places (c.as_slice.result.now ++ a ∷ [])) missing) (map pattern_seen c.add_last.new.found.items) v
    (values_in c.values.left) (values_in c.in-Some.next.1) _ c.in_ok-add_last.ensures c.in-Some.ensures
    (ap (λ l. map (λ a. zip places (l ++ a ∷ [])) missing) more
    ∙ two_missing values places begun c.args.search.now.from fitting nearly place next v (values_in c.values_at-there.result) (values_in c.set.result) (values_in c.set-in-Some.result) (values_in c.difference-lacking.result) (values_in c.intersection.result) missing
    c.requires.from c.value-place.ensures c.value-last.ensures c.values_at-there.ensures fit_says near_says c.difference-lacking.ensures c.intersection.ensures c.intersection-missing.ensures)
    (c.values.invariant nearly allowed)

pub returns : goal.returns
returns c = λ nearly allowed.
    let found = map pattern_seen c.values.found.items in
    let f = found_with (values_in c.args.search.now.values) c.args.search.now.places c.args.search.now.from c.args.search.now.begun.now c.args.search.now.fitting.now nearly in
    let none_left : values_in c.values.left ≡ [] =
    subst (λ r. MatchOption r (values_in c.values.left ≡ []) (λ (s : ℕ × List ℕ). values_in c.values.left ≡ s.0 ∷ values_in s.1)) c.in_default.is c.split_first.ensures in
    sym (append-nil found) ∙ ap (λ l. found ++ flat_map f l) (sym none_left) ∙ c.values.invariant nearly allowed
