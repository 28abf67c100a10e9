use Rattle.std.proofs.Common.{◌≡◌, ◌<◌, ◌≤◌, ◌∷◌, ◌++◌, ◌||◌, ℕ, [], length, map, get_or, sym, ap, ◌∙◌, subst, arith}
use Rattle.std.proofs.lemmas.List.{length-map, map-set, get_or-map}
use Rattle.wf_model.specs.Lists.{has}
use Rattle.wf_model.specs.Box.{has_at}
use Rattle.wf_base.specs.Set.Sets.{values_in}
use Rattle.wf_sat_cnf.specs.Groups.{AreFollowers}
use Rattle.wf_sat_cnf.proofs.GroupLemmas.{followers_past, followers_more}
use Rattle.wf_sat_cnf.proofs.followers.put.Goals as goal

pub returns-then-place-size-clause-more : goal.returns-then-place-size-clause-more
returns-then-place-size-clause-more c = λ tuples so_far.
    let past : length c.args.tuple.now ≤ c.args.place = omega (arith, c.size.ensures.count, c.if-place-size.true) in
    followers_past c.args.place c.args.next tuples c.args.tuple.now (map values_in c.args.sets.now) past so_far

pub returns-clause-more : goal.returns-clause-more
returns-clause-more c = λ tuples so_far.
    let sets = map values_in c.args.sets.now in
    let v = c.value-value.result in
    let set = values_in c.with_value-more.result in
    let low : c.args.place < length c.args.tuple.now = omega (arith, c.size.ensures.count, c.if-place-size.false) in
    let inside : v < length c.args.sets.now = omega (arith, c.requires) in
    let says : (a : ℕ) → has set a ≡ (has (get_or sets v []) a || has_at c.args.tuple.now c.args.next a) =
    λ a. c.with_value-more.ensures a ∙ ap (λ s. has s a || has_at c.args.tuple.now c.args.next a) (sym (get_or-map values_in c.args.sets.now v _ [] inside)) in
    subst (AreFollowers c.args.place c.args.next (tuples ++ c.args.tuple.now ∷ []))
    (sym (map-set values_in c.args.sets.now v c.with_value-more.result))
    (followers_more c.args.place c.args.next tuples c.args.tuple.now sets v set low c.value-value.ensures (omega (arith, inside, length-map c.args.sets.now values_in)) says so_far)
