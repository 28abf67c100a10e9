use Rattle.std.proofs.Common.{◌≡◌, [], Bool, false, true, not, refl, get_or, ap, sym, ◌∙◌, subst, arith, inl, inr}
use Rattle.std.proofs.lemmas.Bool.{cases_lt, false≢true}
use Rattle.std.proofs.lemmas.List.{get_or-map}
use Rattle.std.specs.Cmp.Lexicographic.{bytes_decides}
use Rattle.wf_network.specs.Revising.{found_at}
use Rattle.wf_box.proofs.candidates.ArrayMask4Candidates.are_left.Goals as goal

not_not : (test : Bool) → false ≡ not test → test ≡ true
not_not true is = refl
not_not false is = absurd (false≢true is)

pub loop-place-preserved : goal.loop-place-preserved
loop-place-preserved c = λ i low. elim (cases_lt i c.loop-place.place) [
  | inl before ↦ c.loop-place.invariant i before
  | inr from ↦
      let sets = c.args.sets.now in
      let points = c.args.execution.points in
      let place = c.loop-place.place in
      let same = (bytes_decides (get_or sets (get_or points place 0) []) (get_or c.args.self place [])).0 (not_not _ (sym c.if-ne.false ∙ c.ne.ensures)) in
      let found = get_or-map (λ v. get_or sets v []) points place 0 [] (omega (arith, c.loop-place-test.true, c.requires.count, c.requires.long)) in
      subst (λ k. get_or (found_at c.args.execution sets) k [] ≡ get_or c.args.self k []) (let here : place ≡ i = omega (arith, low, from) in here) (found ∙ same)
]

pub returns-then-ne-clause-others : goal.returns-then-ne-clause-others
returns-then-ne-clause-others c = λ same.
    let sets = c.args.sets.now in
    let points = c.args.execution.points in
    let place = c.loop-place.place in
    let found = get_or-map (λ v. get_or sets v []) points place 0 [] (omega (arith, c.loop-place-test.true, c.requires.count, c.requires.long)) in
    let here = sym found ∙ ap (λ xs. get_or xs place []) same in
    let equal = (bytes_decides (get_or sets (get_or points place 0) []) (get_or c.args.self place [])).1 here in
    false≢true (sym (sym c.if-ne.true ∙ c.ne.ensures ∙ ap not equal))
