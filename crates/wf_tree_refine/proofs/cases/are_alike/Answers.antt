use Rattle.std.proofs.Common.{◌≡◌, length, sym, ◌∙◌, arith}
use Rattle.std.proofs.lemmas.Bool.{cond-true}
use Rattle.wf_tree_refine.proofs.AlikeSteps.{all_alike, other_value}
use Rattle.wf_tree_refine.proofs.cases.are_alike.Goals as goal

pub returns-then-value_at : goal.returns-then-value_at
returns-then-value_at c =
    let s = c.args.one.now in
    let u = c.args.other.now in
    let long : length s ≡ length u = sym c.colours.ensures.count ∙ c.if-colours.false ∙ c.colours-2.ensures.count in
    let low = c.places-test.true in
    let count = c.colours-place-end.ensures.count in
    sym (cond-true c.args.symmetric _ _ c.if-not-symmetric.false
    ∙ other_value s u c.places.place (omega (arith, low, count)) long (λ e. c.if-value_at.true (c.value_at.ensures ∙ e ∙ sym c.value_at-in-places.ensures)))

pub returns : goal.returns
returns c =
    let s = c.args.one.now in
    let u = c.args.other.now in
    let long : length s ≡ length u = sym c.colours.ensures.count ∙ c.if-colours.false ∙ c.colours-2.ensures.count in
    let past = c.places-test.false in
    let count = c.colours-place-end.ensures.count in
    sym (cond-true c.args.symmetric _ _ c.if-not-symmetric.false ∙ all_alike s u long (λ i li. c.places.invariant i (omega (arith, li, past, count))))
