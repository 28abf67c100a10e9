use Rattle.std.proofs.Common.{◌≡◌, ◌+◌, ◌∙◌, sym, subst, false, take}
use Rattle.std.proofs.lemmas.List.{take_all}
use Rattle.wf_sat_check.specs.Store.Literals.{has, opposite}
use Rattle.wf_sat_check.specs.Rup.Settled.{IsConsistentAt}
use Rattle.wf_sat_check.proofs.OfRup.SettledLemmas.{All-one_more}
use Rattle.wf_sat_check.proofs.rup.settled.is_contradictory.Goals as goal

pub loop-literal-preserved : goal.loop-literal-preserved
loop-literal-preserved c =
    let trail = c.args.trail.now in
    let items = c.literals-literal-items.result.now in
    let index = c.loop-literal.literal-index in
    let before : IsConsistentAt trail (take index items) =
    subst (λ xs. IsConsistentAt trail (take index xs)) (sym c.literals-literal-items.ensures) c.loop-literal.invariant in
    let more : IsConsistentAt trail (take (index + 1) items) =
    All-one_more (λ l. has trail (opposite l) ≡ false) items index 0 c.loop-literal-test.true
    (sym c.is_false.ensures.exact ∙ c.if-is_false.false) before in
    subst (λ xs. IsConsistentAt trail (take (index + 1) xs)) c.literals-literal-items.ensures more

pub returns-clause-exact : goal.returns-clause-exact
returns-clause-exact c = λ none.
    let items = c.literals-literal-items.result.now in
    let whole : take c.loop-literal.literal-index items ≡ items = take_all c.loop-literal.literal-index items c.loop-literal-test.false in
    let before : IsConsistentAt c.args.trail.now (take c.loop-literal.literal-index items) =
    subst (λ xs. IsConsistentAt c.args.trail.now (take c.loop-literal.literal-index xs)) (sym c.literals-literal-items.ensures) c.loop-literal.invariant in
    subst (IsConsistentAt c.args.trail.now) c.literals-literal-items.ensures (subst (IsConsistentAt c.args.trail.now) whole before)
