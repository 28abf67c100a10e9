use Rattle.std.proofs.Common.{◌≡◌, ap, ◌∙◌, sym, subst, ⊎_elim, rules}
use Rattle.std.specs.Prelude.{IfErr, Some}
use Rattle.wf_core.specs.declared.event.Event.{Event}
use Rattle.wf_core.specs.declared.event.Event.TheVariants.{Post, Searched}
use Rattle.wf_core.specs.declared.event.Status.TheVariants.{Free}
use Rattle.wf_core.specs.Core.{refusal}
use Rattle.wf_core.proofs.Refusals.{busy_take, not_free_take, not_below_cut, busy_end}
use Rattle.wf_core.proofs.machine.Core.check.Goals as goal

pub returns-then-is_some-clause-why : goal.returns-then-is_some-clause-why
returns-then-is_some-clause-why c =
    let k = c.in_ok-taker-in-Take.ensures.ok in
    let e = ap (refusal c.args.self.now) c.in-Take.is in
    e ∙ busy_take _ _ _ _ _ k.0 k.1 k.2 (sym c.if-is_some.ensures)

pub returns-then-ne-clause-why : goal.returns-then-ne-clause-why
returns-then-ne-clause-why c =
    let k = c.in_ok-taker-in-Take.ensures.ok in
    let e = ap (refusal c.args.self.now) c.in-Take.is in
    let apart : ¬ (c.in_ok-taker-in-Take.status ≡ Free) = λ same. search rules in
    e ∙ not_free_take _ _ _ _ _ k.0 k.1 k.2 (sym c.if-is_some.ensures) apart

pub returns-then-branch-holder-clause-why : goal.returns-then-branch-holder-clause-why
returns-then-branch-holder-clause-why c =
    let k = c.in_ok-holder-in-Cut.ensures.ok in
    let e = ap (refusal c.args.self.now) c.in-Cut.is in
    e ∙ not_below_cut _ _ _ _ k.0 k.1 k.2 c.if-branch-holder.true

pub returns-then-is_some-2-clause-why : goal.returns-then-is_some-2-clause-why
returns-then-is_some-2-clause-why c =
    let k = c.in_ok-active-in-End.ensures.ok in
    let e = ap (refusal c.args.self.now) c.in-End.is in
    e ∙ busy_end _ _ _ k.0 k.1 (sym c.if-is_some-2.ensures)

pub returns-in_err-holder-in-Post-clause-why : goal.returns-in_err-holder-in-Post-clause-why
returns-in_err-holder-in-Post-clause-why c =
    let post = Post c.in-Post.worker c.in-Post.branch in
    let says = λ (e : Event). IfErr c.from_residual-in_err-holder-in-Post.result (λ why. refusal c.args.self.now e ≡ Some why) in
    let by : says post = search rules in
    ⊎_elim
    (λ (e : c.args.event ≡ post). subst says (sym e) by)
    (λ (e : c.args.event ≡ Searched c.in-Post.worker c.in-Post.branch). subst says (sym e) by)
    c.in-Post.is
