use Rattle.std.proofs.Common.{◌≡◌, ◌≤◌, ◌||◌, Bool, true, false, length, refl, sym, ap, ◌∙◌, arith}
use Rattle.wf_model.specs.Lists.{has}
use Rattle.wf_model.proofs.Lemmas.{has_at_past}
use Rattle.wf_base.specs.Set.Sets.{values_in}
use Rattle.wf_report_explain.proofs.argument.reasons.with_value.Goals as goal

or_nothing : (b : Bool) → b ≡ (b || false)
or_nothing true = refl
or_nothing false = refl

pub returns-else-place-size : goal.returns-else-place-size
returns-else-place-size c = λ v.
    let past : length c.args.tuple.now ≤ c.args.place = omega (arith, c.size.ensures.count, c.if-place-size.false) in
    let before = has (values_in c.args.set) v in
    or_nothing before ∙ ap (λ c. before || c) (sym (has_at_past c.args.tuple.now c.args.place v past))
