use Rattle.std.proofs.Common.{false, get_or, ap, sym, ◌∙◌}
use Rattle.wf_sat_check.specs.Store.Literals.{has}
use Rattle.wf_sat_check.proofs.OfStore.TrailLemmas.{holds_code-of_all}
use Rattle.wf_sat_check.proofs.store.trail.Trail.is_true.Goals as goal

pub returns-then-at-marks-clause-sound : goal.returns-then-at-marks-clause-sound
returns-then-at-marks-clause-sound c = λ yes a all.
    holds_code-of_all a _ c.args.literal all
    (ap (λ xs. has xs c.args.literal) (sym c.self.view_is) ∙ sym (c.self.invariant.marked c.args.literal)
    ∙ ap (λ marks. get_or marks c.args.literal false) (sym c.as_slice-marks.ensures.value) ∙ yes)
