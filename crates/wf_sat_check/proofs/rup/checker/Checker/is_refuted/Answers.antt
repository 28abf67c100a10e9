use Rattle.std.proofs.Common.{sym, subst}
use Rattle.wf_sat_check.specs.Rup.Seen.{IsModelOf}
use Rattle.wf_sat_check.proofs.OfRup.LiteralLemmas.{model_of_stored}
use Rattle.wf_sat_check.proofs.rup.checker.Checker.is_refuted.Goals as goal

pub returns-clause-sound : goal.returns-clause-sound
returns-clause-sound c = λ yes a model.
    c.is_refuted.ensures.sound yes a (model_of_stored c.self.inside.variables a _ (subst (IsModelOf a) (sym c.self.view_is) model))
