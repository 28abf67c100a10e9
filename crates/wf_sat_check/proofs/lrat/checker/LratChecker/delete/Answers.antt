use Rattle.std.proofs.Common.{subst, sym}
use Rattle.wf_sat_check.specs.Lrat.Models.{IsModelOf}
use Rattle.wf_sat_check.proofs.OfLrat.ModelLemmas.{keeps-deleted}
use Rattle.wf_sat_check.proofs.lrat.checker.LratChecker.delete.Goals as goal

pub returns-clause-kept : goal.returns-clause-kept
returns-clause-kept c = λ a model. subst (IsModelOf a) (sym c.empty.ensures) (keeps-deleted c.args.self.now c.args.ids.now a model)
