use Rattle.std.proofs.Common.{sym, subst, lit≤}
use Rattle.std.proofs.lemmas.Result.{IfOk-weaker}
use Rattle.wf_task_presets.specs.declared.family.Family.TheVariants.{Agreement}
use Rattle.wf_task_presets.specs.Family.{AreFew}
use Rattle.wf_task_presets.proofs.FamilyTasks.{values-are}
use Rattle.wf_task_presets.proofs.family.Family.values.Goals as goal

pub returns-in-Agreement-clause-few : goal.returns-in-Agreement-clause-few
returns-in-Agreement-clause-few c =
    IfOk-weaker c.values_of.result _ _ (λ v e. subst AreFew (sym e) (values-are (Agreement c.in-Agreement.field-0) 4 c.args.simplex.now (lit≤ tt) tt c.values_of.ensures.simplex)) c.values_of.ensures.values
