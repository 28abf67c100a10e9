use Rattle.wf_report_explain.proofs.OfArgument.CitedSteps.{each_cites_earlier}
use Rattle.wf_report_explain.proofs.argument.laws.each_step_cites_earlier_steps.Goals as goal

pub returns : goal.returns
returns c = each_cites_earlier
