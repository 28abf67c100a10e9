use Rattle.wf_task_presets.proofs.AllowedByRules.{agreement-allows}
use Rattle.wf_task_presets.proofs.laws.set_agreement_decides_few_inputs.Goals as goal

pub returns : goal.returns
returns c = agreement-allows
