use Rattle.wf_task_presets.proofs.AllowedByRules.{renaming-allows}
use Rattle.wf_task_presets.proofs.laws.renaming_decides_different_names.Goals as goal

pub returns : goal.returns
returns c = renaming-allows
