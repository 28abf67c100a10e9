use Rattle.wf_cli_program.proofs.PresetCounts.{preset_counted}
use Rattle.wf_cli_program.proofs.laws.presets_are_counted.Goals as goal

pub returns : goal.returns
returns c = preset_counted
