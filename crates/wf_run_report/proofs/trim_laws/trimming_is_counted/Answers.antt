use Rattle.std.proofs.Common.{None}
use Rattle.wf_run_verify.proofs.Lemmas.{checked}
use Rattle.wf_run_report.specs.Trimming.{AreTrimmed}
use Rattle.wf_run_report.proofs.trim_laws.trimming_is_counted.Goals as goal

pub returns : goal.returns
returns c = checked None AreTrimmed
