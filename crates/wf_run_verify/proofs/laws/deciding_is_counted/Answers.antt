use Rattle.std.proofs.Common.{None}
use Rattle.wf_run_verify.specs.Verify.{AreDecisions}
use Rattle.wf_run_verify.proofs.CheckCounts.{checked}
use Rattle.wf_run_verify.proofs.laws.deciding_is_counted.Goals as goal

pub returns : goal.returns
returns c = checked None AreDecisions
