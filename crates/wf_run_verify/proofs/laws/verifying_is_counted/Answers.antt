use Rattle.wf_run_verify.specs.Verify.{IsAccepted}
use Rattle.wf_run_verify.proofs.CheckCounts.{both_checked}
use Rattle.wf_run_verify.proofs.laws.verifying_is_counted.Goals as goal

pub returns : goal.returns
returns c most rounds = both_checked most rounds (IsAccepted rounds)
