use Rattle.wf_run_branches.proofs.BranchAnswers.{branch_answers_true}
use Rattle.wf_run_branches.proofs.laws.branch_answers_are_true.Goals as goal

pub returns : goal.returns
returns c = branch_answers_true
