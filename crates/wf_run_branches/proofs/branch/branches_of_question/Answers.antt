use Rattle.wf_run_branches.proofs.BranchRuns.{cover_is}
use Rattle.wf_run_branches.proofs.branch.branches_of_question.Goals as goal

pub returns : goal.returns
returns c =
    cover_is c.args.task.now c.args.protocol.now.rounds c.in_ok-problem.problem c.split.result c.in_ok-problem.ensures c.split.ensures.outline c.split.ensures.branches
