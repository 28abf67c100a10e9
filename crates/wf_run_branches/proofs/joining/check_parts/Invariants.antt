use Rattle.wf_run_branches.proofs.JoinSteps.{IsGoing}
use Rattle.wf_run_branches.proofs.joining.check_parts.Given as goal

abbrev pub invariant-loop-number : goal.invariant-loop-number
invariant-loop-number g l = IsGoing l.task l.protocol.rounds l.text l.number l.lists.items l.rest
