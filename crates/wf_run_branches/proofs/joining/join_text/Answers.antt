use Rattle.std.proofs.Common.{[], length}
use Rattle.wf_sat_formula.specs.Branches.{branches}
use Rattle.wf_run.specs.declared.fault.RunFault.TheVariants.{OutOfMemory}
use Rattle.wf_run_branches.proofs.JoinSteps.{never_gathered, unjoined}
use Rattle.wf_run_branches.proofs.joining.join_text.Goals as goal

pub returns-in_err-cover : goal.returns-in_err-cover
returns-in_err-cover g c =
    let t = c.args.task.now in
    let r = c.args.protocol.now.rounds in
    unjoined t r c.args.text.items OutOfMemory c.from_residual.result (never_gathered t r (length (branches t r)) 0 [] c.args.text.items) c.from_residual.ensures
