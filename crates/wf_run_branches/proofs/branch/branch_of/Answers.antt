use Rattle.wf_run_branches.proofs.branch.branch_of.Goals as goal

pub returns-clause-found : goal.returns-clause-found
returns-clause-found c = c.in_ok-branch_in.ensures c.args.task.now c.args.protocol.now.rounds c.requires.task c.in_ok-cover.ensures
