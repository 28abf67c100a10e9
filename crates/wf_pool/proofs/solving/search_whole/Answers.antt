use Rattle.std.proofs.Common.{subst}
use Rattle.wf_pool.specs.Work.{IsFoundAt}
use Rattle.wf_pool.proofs.Branches.{found_at}
use Rattle.wf_pool.proofs.solving.search_whole.Goals as goal

pub returns-in-Map-clause-branch : goal.returns-in-Map-clause-branch
returns-in-Map-clause-branch g c =
    subst (IsFoundAt c.args.spec.problem.now c.args.spec.kept c.args.told.branch) c.in-Map.is
    (found_at c.args.spec.problem.now c.args.spec.kept c.args.cover.now c.args.told.branch c.in_ok-boxed.boxed.sets c.in_ok-found.found c.requires.cover c.requires.branch c.in_ok-boxed.ensures.branch c.in_ok-found.ensures.found)

pub returns-in-Refuted-clause-branch : goal.returns-in-Refuted-clause-branch
returns-in-Refuted-clause-branch g c =
    subst (IsFoundAt c.args.spec.problem.now c.args.spec.kept c.args.told.branch) c.in-Refuted.is
    (found_at c.args.spec.problem.now c.args.spec.kept c.args.cover.now c.args.told.branch c.in_ok-boxed.boxed.sets c.in_ok-found.found c.requires.cover c.requires.branch c.in_ok-boxed.ensures.branch c.in_ok-found.ensures.found)
