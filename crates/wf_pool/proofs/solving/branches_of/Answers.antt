use Rattle.wf_pool.proofs.Branches.{covers}
use Rattle.wf_pool.proofs.solving.branches_of.Goals as goal

pub returns-clause-cover : goal.returns-clause-cover
returns-clause-cover c = covers c.args.problem.now c.split_with.result c.points-points.ensures.well_formed c.split_with.ensures.outline c.split_with.ensures.branches c.split_with.ensures.closed
