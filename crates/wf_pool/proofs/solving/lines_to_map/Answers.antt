use Rattle.std.proofs.Common.{length, subst}
use Rattle.wf_pool.specs.Branches.{HasEachLines}
use Rattle.wf_pool.proofs.Branches.{lead_dropped}
use Rattle.wf_pool.proofs.solving.lines_to_map.Goals as goal

pub join_lines_to_map-requires-clause-below : goal.join_lines_to_map-requires-clause-below
join_lines_to_map-requires-clause-below c = subst (λ kept. HasEachLines c.args.spec.problem.now kept (length c.args.below.items) c.args.below.items) c.in-All.is c.requires.below

pub returns-in-Refuting : goal.returns-in-Refuting
returns-in-Refuting c = lead_dropped c.args.spec.problem.now c.args.spec.kept (length c.args.below.items) c.args.own.items c.in-Refuting.is
