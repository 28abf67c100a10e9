use Rattle.wf_sat_check.proofs.OfRup.StoredLemmas.{has-put}
use Rattle.wf_sat_check.proofs.rup.database.Database.force.Goals as goal

pub returns-then-branch-clause-kept : goal.returns-then-branch-clause-kept
returns-then-branch-clause-kept c = has-put _ c.put.new.self c.propagate.new.trail c.args.literal c.in_ok-put.ensures.exact c.in_ok-propagate.ensures.trail.front

pub returns-else-branch-clause-kept : goal.returns-else-branch-clause-kept
returns-else-branch-clause-kept c = has-put _ c.put.new.self c.propagate.new.trail c.args.literal c.in_ok-put.ensures.exact c.in_ok-propagate.ensures.trail.front
