use Rattle.std.proofs.Common.{length, ◌+◌, ◌*◌}
use Rattle.wf_pool.proofs.crew.+crew.Given as goal

abbrev pub decreases-crew : goal.decreases-crew
decreases-crew g l = 3 * length l.members.workers.items + 2

abbrev pub decreases-run_last_beside : goal.decreases-run_last_beside
decreases-run_last_beside g l = 3 * length l.members.workers.items + 1

abbrev pub decreases-run_last_beside-join+arg3 : goal.decreases-run_last_beside-join+arg3
decreases-run_last_beside-join+arg3 g l = 3 * length l.others.workers.items + 3
