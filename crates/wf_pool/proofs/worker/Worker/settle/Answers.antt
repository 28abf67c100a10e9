use Rattle.std.proofs.Common.{subst}
use Rattle.wf_pool.specs.Work.{IsFoundAt}
use Rattle.wf_pool.proofs.worker.Worker.settle.Goals as goal

pub returns-in-Map-clause-honest : goal.returns-in-Map-clause-honest
returns-in-Map-clause-honest c = λ p kept h found. c.forget.ensures.honest p kept (c.post.ensures.honest p kept h (subst (IsFoundAt p kept c.args.branch) c.in-Map.is found))

pub returns-in_ok-refute-in-Refuted-clause-honest : goal.returns-in_ok-refute-in-Refuted-clause-honest
returns-in_ok-refute-in-Refuted-clause-honest c = λ p kept h found. c.in_ok-refute-in-Refuted.ensures.honest p kept h (subst (IsFoundAt p kept c.args.branch) c.in-Refuted.is found)
