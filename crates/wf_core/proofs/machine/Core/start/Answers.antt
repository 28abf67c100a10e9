use Rattle.wf_core.proofs.Writes.{start_shown}
use Rattle.wf_core.proofs.machine.Core.start.Goals as goal

pub returns : goal.returns
returns c =
    start_shown _ _ c.args.branches c.args.workers
    (c.in_ok-vec.ensures.items_if_clones_equal (λ y e. e))
    (c.in_ok-vec-2.ensures.items_if_clones_equal (λ y e. e))
