use Rattle.wf_handout.proofs.DequeSteps.{forks}
use Rattle.wf_handout.proofs.deque.deal.Goals as goal

pub another-pass-requires : goal.another-pass-requires
another-pass-requires c = forks _ _ c.in_ok-deque.ensures.whole.0
