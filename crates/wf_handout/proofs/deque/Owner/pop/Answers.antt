use Rattle.crossbeam_deque.specs.Handles.{worker_deque, worker_view}
use Rattle.wf_handout.proofs.DequeSteps.{popped}
use Rattle.wf_handout.proofs.deque.Owner.pop.Goals as goal

pub returns : goal.returns
returns c =
    let old = c.self.inside.deque in
    let new = c.pop_front.new.deque in
    popped c.pop_front.result c.args.self.now (worker_deque old) (worker_deque new) (worker_view old) (worker_view new) c.self.view_is c.pop_front.ensures.deque c.pop_front.ensures.taken
