use Rattle.std.proofs.Common.{ℕ, min, sym, subst, arith}
use Rattle.crossbeam_deque.specs.Tasks.{FindsFew}
use Rattle.crossbeam_deque.specs.Handles.{view}
use Rattle.wf_handout.specs.Piles.{Held, AllTaken}
use Rattle.wf_handout.proofs.DequeSteps.{takes, finds_few, gains, stolen}
use Rattle.wf_handout.proofs.deque.StealingEnd.steal.Goals as goal

pub steal_as-requires-clause-takes : goal.steal_as-requires-clause-takes
steal_as-requires-clause-takes c = takes _ _ (let p = c.thief.invariant.2 in omega arith)

pub steal_as-requires-clause-empty : goal.steal_as-requires-clause-empty
steal_as-requires-clause-empty c =
    let pass = c.thief.inside.pass in
    subst (λ (n : ℕ). FindsFew Held (min n 1) pass.id (view pass) (AllTaken (view pass))) (sym c.self.invariant) (finds_few _ _)

pub returns : goal.returns
returns c =
    let old = c.thief.inside.pass in
    let new = c.steal_as.new.pass in
    let same = c.steal_as.ensures.same in
    gains c.success.result c.args.thief.now (old.rows, old.heap) (new.rows, new.heap) (view old) (view new) c.thief.view_is (λ k. (same.0 k, same.1 k))
    (stolen c.steal_as.result c.success.result (view old) (view new) _ c.success.ensures c.steal_as.ensures.rule)
