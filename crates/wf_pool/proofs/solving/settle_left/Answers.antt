use Rattle.std.proofs.Common.{ap, sym, subst, arith}
use Rattle.wf_board.specs.Desk.{settled}
use Rattle.std.proofs.lemmas.List.Elements.{All-push}
use Rattle.wf_pool.specs.declared.worker.Worker.{Worker}
use Rattle.wf_pool.specs.Work.{AreWorkers, IsWorker, times_settled}
use Rattle.wf_pool.proofs.Totals.{times_first, others_are, times_in-push}
use Rattle.wf_pool.proofs.solving.settle_left.Goals as goal

pub returns-clause-workers : goal.returns-clause-workers
returns-clause-workers g c =
    let p = c.args.shared.now.spec.problem.now in
    let k = c.args.shared.now.spec.kept in
    let b = c.args.shared.now.board.now in
    let others = subst (AreWorkers p k b) (sym c.remove-first.ensures.items) (others_are p k b c.args.workers.items c.requires.workers) in
    subst (AreWorkers p k b) (sym c.in_ok-push.ensures.items) (All-push (IsWorker p k b) c.remove-first.new.self.items c.in_ok-settle_each.field-0 others c.in_ok-settle_each.ensures.worker)

pub returns-clause-settled : goal.returns-clause-settled
returns-clause-settled g c = λ x.
    let ws = c.args.workers.items in
    let first = times_first x ws c.remove-first.result c.requires.some c.remove-first.ensures.value in
    let others = ap (times_settled x) c.remove-first.ensures.items in
    let all = ap (times_settled x) c.in_ok-push.ensures.items in
    let more = times_in-push (λ (w : Worker). settled w.seat) x c.remove-first.new.self.items c.in_ok-settle_each.field-0 in
    let e = c.in_ok-settle_each.ensures.settled x in
    let l = c.requires.left x in
    omega arith
