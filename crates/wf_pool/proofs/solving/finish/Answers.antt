use Rattle.std.proofs.Common.{length, ap, sym, ◌∙◌, subst}
use Rattle.std.proofs.lemmas.List.{length-map}
use Rattle.std.proofs.lemmas.List.Elements.{All-map, All-weaker}
use Rattle.wf_board.specs.Desk.{AreSeats}
use Rattle.wf_pool.specs.declared.worker.Worker.{Worker}
use Rattle.wf_pool.specs.Work.{IsWorker, IsSeat}
use Rattle.wf_pool.proofs.WorkersTogether.{tells}
use Rattle.wf_pool.proofs.solving.finish.Goals as goal

pub finish-requires : goal.finish-requires
finish-requires c =
    let ws = c.args.workers.items in
    let is = c.in_ok-seats.ensures.seats in (
      ap length is ∙ length-map ws (λ (w : Worker). w.seat) ∙ c.requires.count,
      subst (AreSeats c.args.board) (sym is) (All-map (IsSeat c.args.board) (λ (w : Worker). w.seat) ws (All-weaker (IsWorker c.args.spec.problem.now c.args.spec.kept c.args.board) (λ w. IsSeat c.args.board w.seat) (λ w h. h.0) ws c.requires.workers)),
    )

pub returns-clause-tells : goal.returns-clause-tells
returns-clause-tells c =
    let e = c.finish.ensures in
    tells c.args.spec.problem.now c.args.spec.kept c.args.board c.finish.result c.args.workers.items c.in_ok-seats.seats.items c.in_ok-seats.finds
    c.in_ok-seats.ensures.seats c.in_ok-seats.ensures.maps c.in_ok-seats.ensures.lines c.requires.workers c.requires.settled
    e.branches e.least e.searched e.cut e.seen
