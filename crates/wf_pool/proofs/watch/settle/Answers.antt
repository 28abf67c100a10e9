use Rattle.std.proofs.Common.{◌<◌, ℕ, sym, subst}
use Rattle.wf_box.specs.Boxes.{ServeFor}
use Rattle.wf_pool.proofs.Branches.{found_at}
use Rattle.wf_pool.proofs.HonestWorkers.{looked_honest}
use Rattle.wf_pool.proofs.watch.settle.Goals as goal

pub returns-clause-worker : goal.returns-clause-worker
returns-clause-worker g c =
    let shared = c.args.shared.now in
    let w = c.in_ok-settled.ensures in
    let look = c.in_ok-found.ensures.asked.2.1 in (
      w.seat,
      w.honest shared.spec.problem.now shared.spec.kept
          (looked_honest shared.spec.problem.now shared.spec.kept c.args.me.seat _ c.args.me.finds look c.requires.me.1)
          (found_at shared.spec.problem.now shared.spec.kept shared.cover.now c.args.branch c.in_ok-boxed.boxed.sets c.in_ok-found.found shared.ground.cover (subst (λ (n : ℕ). c.args.branch < n) (sym shared.ground.count) c.requires.branch.0) c.in_ok-boxed.ensures.branch c.in_ok-found.ensures.found),
      subst (ServeFor shared.spec.problem.now) (sym w.answers) c.in_ok-found.ensures.answers,
    )
