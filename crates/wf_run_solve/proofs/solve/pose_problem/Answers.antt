use Rattle.std.proofs.Common.{subst, ap, ◌∙◌}
use Rattle.wf_model.specs.Problem.{problem_of}
use Rattle.wf_report.specs.Reports.{IsHeaderOf}
use Rattle.wf_run_solve.proofs.solve.pose_problem.Goals as goal

pub returns : goal.returns
returns g c =
    let t = c.args.task.now in
    let built = c.in_ok-protocol.ensures in
    let rounds = built.2.rounds_are in (
      (c.in_ok-protocol.protocol, built),
      record { task = built.2.task; about = subst (λ r. IsHeaderOf t r c.about.result) rounds c.about.ensures },
      c.in_ok-problem.ensures ∙ ap (problem_of t) rounds,
    )
