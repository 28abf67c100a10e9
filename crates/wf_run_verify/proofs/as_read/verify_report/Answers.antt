use Rattle.wf_run.specs.Run.{answered}
use Rattle.wf_run_verify.proofs.AheadTexts.{can_begin, first_begin, from_begin, no_window}
use Rattle.wf_model.specs.Limits.{most_bytes}
use Rattle.wf_run_verify.proofs.as_read.verify_report.Goals as goal

pub returns-in_err-window : goal.returns-in_err-window
returns-in_err-window g c = no_window c.args.asked.now.rounds c.args.asked.now.task.now c.args.source.now c.from_residual.result c.from_residual.ensures

pub verify_in_window-requires-clause-can : goal.verify_in_window-requires-clause-can
verify_in_window-requires-clause-can g c κs within = can_begin c.args.source.now c.in_ok-window.window c.in_ok-window.ensures c.requires

pub verify_in_window-requires-clause-first : goal.verify_in_window-requires-clause-first
verify_in_window-requires-clause-first g c κs within = first_begin c.in_ok-window.window most_bytes c.in_ok-window.ensures

pub returns : goal.returns
returns g c =
    let q = c.args.asked.now in
    from_begin q.rounds q.task.now c.args.source.now c.verify_in_window.new.source c.in_ok-window.window (answered c.verify_in_window.result) c.in_ok-window.ensures c.verify_in_window.ensures
