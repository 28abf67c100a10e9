use Rattle.std.proofs.Common.{refl}
use Rattle.wfverify.specs.Checker.Checker.{DoesCheck}
use Rattle.wfverify.proofs.checker.checker.run_checker.Goals as goal
use Rattle.wfverify.proofs.checker.checker.run_checker.Goals.{in-Ok, in-Err}

pub returns : goal.returns
returns g c =
    let did : DoesCheck (g.F.Files.opens c.args.opener.now.files) c.job_of.result c.args.opener.now c.match-job_of.opener c.args.source.now c.match-job_of.source c.args.sink.now c.match-job_of.sink c.match-job_of.done =
    elim c.match-job_of.branch [
      | in-Ok w ↦ rw (w.in-Ok.is, w.opener-is, w.source-is, w.sink-is, w.done-is) w.do_job-done.ensures
      | in-Err w ↦ rw (w.in-Err.is, w.opener-is, w.source-is, w.sink-is, w.done-is) (refl, refl, w.decline_words-done.ensures)
    ] in
    (c.job_of.result, c.match-job_of.done, c.job_of.ensures, did, c.end.ensures)
