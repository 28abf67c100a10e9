use Rattle.clap.specs.Words.{found_of, rows_of}
use Rattle.wf_cli.specs.Words.Given.{task_of}
use Rattle.wf_cli.proofs.OfWords.Lemmas.{on_file}
use Rattle.wfverify.specs.Checker.Asked.{check_in}
use Rattle.wfverify.proofs.checker.job.job_in.Goals as goal

pub returns-in_ok-from_str-in-Ok : goal.returns-in_ok-from_str-in-Ok
returns-in_ok-from_str-in-Ok c =
    let rows = rows_of (found_of c.args.found.now) in
    let made = c.in_ok-from_str-in-Ok in
    on_file (λ check task. record { task = task; check = check }) (check_in rows) (task_of rows) c.in-Ok.check _ made.field-0 c.in-Ok.ensures c.in-Some.ensures made.ensures.ok
