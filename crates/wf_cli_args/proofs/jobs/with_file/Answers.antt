use Rattle.std.proofs.Common.{sym}
use Rattle.wf_cli_args.specs.declared.asked.Job.TheVariants.{WithFile}
use Rattle.wf_cli.proofs.OfWords.Lemmas.{on_file}
use Rattle.wf_cli_args.proofs.jobs.with_file.Goals as goal

pub returns-in_ok-from_str-in-Ok-clause-asked : goal.returns-in_ok-from_str-in-Ok-clause-asked
returns-in_ok-from_str-in-Ok-clause-asked c =
    let file = c.in_ok-from_str-in-Ok in
    on_file (λ what task. WithFile task what) c.args.asked _ c.in-Ok.job _ file.field-0 (sym c.in-Ok.is) c.in-Some.ensures file.ensures.ok
