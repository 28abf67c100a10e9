use Rattle.wf_cli.proofs.OfWords.Lemmas.{taken}
use Rattle.wf_cli_args.proofs.command.solve_command.Goals as goal

pub returns : goal.returns
returns c =
    let has_rounds = taken _ _ _ _ _ c.arg-command.ensures c.rounds.ensures c.subcommand.ensures in
    let has_workers = c.with_arg-command.ensures _ _ has_rounds c.workers.ensures in
    let has_verdict = c.with_arg-command-2.ensures _ _ has_workers c.flag.ensures in
    let has_least = c.with_arg-command-3.ensures _ _ has_verdict c.flag-2.ensures in
    let has_account = c.with_arg-command-4.ensures _ _ has_least c.flag-3.ensures in
    let has_progress = c.with_arg-command-5.ensures _ _ has_account c.flag-4.ensures in
    c.with_arg.ensures _ _ has_progress c.branch-alloc.ensures
