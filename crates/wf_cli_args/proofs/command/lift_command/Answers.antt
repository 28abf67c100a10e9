use Rattle.wf_cli.proofs.OfWords.Lemmas.{taken}
use Rattle.wf_cli_args.proofs.command.lift_command.Goals as goal

pub returns : goal.returns
returns c =
    let has_task = taken _ _ _ _ _ c.arg-command.ensures c.task.ensures c.subcommand.ensures in
    c.with_arg.ensures _ _ has_task c.optional.ensures
