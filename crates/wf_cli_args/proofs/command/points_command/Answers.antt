use Rattle.wf_cli.proofs.OfWords.Lemmas.{taken}
use Rattle.wf_cli_args.proofs.command.points_command.Goals as goal

pub returns : goal.returns
returns c =
    let has_rounds = taken _ _ _ _ _ c.arg-command.ensures c.optional.ensures c.subcommand.ensures in
    c.with_arg.ensures _ _ has_rounds c.task_file.ensures
