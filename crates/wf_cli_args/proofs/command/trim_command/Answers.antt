use Rattle.wf_cli.proofs.OfWords.Lemmas.{taken}
use Rattle.wf_cli_args.proofs.command.trim_command.Goals as goal

pub returns : goal.returns
returns c =
    taken _ _ _ _ _ c.arg.ensures c.task.ensures c.subcommand.ensures
