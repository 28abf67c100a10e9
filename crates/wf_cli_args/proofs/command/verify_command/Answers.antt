use Rattle.wf_cli.proofs.OfWords.Lemmas.{taken}
use Rattle.wf_cli_args.proofs.command.verify_command.Goals as goal

pub returns : goal.returns
returns c =
    let has_task = taken _ _ _ _ _ c.arg-command.ensures c.task.ensures c.subcommand.ensures in
    let has_rounds = c.with_arg-command.ensures _ _ has_task c.optional.ensures in
    let has_branch = c.with_arg-command-2.ensures _ _ has_rounds c.branch-alloc.ensures in
    c.with_arg.ensures _ _ has_branch c.flag.ensures
