use Rattle.wf_cli.proofs.OfWords.Lemmas.{taken}
use Rattle.wf_cli_args.proofs.command.preset_command.Goals as goal

pub returns : goal.returns
returns c =
    let has_kind = taken _ _ _ _ _ c.arg-command.ensures c.kind.ensures c.subcommand.ensures in
    let has_processes = c.with_arg-command.ensures _ _ has_kind c.number.ensures in
    let has_k = c.with_arg-command-2.ensures _ _ has_processes c.optional.ensures in
    let has_values = c.with_arg-command-3.ensures _ _ has_k c.optional-2.ensures in
    c.with_arg.ensures _ _ has_values c.optional-3.ensures
