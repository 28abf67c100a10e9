use Rattle.wf_cli.proofs.OfWords.Lemmas.{taken}
use Rattle.wf_cli_args.proofs.command.obstruction_command.Goals as goal

pub returns : goal.returns
returns c =
    let has_modulus = taken _ _ _ _ _ c.arg-command.ensures c.modulus.ensures c.subcommand.ensures in
    let has_covers = c.with_arg-command.ensures _ _ has_modulus c.covers.ensures in
    c.with_arg.ensures _ _ has_covers c.flag.ensures
