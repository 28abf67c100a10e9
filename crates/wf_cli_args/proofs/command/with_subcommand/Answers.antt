use Rattle.std.proofs.Common.{◌≡◌, ◌∙◌, subst, ap, Ok}
use Rattle.std.specs.Prelude.{IfOk}
use Rattle.std.specs.Result.{result_from_control_flow}
use Rattle.std.proofs.lemmas.Result.{IfOk-weaker}
use Rattle.clap.specs.Simple.{app_of}
use Rattle.wf_cli.specs.Words.Building.{IsLeaf}
use Rattle.wf_cli_args.proofs.AddedCommands.{with_leaf}
use Rattle.wf_cli_args.proofs.command.with_subcommand.Goals as goal

pub returns : goal.returns
returns c = λ app shape was leaf.
    let command_is : c.args.command ≡ Ok c.in_ok-command.field-0 = c.branch-command.ensures ∙ ap result_from_control_flow c.in_ok-command.is in
    let sub_is : c.args.sub ≡ Ok c.in_ok-sub.field-0 = c.branch-sub.ensures ∙ ap result_from_control_flow c.in_ok-sub.is in
    let begun = subst (λ command. IfOk command (λ r. app_of r ≡ app)) command_is was in
    let made = subst (λ sub. IfOk sub (IsLeaf shape)) sub_is leaf in
    IfOk-weaker c.subcommand.result _ _ (λ new adds. with_leaf _ _ _ _ _ adds made begun) c.subcommand.ensures
