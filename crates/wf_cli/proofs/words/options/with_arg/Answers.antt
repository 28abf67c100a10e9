use Rattle.std.proofs.Common.{◌≡◌, ◌∙◌, subst, ap, Ok}
use Rattle.std.specs.Prelude.{IfOk}
use Rattle.std.specs.Result.{result_from_control_flow}
use Rattle.wf_cli.specs.Words.Building.{IsLeaf}
use Rattle.wf_cli.proofs.OfWords.AddedOptions.{taken}
use Rattle.wf_cli.proofs.words.options.with_arg.Goals as goal

pub returns : goal.returns
returns c = λ shape rule leaf option.
    let is : c.args.command ≡ Ok c.in_ok-command.field-0 = c.branch-command.ensures ∙ ap result_from_control_flow c.in_ok-command.is in
    let made = subst (λ command. IfOk command (IsLeaf shape)) is leaf in
    taken _ _ shape rule c.arg.result c.arg.ensures option made
