use Rattle.std.proofs.Common.{ap, codes, true, ◌≡◌, ◌∙◌}
use Rattle.std.proofs.lemmas.Result.{IfOk-weaker}
use Rattle.clap.specs.Simple.{app_of, app_of_fields, new_app, new_shape, on_top}
use Rattle.wf_cli.specs.Words.Building.{IsLeaf}
use Rattle.wf_cli.proofs.OfWords.Lemmas.{taken}
use Rattle.wfverify.specs.Checker.CommandLine.{command_line}
use Rattle.wfverify.proofs.checker.command.whole_command.Goals as goal

pub returns : goal.returns
returns c =
    let about_is : app_of c.about.result ≡ new_app (codes "wfverify") = ap app_of_fields c.about.ensures ∙ c.new.ensures.app in
    let version_is : app_of c.version.result ≡ on_top (λ s. record s { has_version = true }) (new_app (codes "wfverify")) =
    ap app_of_fields c.version.ensures ∙ ap (on_top (λ s. record s { has_version = true })) about_is in
    let begun : IsLeaf (record (new_shape (codes "wfverify")) { has_version = true }) c.after_help.result =
    (ap app_of_fields c.after_help.ensures ∙ version_is, ap (λ f. f.has_globals) c.after_help.ensures ∙ ap (λ f. f.has_globals) c.version.ensures ∙ ap (λ f. f.has_globals) c.about.ensures ∙ c.new.ensures.local) in
    let has_task = taken _ _ _ _ _ c.arg-command.ensures c.task.ensures begun in
    let has_rounds = c.with_arg-command.ensures _ _ has_task c.optional.ensures in
    let has_proof = c.with_arg-command-2.ensures _ _ has_rounds c.flag.ensures in
    let has_lrat = c.with_arg-command-3.ensures _ _ has_proof c.flag-2.ensures in
    IfOk-weaker c.with_arg.result (IsLeaf command_line.top) _ (λ command leaf. leaf.0) (c.with_arg.ensures _ _ has_lrat c.flag-3.ensures)
