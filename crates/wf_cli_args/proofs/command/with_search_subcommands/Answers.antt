use Rattle.std.proofs.Common.{ap, codes, ◌≡◌, ◌∙◌, true}
use Rattle.clap.specs.Simple.{app_of, app_of_fields, new_app, on_top}
use Rattle.wf_cli_args.specs.CommandLine as line
use Rattle.wf_cli_args.proofs.command.with_search_subcommands.Goals as goal

pub returns : goal.returns
returns c =
    let about_is : app_of c.about.result ≡ new_app (codes "wfcheck") = ap app_of_fields c.about.ensures ∙ c.new.ensures.app in
    let told_is : app_of c.after_help.result ≡ new_app (codes "wfcheck") = ap app_of_fields c.after_help.ensures ∙ about_is in
    let version_is : app_of c.version.result ≡ on_top (λ s. record s { has_version = true }) (new_app (codes "wfcheck")) =
    ap app_of_fields c.version.ensures ∙ ap (on_top (λ s. record s { has_version = true })) told_is in
    let required_is : app_of c.subcommand_required-command.result ≡ on_top (λ s. record s { subcommand_required = true; has_version = true }) (new_app (codes "wfcheck")) =
    ap app_of_fields c.subcommand_required-command.ensures ∙ ap (on_top (λ s. record s { subcommand_required = true })) version_is in
    let has_solve = c.with_subcommand-command.ensures _ line.solve required_is c.solve_command.ensures in
    let has_verify = c.with_subcommand-command-2.ensures _ line.verify has_solve c.verify_command.ensures in
    let has_views = c.with_subcommand-command-3.ensures _ line.views has_verify c.views_command.ensures in
    let has_points = c.with_subcommand-command-4.ensures _ line.points has_views c.points_command.ensures in
    c.with_subcommand.ensures _ line.branches has_points c.branches_command.ensures
