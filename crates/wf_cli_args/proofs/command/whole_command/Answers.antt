use Rattle.wf_cli_args.specs.CommandLine as line
use Rattle.wf_cli_args.proofs.command.whole_command.Goals as goal

pub returns : goal.returns
returns c =
    let has_explain = c.with_subcommand-command.ensures _ line.explain c.with_sat_subcommands-command.ensures c.explain_command.ensures in
    let has_lift = c.with_subcommand-command-2.ensures _ line.lift has_explain c.lift_command.ensures in
    let has_executions = c.with_subcommand-command-3.ensures _ line.executions has_lift c.executions_command.ensures in
    let has_obstruction = c.with_subcommand-command-4.ensures _ line.obstruction has_executions c.obstruction_command.ensures in
    c.with_subcommand.ensures _ line.preset has_obstruction c.preset_command.ensures
