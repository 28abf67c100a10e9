use Rattle.wf_cli_args.specs.CommandLine as line
use Rattle.wf_cli_args.proofs.command.with_sat_subcommands.Goals as goal

pub returns : goal.returns
returns c =
    let has_join = c.with_subcommand-command.ensures _ line.join c.with_search_subcommands-command.ensures c.join_command.ensures in
    let has_cnf = c.with_subcommand-command-2.ensures _ line.cnf has_join c.cnf_command.ensures in
    let has_model = c.with_subcommand-command-3.ensures _ line.model has_cnf c.model_command.ensures in
    let has_proof = c.with_subcommand-command-4.ensures _ line.proof has_model c.proof_command.ensures in
    c.with_subcommand.ensures _ line.trim has_proof c.trim_command.ensures
