use Rattle.std.proofs.Common.{◌≡◌, ◌++◌, ◌-◌}
use Rattle.std.specs.List.{filter, range_with_len}
use Rattle.wf_model.specs.Limits.{most_processes}
use Rattle.wf_report_explain.specs.Argument.Text.{participants_of, takes_part}
use Rattle.wf_report_explain.specs.Argument.Used.{scopes_in}
use Rattle.wf_report_explain.proofs.argument.summary.participants_of.Given as goal

abbrev pub invariant-loop-process : goal.invariant-loop-process
invariant-loop-process l = l.processes.items ++ filter (takes_part (scopes_in l.used)) (range_with_len l.process (most_processes - l.process)) ≡ participants_of (scopes_in l.used)
