use Rattle.std.proofs.Common.{◌≡◌, ◌++◌}
use Rattle.wf_report_explain.specs.Argument.Text.{sizes_of}
use Rattle.wf_report_explain.specs.Argument.Used.{scopes_in, sizes_left}
use Rattle.wf_report_explain.proofs.argument.summary.sizes_of.Given as goal

abbrev pub invariant-loop-others : goal.invariant-loop-others
invariant-loop-others l = l.sizes.items ++ sizes_left (scopes_in l.used) l.others ≡ sizes_of (scopes_in l.used)
