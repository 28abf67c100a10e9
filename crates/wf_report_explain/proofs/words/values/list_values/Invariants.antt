use Rattle.std.proofs.Common.{◌≡◌, ◌++◌, length}
use Rattle.wf_base.specs.Set.Sets.{values_in}
use Rattle.wf_report_explain.proofs.words.values.list_values.Given as goal

abbrev pub invariant-values : goal.invariant-values
invariant-values l = l.values.items ++ values_in l.left ≡ values_in l.initial.left

abbrev pub decreases-values : goal.decreases-values
decreases-values l = length (values_in l.left)
