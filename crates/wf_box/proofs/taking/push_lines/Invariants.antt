use Rattle.std.proofs.Common.{◌≡◌, ◌≤◌, ◌+◌, ◌++◌, length, vec_len, vec_capacity}
use Rattle.wf_base.specs.Set.Sets.{values_in}
use Rattle.wf_box.specs.Steps.{removals}
use Rattle.wf_box.proofs.taking.push_lines.Given as goal

abbrev pub decreases-values : goal.decreases-values
decreases-values g l = length (values_in (g.V.ValueSet.wide l.left))

abbrev pub invariant-values : goal.invariant-values
invariant-values g l = (l.lines.items ++ removals l.at (values_in (g.V.ValueSet.wide l.left)) ≡ l.initial.lines.items ++ removals l.at (values_in (g.V.ValueSet.wide l.initial.left)))
    × (vec_len l.lines + length (values_in (g.V.ValueSet.wide l.left)) ≡ vec_len l.initial.lines + length (values_in (g.V.ValueSet.wide l.initial.left)))
    × (vec_capacity l.initial.lines ≤ vec_capacity l.lines)
