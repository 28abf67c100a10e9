use Rattle.std.proofs.Common.{◌≡◌, drop}
use Rattle.wf_sat_check.specs.Lrat.Hints.{next_group}
use Rattle.wf_sat_check.proofs.lrat.groups.next_group.Given as goal

abbrev pub invariant-hints : goal.invariant-hints
invariant-hints l = next_group l.hints ≡ next_group (drop l.at l.hints)
