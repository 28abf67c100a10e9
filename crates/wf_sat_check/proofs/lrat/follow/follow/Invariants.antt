use Rattle.std.proofs.Common.{◌≡◌, drop, length, take}
use Rattle.wf_sat_check.specs.Lrat.Hints.{followed}
use Rattle.wf_sat_check.specs.Lrat.Slots.{clause_of}
use Rattle.wf_sat_check.proofs.lrat.follow.follow.Given as goal

abbrev pub invariant-hints : goal.invariant-hints
invariant-hints l = record {
  front : take (length l.initial.trail) l.trail ≡ l.initial.trail;
  same : followed l.clauses (clause_of l.initial.trail) l.hints ≡ followed l.clauses (clause_of l.trail) (drop l.hint-index l.hints);
}
