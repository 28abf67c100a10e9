use Rattle.std.proofs.Common.{◌≡◌, ◌≤◌, [], drop, length}
use Rattle.wf_sat_check.specs.Lrat.Ledger.{emptied_each}
use Rattle.wf_sat_check.proofs.lrat.checker.LratChecker.empty.Given as goal

abbrev pub invariant-ids : goal.invariant-ids
invariant-ids l = record {
  same : l.self-inside.variables ≡ l.initial.self-inside.variables;
  trail : l.self-inside.trail ≡ [];
  count : l.self-inside.count ≡ l.initial.self-inside.count;
  refuted : l.self-inside.is_refuted ≡ l.initial.self-inside.is_refuted;
  few : l.self-inside.count ≤ length l.self-inside.clauses;
  left : emptied_each l.ids l.initial.self-inside.clauses ≡ emptied_each (drop l.id-index l.ids) l.self-inside.clauses;
}
