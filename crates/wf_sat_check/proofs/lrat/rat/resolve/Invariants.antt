use Rattle.std.proofs.Common.{◌≡◌, ◌+◌, drop}
use Rattle.wf_sat_text.specs.Drat.Codes.{literal_of}
use Rattle.wf_sat_check.specs.Lrat.Hints.{resolved}
use Rattle.wf_sat_check.specs.Lrat.Slots.{clause_of}
use Rattle.wf_sat_check.proofs.lrat.rat.resolve.Given as goal

abbrev pub invariant-ids : goal.invariant-ids
invariant-ids l = record {
  trail : l.trail ≡ l.initial.trail;
  same : resolved l.clauses (clause_of l.initial.trail) (literal_of l.negated) 1 l.clauses l.hints
      ≡ resolved l.clauses (clause_of l.trail) (literal_of l.negated) (l.number + 1) (drop l.number l.clauses) l.left;
}
