use Rattle.std.proofs.Common.{◌≡◌, map, take}
use Rattle.wf_sat_cnf.specs.Patterns.{patterns_seen}
use Rattle.wf_sat_cnf.specs.Clauses.{patterns_of}
use Rattle.wf_sat_cnf.proofs.question.all_patterns.Given as goal

abbrev pub invariant-loop-simplex : goal.invariant-loop-simplex
invariant-loop-simplex l = map patterns_seen l.patterns.items ≡ take l.simplex (patterns_of l.task)
