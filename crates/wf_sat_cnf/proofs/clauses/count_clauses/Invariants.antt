use Rattle.std.proofs.Common.{◌≡◌, ◌+◌, ℕ, List, length, map, flat_map}
use Rattle.wf_model.specs.Lists.{below}
use Rattle.wf_sat_cnf.specs.Patterns.{patterns_seen}
use Rattle.wf_sat_cnf.specs.Clauses.{clauses_at}
use Rattle.wf_sat_cnf.proofs.clauses.count_clauses.Given as goal

abbrev pub invariant-loop-execution : goal.invariant-loop-execution
invariant-loop-execution l =
    (values : List ℕ) → l.clauses ≡ length l.protocol.points + length (flat_map (clauses_at values (map patterns_seen l.patterns) l.protocol) (below l.execution))
