-- All solutions of a problem, by trying each list of values.
use Rattle.std.specs.Prelude.{ℕ, List, filter}
use Rattle.std.specs.List.{list_all}
use Rattle.wf_model.specs.Lists.{lists_of}
use Rattle.wf_model.specs.Problem.{Problem}
use Rattle.wf_model.specs.Check.{satisfies}

-- in ascending order
abbrev pub all_solutions : Problem → List (List ℕ)
all_solutions p = filter (λ m. list_all (satisfies m) p.constraints) (lists_of p.values p.points)
