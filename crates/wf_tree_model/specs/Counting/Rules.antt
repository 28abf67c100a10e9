-- Rules of a task by the numbers of input simplices.
use Rattle.std.specs.Prelude.{◌==◌, ℕ, Bool, List, []}
use Rattle.std.specs.List.{slice_index_or}
use Rattle.std.specs.Cmp.Lexicographic.{pointwise}
use Rattle.wf_model.specs.Task.{Rule, Task}

abbrev pub no_rule : Rule
no_rule = record { input = []; tuples = [] }

-- the input simplex of this number, with the tuples that the task allows there
abbrev pub rule_at : Task → ℕ → Rule
rule_at t simplex = slice_index_or t.delta simplex no_rule

abbrev pub same_numbers : List ℕ → List ℕ → Bool
same_numbers xs ys = pointwise (λ x y. x == y) xs ys
