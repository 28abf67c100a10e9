-- What a clause sees of the program's tasks, and what each of them keeps.
use Rattle.std.specs.Prelude.{◌≡◌, ℕ, Bool, List, [], ◌∷◌, map, length, slice_get, Option, None, option_map, vec_items}
use Rattle.wf_model.specs.Simplex.{Simplex}
use Rattle.wf_model.specs.Task.{Task, Rule, Tuple, IsTask, values}
use Rattle.wf_task.specs.declared.task.Task.TheInside.{Inside}
use Rattle.wf_task.specs.Canonical.{HasFewFacets}
use Rattle.wf_task.specs.Mask.{IsMaskOf}
use Rattle.wf_task_parse.specs.Shape.{rule_of}

-- each input simplex with its tuples
abbrev pub rules_seen : List Simplex → List (List Tuple) → List Rule
rules_seen [] ts = []
rules_seen (s ∷ ss) [] = []
rules_seen (s ∷ ss) (t ∷ ts) = rule_of s t ∷ rules_seen ss ts

-- the task of these parts
abbrev pub task_with_block : Option ℕ → ℕ → Bool → List Simplex → List (List Tuple) → List Simplex → Task
task_with_block least_block n symmetric inputs tuples outputs = record {
  processes = n;
  symmetric = symmetric;
  least_block = least_block;
  delta = rules_seen inputs tuples;
  outputs = outputs;
}

-- the task of these parts that allows all words
abbrev pub task_of_parts : ℕ → Bool → List Simplex → List (List Tuple) → List Simplex → Task
task_of_parts n symmetric inputs tuples outputs = task_with_block None n symmetric inputs tuples outputs

abbrev pub task_seen : Inside → Task
task_seen t = task_with_block t.least_block t.processes t.symmetric t.inputs (map vec_items t.tuples.items) t.outputs

pub record IsKept (t : Inside) : Type 0 where
  pub task : IsTask (task_seen t)
  pub each : length (map vec_items t.tuples.items) ≡ length t.inputs
  pub few_outputs : HasFewFacets t.outputs
  pub values : IsMaskOf t.values (values (task_seen t))

-- the tuples of the input simplex of this number, if there is one
abbrev pub tuples_at : Task → ℕ → Option (List Tuple)
tuples_at t simplex = option_map (λ rule. rule.tuples) (slice_get t.delta simplex)
