-- What a step may make at most that takes values apart, or puts them on sheets.
use Rattle.std.specs.Prelude.{◌≡◌, ◌<◌, ℕ, List, nat_le, Option, None, Some, length, sum_by, if◌then◌else◌}
use Rattle.std.specs.List.{list_any}
use Rattle.wf_model.specs.Task.{Rule, Task, Tuple}
use Rattle.wf_tree_model.specs.Splits.{Splitting, tuples_split}
use Rattle.wf_tree_refine.specs.Names.{has_large_name}
use Rattle.wf_tree_refine.specs.Near.{most_at_hand}
use Rattle.wf_tree_refine.specs.declared.fault.RefineFault.{RefineFault}
use Rattle.wf_tree_refine.specs.declared.fault.RefineFault.TheVariants.{OutOfMemory, TooManyNames, TooManyTuples}

-- how many tuples a step makes, those counted each time that are made more than once
abbrev pub tuples_made : (Rule → List Tuple) → Task → ℕ
tuples_made tuples t = sum_by (λ rule. length (tuples rule)) t.delta

abbrev pub tuples_fault : (Rule → List Tuple) → Task → Option RefineFault
tuples_fault tuples t = if nat_le (tuples_made tuples t) most_at_hand then None else Some TooManyTuples

-- the limit that a split is above, if there is one
abbrev pub split_fault : Splitting → Task → Option RefineFault
split_fault s t = if list_any (has_large_name s) s.rule.tuples then Some TooManyNames else tuples_fault (tuples_split s) t

-- unless memory ran out, so many tuples are more than the most
abbrev pub IsTooMany : RefineFault → ℕ → ℕ → Type 0
IsTooMany fault most count = (fault ≡ OutOfMemory → ⊥) → (fault ≡ TooManyTuples) × (most < count)
