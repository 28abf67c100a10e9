-- Cases: what the processes of a simplex decide together.
--
-- An execution on a simplex leads to each other one by steps that change the last view of one
-- process (Ch^r of a simplex is strongly connected). So a decision map decides tuples of one part
-- there, whose tuples are joined by steps at one place. Alone a process has one view, and so
-- decides one value.
use Rattle.std.specs.Prelude.{◌==◌, ℕ, Bool, List, filter, length, if◌then◌else◌}
use Rattle.wf_model.specs.Task.{Rule, Task, Tuple}
use Rattle.wf_tree_model.specs.Counting.Rules.{same_numbers}
use Rattle.wf_tree_model.specs.Alike.{are_alike}
use Rattle.wf_tree_model.specs.Parts.{parts}
use Rattle.wf_tree_model.specs.Refined.{allowing}
use Rattle.wf_tree_model.specs.Tuples.{are_adjacent, has_tuple}

-- two tuples of n participants differ at one place at most, and with one participant nowhere
abbrev pub is_step : ℕ → Tuple → Tuple → Bool
is_step n a b = if n == 1 then same_numbers a b else are_adjacent n a b

-- the parts of what the task allows on a simplex
abbrev pub components : Rule → List (List Tuple)
components rule = parts (is_step (length rule.input)) rule.tuples

abbrev pub tuples_in_case : Task → Rule → List Tuple → Rule → List Tuple
tuples_in_case t of part rule = if are_alike t of.input rule.input then filter (has_tuple part) rule.tuples else rule.tuples

-- the task that allows only this part on the simplex of the rule, and on those that are alike
abbrev pub in_case : Rule → List Tuple → Task → Task
in_case of part t = allowing (tuples_in_case t of part) t
