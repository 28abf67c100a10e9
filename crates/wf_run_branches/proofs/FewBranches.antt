-- The branches of a task's question are few.
use Rattle.std.proofs.Common.{◌≡◌, ℕ, ◌+◌, ◌≤◌, true, List, [], ◌∷◌, flat_map, length, Option, Some, None, arith}
use Rattle.std.specs.List.{AllByRecursion}
use Rattle.std.proofs.lemmas.List.Elements.{recursion_from_All}
use Rattle.wf_model.specs.Lists.{has}
use Rattle.wf_model.specs.Limits.{most_number}
use Rattle.wf_model.specs.Simplex.{values_of}
use Rattle.wf_model.specs.Task.{HasValuesUpTo, IsTask, Task, largest_value, values}
use Rattle.wf_model.specs.Problem.{problem_of}
use Rattle.wf_model.proofs.Lemmas.{Ascends, ascends_from, weaker, each_with_value, few_branches, each_flat, each_has, task_well_formed}
use Rattle.wf_task.proofs.Lemmas.{has_from_order}
use Rattle.wf_sat_formula.specs.Branches.{branches}

-- no task has a larger value
largest_is : (block : Option ℕ) → largest_value block ≤ 255
largest_is None = omega arith
largest_is (Some m) = omega arith

-- ascending numbers up to this are few
climbs : (a : ℕ) (more : List ℕ) → Ascends (a ∷ more) → AllByRecursion (λ x. x ≤ 255) (a ∷ more) → length (a ∷ more) + a ≤ 256
climbs a [] up small = let here = small.0 in omega (arith, here)
climbs a (b ∷ more) up small =
    let next = climbs b more up.1 small.1 in
    let low = up.0.0 in
    omega (arith, next, low)

few_ascending : (xs : List ℕ) → Ascends xs → AllByRecursion (λ x. x ≤ 255) xs → length xs ≤ 256
few_ascending [] up small = omega arith
few_ascending (a ∷ more) up small = let all = climbs a more up small in omega (arith, all)

module _ (t : Task) (r : ℕ) (is : IsTask t) where
  outputs_small : AllByRecursion (λ x. x ≤ 255) (flat_map values_of t.outputs)
  outputs_small =
      each_flat (λ x. x ≤ 255) values_of t.outputs
      (weaker (HasValuesUpTo (largest_value t.least_block)) (λ s. AllByRecursion (λ x. x ≤ 255) (values_of s))
      (λ s h. weaker (λ x. x ≤ largest_value t.least_block) (λ x. x ≤ 255) (λ x k. omega (arith, k, largest_is t.least_block)) (values_of s) (recursion_from_All _ (values_of s) h))
      t.outputs (recursion_from_All _ t.outputs is.limits.output_values))

  few_values : length (values t) ≤ 256
  few_values =
      few_ascending (values t) (ascends_from (values t) (task_well_formed t r is).ascending_values)
      (weaker (λ a. has (values t) a ≡ true) (λ a. a ≤ 255) (λ a h. each_with_value (λ x. x ≤ 255) (flat_map values_of t.outputs) a outputs_small (has_from_order a (flat_map values_of t.outputs) h)) (values t) (each_has (values t)))

  -- so many that a line holds their number
  pub branches_few : length (branches t r) ≤ most_number
  branches_few = let few = few_branches (problem_of t r) few_values in omega (arith, few)
