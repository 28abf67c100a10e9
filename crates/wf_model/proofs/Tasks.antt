-- The two halves of what a task has, and simplices within limits.
use Rattle.std.proofs.Common.{ℕ, List, All}
use Rattle.wf_model.specs.Simplex.{Simplex}
use Rattle.wf_model.specs.Task.{Task, inputs, largest_value, IsTask, IsSimplexOn, IsComplexOn, IsSimplexWithin, IsComplexWithin, HasValuesUpTo}

simplices_within : (n largest : ℕ) (ss : List Simplex) → All (IsSimplexOn n) ss → All (HasValuesUpTo largest) ss → All (IsSimplexWithin n largest) ss
simplices_within n largest ss on small = λ i d low.
    record { is_simplex = (on i d low).is_simplex; processes = (on i d low).processes; values = small i d low }

pub inputs_within : (t : Task) → IsTask t → All (IsSimplexWithin t.processes (largest_value t.least_block)) (inputs t)
inputs_within t task = simplices_within t.processes (largest_value t.least_block) (inputs t) task.decision.input_complex.on task.limits.input_values

pub outputs_within : (t : Task) → IsTask t → All (IsSimplexWithin t.processes (largest_value t.least_block)) t.outputs
outputs_within t task = simplices_within t.processes (largest_value t.least_block) t.outputs task.decision.output_complex.on task.limits.output_values

pub inputs_are : (t : Task) → IsTask t → IsComplexWithin t.processes (largest_value t.least_block) (inputs t)
inputs_are t task = record { is_complex = task.decision.input_complex.is_complex; within = inputs_within t task }

pub on_processes : (n largest : ℕ) (ss : List Simplex) → IsComplexWithin n largest ss → IsComplexOn n ss
on_processes n largest ss h = record {
  is_complex = h.is_complex;
  on = λ i d low. record { is_simplex = (h.within i d low).is_simplex; processes = (h.within i d low).processes };
}

pub up_to : (n largest : ℕ) (ss : List Simplex) → IsComplexWithin n largest ss → All (HasValuesUpTo largest) ss
up_to n largest ss h = λ i d low. (h.within i d low).values
