-- Executions with their points.
use Rattle.std.specs.Prelude.{◌≡◌, ◌<◌, ◌≤◌, ℕ, List, [], ◌++◌, length, zip, take, slice_index, replicate}
use Rattle.std.specs.List.{slice_index_or}
use Rattle.wf_model.specs.Simplex.{Simplex, processes_of}
use Rattle.wf_complex.specs.declared.layout.ExecutionSlot.{ExecutionSlot}
use Rattle.wf_complex.specs.declared.packed.PackedExecution.{PackedExecution}
use Rattle.wf_complex.specs.Places.{part_of}

-- these points, and then the first of them again
abbrev pub four_of : List ℕ → List ℕ
four_of points = take 4 (points ++ replicate 4 (slice_index points 0))

-- the execution at these places
abbrev pub packed_on : List ℕ → ExecutionSlot → PackedExecution
packed_on numbers e = record { simplex = e.simplex; points = four_of (part_of numbers e) }

-- its processes, each with its point
abbrev pub scope_in : List Simplex → PackedExecution → List (ℕ × ℕ)
scope_in inputs e = zip (processes_of (slice_index_or inputs e.simplex [])) e.points

-- an execution on one of these simplices, with its points and then the first again
pub record IsPackedOn (inputs : List Simplex) (e : PackedExecution) : Type 0 where
  pub simplex : e.simplex < length inputs
  pub long : length e.points ≡ 4
  pub few : length (slice_index_or inputs e.simplex []) ≤ 4
  pub four : four_of (take (length (slice_index_or inputs e.simplex [])) e.points) ≡ e.points
