-- Which places belong to an execution, and which process stands at each of them.
use Rattle.std.specs.Prelude.{◌≡◌, ◌<◌, ◌≤◌, ◌+◌, ℕ, List, [], ◌∷◌, Some, length, map, flat_map, zip, take, drop, slice_get}
use Rattle.std.specs.List.{enumerate_from, slice_index_or}
use Rattle.wf_model.specs.Simplex.{Simplex, processes_of}
use Rattle.wf_complex.specs.declared.layout.ExecutionSlot.{ExecutionSlot}
use Rattle.wf_complex.specs.declared.firsts.First.{First}

-- what stands at the places of an execution
abbrev pub part_of : {X : Type 0} → List X → ExecutionSlot → List X
part_of xs e = take e.size (drop e.place xs)

-- an execution whose places are among the first n
abbrev pub EndsBy : ℕ → ExecutionSlot → Type 0
EndsBy n e = e.place + e.size ≤ n

-- these executions lie one after another, from the first place up to the end
abbrev pub LieFrom : ℕ → ℕ → List ExecutionSlot → Type 0
LieFrom first end [] = first ≡ end
LieFrom first end (e ∷ es) = (e.place ≡ first) × LieFrom (first + e.size) end es

-- the place is one of the execution of this number
pub record BelongsTo (place : ℕ) (es : List ExecutionSlot) (number : ℕ) : Type 0 where
  pub execution : ExecutionSlot
  pub there : slice_get es number ≡ Some execution
  pub begun : execution.place ≤ place
  pub before_its_end : place < execution.place + execution.size

-- an execution on one of these simplices: it has a place for each of its processes
abbrev pub IsOn : List Simplex → ExecutionSlot → Type 0
IsOn inputs e = (e.simplex < length inputs) × (e.size ≡ length (slice_index_or inputs e.simplex []))

-- the processes of an execution
abbrev pub processes_on : List Simplex → ExecutionSlot → List ℕ
processes_on inputs e = processes_of (slice_index_or inputs e.simplex [])

-- the processes of an execution, each with its point
abbrev pub scope_on : List Simplex → List ℕ → ExecutionSlot → List (ℕ × ℕ)
scope_on inputs numbers e = zip (processes_on inputs e) (part_of numbers e)

-- the execution and the process of each place of an execution that has a number
abbrev pub places_on : List Simplex → ℕ × ExecutionSlot → List (ℕ × ℕ)
places_on inputs at = map (λ c. (at.0, c)) (processes_on inputs at.1)

-- those of all places of these executions, numbered from 0 on
abbrev pub places_on_all : List Simplex → List ExecutionSlot → List (ℕ × ℕ)
places_on_all inputs es = flat_map (places_on inputs) (enumerate_from 0 es)

-- the execution and the process of these places
abbrev pub firsts_at : List Simplex → List ExecutionSlot → List ℕ → List (ℕ × ℕ)
firsts_at inputs es places = map (λ j. slice_index_or (places_on_all inputs es) j (0, 0)) places

-- those that are written down
abbrev pub firsts_in : List First → List (ℕ × ℕ)
firsts_in firsts = map (λ first. (first.execution, first.process)) firsts
