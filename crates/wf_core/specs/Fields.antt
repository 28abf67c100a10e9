-- What the fields of a `Core` mean.
use Rattle.std.specs.Prelude.{◌≡◌, ℕ, List, map, slice_get, Option, Some}
use Rattle.std.specs.Option.{option_and_then}
use Rattle.wf_core.specs.declared.event.Status.{Status}
use Rattle.wf_core.specs.declared.event.Status.TheVariants.{Held}
use Rattle.wf_core.specs.declared.machine.WorkerState.{WorkerState}
use Rattle.wf_core.specs.Core.{State, Is, Saw}

abbrev pub shown : List Status → List WorkerState → ℕ → State
shown branches workers least =
    record { branches = branches; least = least; seen = map (λ k. k.seen) workers; ended = map (λ k. k.ended) workers }

-- the branch that worker w holds, by its field
abbrev pub holding : List WorkerState → ℕ → Option ℕ
holding workers w = option_and_then (λ k. k.holds) (slice_get workers w)

-- each worker's field names the branch that it holds
pub record IsTied (branches : List Status) (workers : List WorkerState) : Type 0 where
  pub held : (w i : ℕ) → slice_get branches i ≡ Some (Held w) → holding workers w ≡ Some i
  pub named : (w i : ℕ) → holding workers w ≡ Some i → slice_get branches i ≡ Some (Held w)

-- what the fields of worker w say
pub record IsWorker (s : State) (w : ℕ) (k : WorkerState) : Type 0 where
  pub seen : Saw s w k.seen
  pub ended : slice_get s.ended w ≡ Some k.ended
  pub held : (i : ℕ) → Is s i (Held w) → k.holds ≡ Some i
  pub named : (i : ℕ) → k.holds ≡ Some i → Is s i (Held w)
