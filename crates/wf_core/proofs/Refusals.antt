-- Which test fails, by the fields of a worker.
use Rattle.std.proofs.Common.{◌≡◌, ℕ, ◌≤◌, true, false, [], ◌∷◌, refl, sym, ap, ◌∙◌}
use Rattle.std.specs.Prelude.{Option, Some, None, is_some, nat_lt}
use Rattle.std.specs.List.{list_any}
use Rattle.std.specs.Option.{option_map_or}
use Rattle.std.proofs.lemmas.Bool.{false≢true, le-ltb, not_from_true, false_from_ne_true}
use Rattle.std.proofs.lemmas.Option.{same_Some}
use Rattle.wf_core.specs.declared.event.Status.{Status}
use Rattle.wf_core.specs.declared.event.Status.TheVariants as status
use Rattle.wf_core.specs.declared.event.Event.TheVariants.{Take, Cut, End}
use Rattle.wf_core.specs.declared.event.Illegal.TheVariants.{NoWorker, NoBranch, Ended, Busy, NotFree, NotHeld, NotBelow}
use Rattle.wf_core.specs.declared.machine.WorkerState.{WorkerState}
use Rattle.wf_core.specs.Core.{State, Is, IsActive, HoldsNothing, has_worker, has_branch, is_active, is_held_by, is_idle, is_free, holds, has_seen_below, refusal}
use Rattle.wf_core.specs.Fields.{IsWorker}
use Rattle.wf_core.proofs.EventNeeds.{any_at, held_here, free_fact, worker_there, branch_there, active_true, idle_true, holds_true, fails_after}

busy : (s : State) (w : ℕ) (k : WorkerState) (o : Option ℕ) → IsWorker s w k → k.holds ≡ o → is_some o ≡ true → is_idle s w ≡ false
busy s w k None is e some = absurd (false≢true some)
busy s w k (Some i) is e some = not_from_true (list_any (is_held_by w) s.branches) (any_at (is_held_by w) s.branches i (status.Held w) (is.named i e) (held_here w))

idle : (s : State) (w : ℕ) (k : WorkerState) → IsWorker s w k → is_some k.holds ≡ false → HoldsNothing s w
idle s w k is none i h = absurd (false≢true (sym none ∙ ap is_some (is.held i h)))

pub busy_take : (s : State) (w i : ℕ) (k : WorkerState) (x : Status) → IsWorker s w k → IsActive s w → Is s i x → is_some k.holds ≡ true → refusal s (Take w i) ≡ Some Busy
busy_take s w i k x is active at some = fails_after
    ((has_worker s w, NoWorker) ∷ (has_branch s i, NoBranch) ∷ (is_active s w, Ended) ∷ []) (is_idle s w) Busy ((is_free s i, NotFree) ∷ [])
    (worker_there s w active, (branch_there s i x at, (active_true s w active, tt)))
    (busy s w k k.holds is refl some)

pub not_free_take : (s : State) (w i : ℕ) (k : WorkerState) (x : Status) → IsWorker s w k → IsActive s w → Is s i x → is_some k.holds ≡ false → ¬ (x ≡ status.Free)
    → refusal s (Take w i) ≡ Some NotFree
not_free_take s w i k x is active at none apart = fails_after
    ((has_worker s w, NoWorker) ∷ (has_branch s i, NoBranch) ∷ (is_active s w, Ended) ∷ (is_idle s w, Busy) ∷ []) (is_free s i) NotFree []
    (worker_there s w active, (branch_there s i x at, (active_true s w active, (idle_true s w (idle s w k is none), tt))))
    (false_from_ne_true (is_free s i) (λ e. apart (same_Some x status.Free (sym at ∙ free_fact s i e))))

pub not_below_cut : (s : State) (w i : ℕ) (k : WorkerState) → IsWorker s w k → IsActive s w → Is s i (status.Held w) → i ≤ k.seen → refusal s (Cut w i) ≡ Some NotBelow
not_below_cut s w i k is active at above = fails_after
    ((has_worker s w, NoWorker) ∷ (has_branch s i, NoBranch) ∷ (is_active s w, Ended) ∷ (holds s w i, NotHeld) ∷ []) (has_seen_below s w i) NotBelow []
    (worker_there s w active, (branch_there s i (status.Held w) at, (active_true s w active, (holds_true s w i at, tt))))
    (ap (λ (o : Option ℕ). option_map_or (λ n. nat_lt n i) o false) is.seen ∙ le-ltb k.seen i above)

pub busy_end : (s : State) (w : ℕ) (k : WorkerState) → IsWorker s w k → IsActive s w → is_some k.holds ≡ true → refusal s (End w) ≡ Some Busy
busy_end s w k is active some = fails_after
    ((has_worker s w, NoWorker) ∷ (is_active s w, Ended) ∷ []) (is_idle s w) Busy []
    (worker_there s w active, (active_true s w active, tt))
    (busy s w k k.holds is refl some)
