-- What a `Core` shows after a write to a worker's fields.
use Rattle.std.proofs.Common.{◌≡◌, ℕ, zero, suc, ◌∷◌, replicate, ◌<◌, List, map, set, length, get_or, true, false, refl, sym, ap, ◌∙◌, arith, lt_of_not-le}
use Rattle.std.specs.Prelude.{Some, None, slice_get}
use Rattle.std.specs.Option.{option_and_then, option_map}
use Rattle.std.proofs.lemmas.Option.{none-some, slice_get-map, slice_get_within, slice_get_past}
use Rattle.std.proofs.lemmas.List.{map-set, length-map}
use Rattle.std.proofs.Math.Seq.{map-set_same}
use mathlib.Core.Logic.{dite}
use native.Mathlib.Decide.{dec_le}
use Rattle.wf_core.specs.declared.event.Status.{Status}
use Rattle.wf_core.specs.declared.event.Status.TheVariants.{Free}
use Rattle.wf_core.specs.declared.machine.WorkerState.{WorkerState}
use Rattle.wf_core.specs.Core.{State, IsActive, start}
use Rattle.wf_core.specs.Fields.{shown, holding, IsTied, IsWorker}

-- a worker that holds a branch is there
pub holder_place : (ws : List WorkerState) (w i : ℕ) → holding ws w ≡ Some i → w < length ws
holder_place ws w i h = dite (dec_le (length ws) w)
    (λ past. absurd (none-some i (sym (ap (option_and_then (λ k. k.holds)) (slice_get_past ws w past)) ∙ h)))
    lt_of_not-le

-- an active worker is there
pub active_place : (bs : List Status) (ws : List WorkerState) (l : ℕ) (s : State) (w : ℕ) → shown bs ws l ≡ s → IsActive s w → w < length ws
active_place bs ws l s w view active =
    let n = slice_get_within s.ended w false active in
    let e = ap (λ (x : State). length x.ended) view in
    let m = length-map ws (λ (k : WorkerState). k.ended) in
    omega arith

module _ (bs : List Status) (ws : List WorkerState) (l w : ℕ) (k k' : WorkerState) (read : k ≡ get_or ws w k) where
  pub same_shown : k'.seen ≡ k.seen → k'.ended ≡ k.ended → shown bs (set ws w k') l ≡ shown bs ws l
  same_shown seen ended =
      let a = map-set_same (λ (x : WorkerState). x.seen) ws w k' k (seen ∙ ap (λ (x : WorkerState). x.seen) read) in
      let b = map-set_same (λ (x : WorkerState). x.ended) ws w k' k (ended ∙ ap (λ (x : WorkerState). x.ended) read) in
      λ j. record { branches = bs; least = l; seen = a j; ended = b j }

  pub seen_shown : (n : ℕ) → k'.seen ≡ n → k'.ended ≡ k.ended → shown bs (set ws w k') l ≡ record (shown bs ws l) { seen = set (map (λ x. x.seen) ws) w n }
  seen_shown n seen ended =
      let a = map-set (λ (x : WorkerState). x.seen) ws w k' ∙ ap (set (map (λ (x : WorkerState). x.seen) ws) w) seen in
      let b = map-set_same (λ (x : WorkerState). x.ended) ws w k' k (ended ∙ ap (λ (x : WorkerState). x.ended) read) in
      λ j. record { branches = bs; least = l; seen = a j; ended = b j }

  pub ended_shown : k'.seen ≡ k.seen → k'.ended ≡ true → shown bs (set ws w k') l ≡ record (shown bs ws l) { ended = set (map (λ x. x.ended) ws) w true }
  ended_shown seen ended =
      let a = map-set_same (λ (x : WorkerState). x.seen) ws w k' k (seen ∙ ap (λ (x : WorkerState). x.seen) read) in
      let b = map-set (λ (x : WorkerState). x.ended) ws w k' ∙ ap (set (map (λ (x : WorkerState). x.ended) ws) w) ended in
      λ j. record { branches = bs; least = l; seen = a j; ended = b j }

-- what the fields of a worker say of the state
pub worker_at : (bs : List Status) (ws : List WorkerState) (l : ℕ) (s : State) (w : ℕ) (k : WorkerState) → shown bs ws l ≡ s → IsTied bs ws → slice_get ws w ≡ Some k → IsWorker s w k
worker_at bs ws l s w k view tied at = record {
  seen = sym (ap (λ (x : State). slice_get x.seen w) view) ∙ (slice_get-map (λ (x : WorkerState). x.seen) ws w ∙ ap (option_map (λ (x : WorkerState). x.seen)) at);
  ended = sym (ap (λ (x : State). slice_get x.ended w) view) ∙ (slice_get-map (λ (x : WorkerState). x.ended) ws w ∙ ap (option_map (λ (x : WorkerState). x.ended)) at);
  held = λ i h. sym mine ∙ tied.held w i (ap (λ (x : State). slice_get x.branches i) view ∙ h);
  named = λ i h. sym (ap (λ (x : State). slice_get x.branches i) view) ∙ tied.named w i (mine ∙ h);
} where
  mine : holding ws w ≡ k.holds
  mine = ap (option_and_then (λ x. x.holds)) at

map_replicate : {A B : Type 0} (f : A → B) (n : ℕ) (a : A) → map f (replicate n a) ≡ replicate n (f a)
map_replicate f zero a = refl
map_replicate f (suc n) a = ap (λ (l : List _). f a ∷ l) (map_replicate f n a)

pub start_shown : (bs : List Status) (ws : List WorkerState) (b w : ℕ) → bs ≡ replicate b Free → ws ≡ replicate w (record { seen = b; holds = None; ended = false })
    → shown bs ws b ≡ start b w
start_shown bs ws b w e f =
    let k : WorkerState = record { seen = b; holds = None; ended = false } in
    let seen = ap (map (λ (x : WorkerState). x.seen)) f ∙ map_replicate (λ (x : WorkerState). x.seen) w k in
    let ended = ap (map (λ (x : WorkerState). x.ended)) f ∙ map_replicate (λ (x : WorkerState). x.ended) w k in
    λ j. record { branches = e j; least = b; seen = seen j; ended = ended j }
