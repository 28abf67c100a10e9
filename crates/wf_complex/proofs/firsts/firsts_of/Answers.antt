use Rattle.std.proofs.Common.{◌≡◌, ◌<◌, ◌≤◌, ◌∷◌, [], ◌++◌, ◌+◌, ◌-◌, ℕ, List, All, length, take, get_or, slice_index, sym, ap, ◌∙◌, arith}
use Rattle.std.proofs.lemmas.List.{get_or_default, map_push, take_more}
use Rattle.std.proofs.lemmas.Option.{slice_get_within}
use Rattle.wf_complex.specs.declared.firsts.First.{First}
use Rattle.wf_complex.specs.declared.layout.ExecutionSlot.{ExecutionSlot}
use Rattle.wf_model.specs.Simplex.{Simplex}
use Rattle.wf_complex.specs.Places.{BelongsTo, IsOn, firsts_at, firsts_in, places_on_all}
use Rattle.wf_complex.proofs.ExecutionsInOrder.{earlier_ended}
use Rattle.wf_complex.proofs.PlaceLemmas.{place_is}
use Rattle.wf_complex.proofs.RuleAt.{got}
use Rattle.wf_complex.proofs.firsts.firsts_of.Goals as goal

abbrev nothing : ExecutionSlot
nothing = record { place = 0; simplex = 0; size = 0 }

-- an execution that has a place, and how far the place is into it
record IsInside (inputs : List Simplex) (es : List ExecutionSlot) (place k : ℕ) : Type 0 where
  low : k < length es
  input : (get_or es k nothing).simplex < length inputs
  begun : (get_or es k nothing).place ≤ place
  ended : place - (get_or es k nothing).place < length (get_or inputs (get_or es k nothing).simplex [])

is_inside : (inputs : List Simplex) (es : List ExecutionSlot) (place k : ℕ) → All (IsOn inputs) es → BelongsTo place es k → IsInside inputs es place k
is_inside inputs es place k on at =
    let low = slice_get_within es k at.execution at.there in
    let same : get_or es k nothing ≡ at.execution = got es k at.execution nothing at.there in
    let here : IsOn inputs (get_or es k nothing) = on k nothing low in
    let begun : (get_or es k nothing).place ≤ place = omega (arith, at.begun, ap (λ (d : ExecutionSlot). d.place) same) in
    record {
      low = low;
      input = here.0;
      begun = begun;
      ended = omega (arith, at.begun, at.before_its_end, ap (λ (d : ExecutionSlot). d.place) same, ap (λ (d : ExecutionSlot). d.size) same, here.1);
    }

pub execution_from-execution-requires-clause-lying : goal.execution_from-execution-requires-clause-lying
execution_from-execution-requires-clause-lying c =
    let (end, lying, within) = c.requires.lying in
    (end, within c.loop-place.place-index 0 c.loop-place-test.true, lying)

pub execution_from-execution-requires-clause-later : goal.execution_from-execution-requires-clause-later
execution_from-execution-requires-clause-later c = c.loop-place.invariant.later c.loop-place-test.true

pub bounds-executions-execution : goal.bounds-executions-execution
bounds-executions-execution c =
    let at = is_inside c.args.inputs.now c.args.executions.now (slice_index c.args.places.now c.loop-place.place-index) c.execution_from-execution.result c.requires.on c.execution_from-execution.ensures in
    at.low

pub bounds-inputs-at : goal.bounds-inputs-at
bounds-inputs-at c =
    let at = is_inside c.args.inputs.now c.args.executions.now (slice_index c.args.places.now c.loop-place.place-index) c.execution_from-execution.result c.requires.on c.execution_from-execution.ensures in
    at.input

pub overflow_sub-place : goal.overflow_sub-place
overflow_sub-place c =
    let at = is_inside c.args.inputs.now c.args.executions.now (slice_index c.args.places.now c.loop-place.place-index) c.execution_from-execution.result c.requires.on c.execution_from-execution.ensures in
    at.begun

pub colour-requires : goal.colour-requires
colour-requires c =
    let inputs = c.args.inputs.now in
    let e = get_or c.args.executions.now c.execution_from-execution.result nothing in
    let at = is_inside inputs c.args.executions.now (slice_index c.args.places.now c.loop-place.place-index) c.execution_from-execution.result c.requires.on c.execution_from-execution.ensures in
    let input : c.index-inputs-at.result ≡ get_or inputs e.simplex [] = c.index-inputs-at.is ∙ get_or_default inputs e.simplex c.index-inputs-at.result [] at.input in
    omega (arith, at.ended, ap (λ (s : Simplex). length s) input)

pub push_reserved-requires : goal.push_reserved-requires
push_reserved-requires c = omega (arith, c.loop-place.invariant.room, c.loop-place.invariant.long, c.loop-place.firsts.ok, c.loop-place-test.true)

pub loop-place-preserved : goal.loop-place-preserved
loop-place-preserved c =
    let (end, lying, within) = c.requires.lying in
    let inputs = c.args.inputs.now in
    let es = c.args.executions.now in
    let places = c.args.places.now in
    let i = c.loop-place.place-index in
    let k = c.execution_from-execution.result in
    let place = slice_index places i in
    let e : ExecutionSlot = get_or es k nothing in
    let at = c.execution_from-execution.ensures in
    let first : First = record { execution = k; process = c.colour.result } in
    let seen : ℕ → ℕ × ℕ = λ j. get_or (places_on_all inputs es) j (0, 0) in
    let there = get_or_default es k nothing e (slice_get_within es k at.execution at.there) in
    let found = place_is inputs end es place k e c.index-inputs-at.result lying c.requires.on at there c.index-inputs-at.is in
    let is : (k, c.colour.result) ≡ seen place = ap (λ p. (k, p)) c.colour.ensures ∙ sym found in
    record {
      room = omega (arith, c.loop-place.invariant.room, c.push_reserved.ensures.capacity);
      long = omega (arith, c.loop-place.invariant.long, c.push_reserved.ensures.len, c.push_reserved.new.self.ok, c.loop-place.firsts.ok);
      later = λ more. earlier_ended end (slice_index places (i + 1)) es lying k place at (omega (arith, c.requires.ascending i (i + 1) 0 (omega arith) more));
      made =
          ap firsts_in c.push_reserved.ensures.items
          ∙ map_push (λ (f : First). (f.execution, f.process)) c.loop-place.firsts.items first
          ∙ (λ n. c.loop-place.invariant.made n ++ is n ∷ [])
          ∙ sym (ap (firsts_at inputs es) (take_more places i 0 c.loop-place-test.true) ∙ map_push seen (take i places) place);
    }
