use Rattle.std.proofs.Common.{◌≡◌, ◌<◌, [], ◌∷◌, ◌++◌, length, slice_index, take, sym, ap, ◌∙◌, arith}
use Rattle.std.proofs.Math.Seq.{take-length}
use Rattle.std.proofs.lemmas.List.{map-append, take_more, take_more_set}
use Rattle.std.proofs.lemmas.List.Elements.{All-get_or}
use Rattle.wf_complex.specs.Numbering.{picked}
use Rattle.wf_complex.proofs.FirstPlaces.{still_there, left_after}
use Rattle.wf_complex.proofs.classes.gather_in_place.Goals as goal

pub bounds-ids-index : goal.bounds-ids-index
bounds-ids-index c =
    let places = c.args.places.items in
    let long : length c.loop-i.numbers.items ≡ length c.args.places.items = omega (arith, c.loop-i.invariant.long, c.loop-i.numbers.ok, c.args.places.ok) in
    let inside : c.loop-i.i < length c.args.places.items = omega (arith, c.loop-i-test.true, c.len-i-end.ensures, c.args.places.ok) in
    let same : c.index.result.now ≡ slice_index c.args.places.items c.loop-i.i = c.index.ensures ∙ still_there c.loop-i.numbers.items places c.loop-i.i c.index.result.now c.loop-i.invariant.left (omega (arith, inside, long)) in
    omega (arith, same, All-get_or (λ p. p < length c.args.ids.now) places c.loop-i.i 0 inside c.requires)

pub loop-i-preserved : goal.loop-i-preserved
loop-i-preserved c =
    let ids = c.args.ids.now in
    let places = c.args.places.items in
    let now = c.loop-i.numbers.items in
    let i = c.loop-i.i in
    let y = slice_index ids c.index.result.now in
    let long : length c.loop-i.numbers.items ≡ length c.args.places.items = omega (arith, c.loop-i.invariant.long, c.loop-i.numbers.ok, c.args.places.ok) in
    let inside : c.loop-i.i < length c.args.places.items = omega (arith, c.loop-i-test.true, c.len-i-end.ensures, c.args.places.ok) in
    let here : c.loop-i.i < length c.loop-i.numbers.items = omega (arith, inside, long) in
    let same : c.index.result.now ≡ slice_index c.args.places.items c.loop-i.i = c.index.ensures ∙ still_there now places i c.index.result.now c.loop-i.invariant.left here in
    record {
      long = c.loop-i.invariant.long;
      left = left_after now places i y c.loop-i.invariant.left here inside;
      made = take_more_set now i y here
          ∙ (λ k. c.loop-i.invariant.made k ++ slice_index ids (same k) ∷ [])
          ∙ sym (ap (picked ids) (take_more places i 0 inside) ∙ map-append (λ p. slice_index ids p) (take i places) (slice_index places i ∷ []));
    }

pub returns : goal.returns
returns c =
    let places = c.args.places.items in
    let now = c.loop-i.numbers.items in
    let done : c.loop-i.i ≡ length c.args.places.items = omega (arith, c.loop-i-test.false, c.loop-i.auto.i-end, c.len-i-end.ensures, c.args.places.ok) in
    let all : c.loop-i.i ≡ length c.loop-i.numbers.items = omega (arith, done, c.args.places.ok, c.loop-i.invariant.long, c.loop-i.numbers.ok) in
    sym (ap (λ n. take n now) all ∙ take-length now)
    ∙ c.loop-i.invariant.made
    ∙ ap (picked c.args.ids.now) (ap (λ n. take n places) done ∙ take-length places)
