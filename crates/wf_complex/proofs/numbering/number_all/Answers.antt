use Rattle.std.proofs.Common.{◌≡◌, ◌<◌, ◌+◌, [], ◌∷◌, ◌++◌, map, length, get_or, set, slice_index, take, subst, All, arith, ap, sym, refl, ◌∙◌, Some, None, Ok, ℕ, Result}
use Rattle.std.proofs.Math.Seq.{take-length}
use Rattle.std.proofs.lemmas.List.{take_more_set}
use Rattle.std.proofs.lemmas.List.Elements.{All-get_or}
use Rattle.wf_complex.specs.Numbering.{first_places, picked}
use Rattle.wf_complex.proofs.FirstPlaces.{found, one_turn, different_turn, picked_twice, still_there, left_after}
use Rattle.wf_complex.proofs.numbering.number_all.Goals as goal

abbrev of_number : {E : Type 0} → ℕ → Result ℕ E
of_number a = Ok a

ok_same : {E : Type 0} (a b : ℕ) → of_number {E = E} a ≡ Ok b → a ≡ b
ok_same a b h = cc

pub intern-requires-clause-id : goal.intern-requires-clause-id
intern-requires-clause-id c =
    let ids = c.args.ids.items in
    let long : length c.loop-i.places.items ≡ length c.args.ids.items = omega (arith, c.loop-i.invariant.long, c.loop-i.places.ok, c.args.ids.ok) in
    let inside : c.loop-i.i < length c.args.ids.items = omega (arith, c.loop-i-test.true, c.len-i-end.ensures, c.args.ids.ok) in
    let same : c.index-id.result.now ≡ slice_index c.args.ids.items c.loop-i.i = c.index-id.ensures ∙ still_there c.loop-i.places.items ids c.loop-i.i c.index-id.result.now c.loop-i.invariant.left (omega (arith, inside, long)) in
    omega (arith, same, All-get_or (λ x. x < c.args.bound) ids c.loop-i.i 0 inside c.requires.bound, c.loop-i.invariant.numbers)

pub intern-requires-clause-room : goal.intern-requires-clause-room
intern-requires-clause-room c = omega (arith, c.loop-i.invariant.kept.few, c.loop-i.firsts.ok, c.loop-i-test.true, c.len-i-end.ensures, c.args.ids.ok, c.requires.few)

pub loop-i-preserved : goal.loop-i-preserved
loop-i-preserved c =
    let ids = c.args.ids.items in
    let i = c.loop-i.i in
    let id = c.index-id.result.now in
    let ns = c.loop-i.numbers.items in
    let fs = c.loop-i.firsts.items in
    let ds = c.loop-i.different.items in
    let places = c.loop-i.places.items in
    let place = c.in_ok-places.field-0 in
    let long : length c.loop-i.places.items ≡ length c.args.ids.items = omega (arith, c.loop-i.invariant.long, c.loop-i.places.ok, c.args.ids.ok) in
    let inside : c.loop-i.i < length c.args.ids.items = omega (arith, c.loop-i-test.true, c.len-i-end.ensures, c.args.ids.ok) in
    let here : c.loop-i.i < length c.loop-i.places.items = omega (arith, inside, long) in
    let same : c.index-id.result.now ≡ slice_index c.args.ids.items c.loop-i.i = c.index-id.ensures ∙ still_there places ids i id c.loop-i.invariant.left here in
    let low : slice_index c.args.ids.items c.loop-i.i < length c.loop-i.numbers.items = omega (arith, All-get_or (λ x. x < c.args.bound) ids i 0 inside c.requires.bound, c.loop-i.invariant.numbers, c.loop-i.numbers.ok) in
    let read : get_or c.loop-i.numbers.items c.index-id.result.now None ≡ get_or c.loop-i.numbers.items (slice_index c.args.ids.items c.loop-i.i) None = ap (λ x. get_or ns x None) same in
    record {
      numbers = c.intern.ensures.numbers ∙ c.loop-i.invariant.numbers;
      long = c.loop-i.invariant.long;
      left = left_after places ids i place c.loop-i.invariant.left here inside;
      kept = one_turn ids i fs c.intern.new.firsts.items ns c.intern.new.numbers.items (take i places) (take (i + 1) (set places i place)) place
          (get_or ns (slice_index ids i) None) refl low inside
          (λ k e. let m = c.in_ok-places.ensures.met k (read ∙ e) in (ok_same place k m.0, m.1, m.2))
          (λ e. let m = c.in_ok-places.ensures.first (read ∙ e) in (ok_same place (length fs) m.0, m.1 ∙ ap (λ x. set ns x (Some (length fs))) same, m.2))
          (take_more_set places i place here) c.loop-i.invariant.kept;
      different = different_turn ids i fs c.intern.new.firsts.items ds c.intern.new.different.items ns (get_or ns (slice_index ids i) None) refl
          (λ k e. let m = c.in_ok-places.ensures.met k (read ∙ e) in (m.2, m.3))
          (λ e. let m = c.in_ok-places.ensures.first (read ∙ e) in (m.2, m.3 ∙ ap (λ x. ds ++ x ∷ []) same))
          c.loop-i.invariant.different;
    }

pub returns : goal.returns
returns c =
    let ids = c.args.ids.items in
    let fs = c.loop-i.firsts.items in
    let places = c.loop-i.places.items in
    let done : c.loop-i.i ≡ length c.args.ids.items = omega (arith, c.loop-i-test.false, c.loop-i.auto.i-end, c.len-i-end.ensures, c.args.ids.ok) in
    let all : c.loop-i.i ≡ length c.loop-i.places.items = omega (arith, done, c.args.ids.ok, c.loop-i.invariant.long, c.loop-i.places.ok) in
    let whole : take c.loop-i.i c.loop-i.places.items ≡ c.loop-i.places.items = ap (λ n. take n places) all ∙ take-length places in
    let low = subst (All (λ p. p < length fs)) whole c.loop-i.invariant.kept.places in
    record {
      firsts_are = c.loop-i.invariant.kept.firsts ∙ ap (first_places ids) done;
      different_are = c.loop-i.invariant.different;
      low = low;
      found = ap (λ ds. picked ds places) c.loop-i.invariant.different
          ∙ picked_twice ids fs places low
          ∙ ap (map (found ids fs)) (sym whole)
          ∙ c.loop-i.invariant.kept.all_found
          ∙ ap (λ n. take n ids) done
          ∙ take-length ids;
    }
