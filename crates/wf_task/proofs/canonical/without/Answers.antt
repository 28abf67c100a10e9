use Rattle.std.specs.Prelude.{remove}
use Rattle.std.proofs.Common.{◌≡◌, ◌<◌, ◌-◌, None, length, take, get_or, sym, ap, ◌∙◌, subst, arith, length-set}
use Rattle.wf_simplex.specs.Reading.{read_fault}
use Rattle.wf_simplex.proofs.Lemmas.{read_fault-within}
use Rattle.wf_task.proofs.CanonicalLoops.{before_below, kept_step, kept_within, kept_all}
use Rattle.wf_task.proofs.canonical.without.Goals as goal

pub vertex-requires-clause-place : goal.vertex-requires-clause-place
vertex-requires-clause-place c =
    let s = c.args.simplex.now in
    let low : c.loop-place.place < length s - 1 = omega (arith, c.loop-place-test.true, c.colours-size.ensures.count) in
    subst (λ k. k < length s) (sym c.index_before_removal.ensures) (before_below c.args.left_out c.loop-place.place (length s) c.requires.place low)

pub loop-place-preserved : goal.loop-place-preserved
loop-place-preserved c =
    let s = c.args.simplex.now in
    let low : c.loop-place.place < length s - 1 = omega (arith, c.loop-place-test.true, c.colours-size.ensures.count) in
    let room : c.loop-place.place < length c.loop-place.pairs = omega (arith, c.loop-place-test.true, c.colours-size.ensures.few, c.loop-place.invariant.four) in
    record {
      four = length-set c.loop-place.pairs c.loop-place.place _ ∙ c.loop-place.invariant.four;
      made = kept_step c.loop-place.pairs s c.args.left_out c.loop-place.place c.vertex.result c.requires.place low room (c.vertex.ensures ∙ ap (λ k. get_or s k (0, 0)) c.index_before_removal.ensures) c.loop-place.invariant.made;
    }

pub unreachable-requires : goal.unreachable-requires
unreachable-requires c =
    let s = c.args.simplex.now in
    let n = c.colours-size.result - 1 in
    let made = kept_all c.loop-place.pairs s c.args.left_out n c.loop-place.place c.requires.place (ap (λ k. k - 1) c.colours-size.ensures.count) c.loop-place-test.false c.loop-place.auto.place-end c.loop-place.invariant.made in
    let none : read_fault (take n c.loop-place.pairs) ≡ None = ap read_fault made ∙ read_fault-within (remove s c.args.left_out) (kept_within s c.args.left_out c.requires.place c.requires.others c.colours-size.ensures.simplex) in
    let some = c.in-Err.ensures in
    cc (none, some)

pub returns : goal.returns
returns c =
    c.in-Ok.ensures.1
    ∙ kept_all c.loop-place.pairs c.args.simplex.now c.args.left_out (c.colours-size.result - 1) c.loop-place.place c.requires.place (ap (λ k. k - 1) c.colours-size.ensures.count) c.loop-place-test.false c.loop-place.auto.place-end c.loop-place.invariant.made
