use Rattle.std.proofs.Common.{◌+◌, Some, cond, drop, sym, ap, ◌∙◌}
use Rattle.wf_tree_steps.specs.declared.cover.cover.CoverFault.TheVariants.{NotFlat}
use Rattle.wf_tree_steps.specs.Cover.Faults.{flat_fault}
use Rattle.wf_tree_steps.proofs.OfCover.Rounds.{tuple_next}
use Rattle.wf_tree_steps.proofs.cover.flat.flat_fault.Goals as goal

pub returns-then-not-is_flat_tuple : goal.returns-then-not-is_flat_tuple
returns-then-not-is_flat_tuple c = λ of going.
    let ys = c.args.tuples.now in
    let i = c.tuples.place in
    sym (sym (c.tuples.invariant of going)
    ∙ tuple_next of c.args.round.now.cover.now ys i c.index-tuples-place.result c.is_flat_tuple.result going c.tuples-test.true c.index-tuples-place.is c.is_flat_tuple.ensures
    ∙ ap (λ b. cond b (flat_fault of (i + 1) (drop (i + 1) ys)) (Some (NotFlat i))) c.if-not-is_flat_tuple.true)

pub tuples-preserved : goal.tuples-preserved
tuples-preserved c = λ of going.
    let ys = c.args.tuples.now in
    let i = c.tuples.place in
    sym (tuple_next of c.args.round.now.cover.now ys i c.index-tuples-place.result c.is_flat_tuple.result going c.tuples-test.true c.index-tuples-place.is c.is_flat_tuple.ensures
    ∙ ap (λ b. cond b (flat_fault of (i + 1) (drop (i + 1) ys)) (Some (NotFlat i))) c.if-not-is_flat_tuple.false)
    ∙ c.tuples.invariant of going
