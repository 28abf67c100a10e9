use Rattle.std.proofs.Common.{map, vec_items, sym, ap, ◌∙◌, subst, arith}
use Rattle.wf_tree_refine.specs.AtHand.{at_hand}
use Rattle.wf_tree_refine.proofs.Lemmas.{rule_found}
use Rattle.wf_tree_steps.specs.Cover.Faults.{cover_seen, flat_fault}
use Rattle.wf_tree_steps.specs.Cover.Turns.{IsGoing}
use Rattle.wf_tree_steps.proofs.OfCover.FaultSteps.{as_flat, going, no_corner, no_sheet, one_participant, size_here, tuples_here}
use Rattle.wf_tree_steps.proofs.cover.flat.cover_fault.Goals as goal

pub returns-then-size-lt2 : goal.returns-then-size-lt2
returns-then-size-lt2 c =
    let t = at_hand c.args.task.now (map vec_items c.args.rows.now) in
    let s = c.index-simplices-simplex.result in
    let tuples = c.index-rows-simplex.result in
    let found =
    rule_found c.args.task.now vec_items c.args.rows.now c.args.cover.now.simplex c.simplices.result.now s tuples c.requires.at_hand c.requires.simplex
    (c.simplices.ensures.simplices ∙ c.inputs.ensures.inputs) c.index-simplices-simplex.is c.index-rows-simplex.is in
    let size = c.colours-size.ensures.count ∙ sym (size_here t c.args.cover.now s tuples.items found.0) in
    one_participant (cover_seen t c.args.cover.now) (omega (arith, size, c.if-size-lt2.true))

pub returns-then-cover-size : goal.returns-then-cover-size
returns-then-cover-size c =
    let t = at_hand c.args.task.now (map vec_items c.args.rows.now) in
    let s = c.index-simplices-simplex.result in
    let tuples = c.index-rows-simplex.result in
    let found =
    rule_found c.args.task.now vec_items c.args.rows.now c.args.cover.now.simplex c.simplices.result.now s tuples c.requires.at_hand c.requires.simplex
    (c.simplices.ensures.simplices ∙ c.inputs.ensures.inputs) c.index-simplices-simplex.is c.index-rows-simplex.is in
    let size = c.colours-size.ensures.count ∙ sym (size_here t c.args.cover.now s tuples.items found.0) in
    no_corner (cover_seen t c.args.cover.now) (omega (arith, size, c.if-size-lt2.false)) (omega (arith, size, c.if-cover-size.true))

pub returns-then-cover-eq0 : goal.returns-then-cover-eq0
returns-then-cover-eq0 c =
    let t = at_hand c.args.task.now (map vec_items c.args.rows.now) in
    let s = c.index-simplices-simplex.result in
    let tuples = c.index-rows-simplex.result in
    let found =
    rule_found c.args.task.now vec_items c.args.rows.now c.args.cover.now.simplex c.simplices.result.now s tuples c.requires.at_hand c.requires.simplex
    (c.simplices.ensures.simplices ∙ c.inputs.ensures.inputs) c.index-simplices-simplex.is c.index-rows-simplex.is in
    let size = c.colours-size.ensures.count ∙ sym (size_here t c.args.cover.now s tuples.items found.0) in
    no_sheet (cover_seen t c.args.cover.now) (omega (arith, size, c.if-size-lt2.false)) (omega (arith, size, c.if-cover-size.false)) c.if-cover-eq0.true

pub returns : goal.returns
returns c =
    let t = at_hand c.args.task.now (map vec_items c.args.rows.now) in
    let s = c.index-simplices-simplex.result in
    let tuples = c.index-rows-simplex.result in
    let found =
    rule_found c.args.task.now vec_items c.args.rows.now c.args.cover.now.simplex c.simplices.result.now s tuples c.requires.at_hand c.requires.simplex
    (c.simplices.ensures.simplices ∙ c.inputs.ensures.inputs) c.index-simplices-simplex.is c.index-rows-simplex.is in
    let size = c.colours-size.ensures.count ∙ sym (size_here t c.args.cover.now s tuples.items found.0) in
    let of = cover_seen t c.args.cover.now in
    let same = c.deref-2.ensures.value in
    c.flat_fault.ensures of (subst (IsGoing of c.args.cover.now) (sym same) (going t c.args.cover.now s tuples.items found.0 found.1))
    ∙ ap (flat_fault of 0) (same ∙ sym (tuples_here t c.args.cover.now s tuples.items found.0))
    ∙ as_flat of (omega (arith, size, c.if-size-lt2.false)) (omega (arith, size, c.if-cover-size.false)) c.if-cover-eq0.false
