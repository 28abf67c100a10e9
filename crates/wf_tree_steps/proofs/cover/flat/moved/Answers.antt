use Rattle.std.proofs.Common.{◌≤◌, get_or, slice_index_or, sym, ap, ◌∙◌, arith}
use Rattle.std.specs.BTreeMap.{get}
use Rattle.std.specs.Ordering.{nat_cmp}
use Rattle.wf_tree_model.specs.Trees.{position}
use Rattle.wf_tree_steps.proofs.OfCover.TurnLemmas.{says_inside, says_none, says_some, sheet_by, went}
use Rattle.wf_tree_steps.proofs.cover.flat.moved.Goals as goal

pub returns-in_default : goal.returns-in_default
returns-in_default c =
    let moves = c.args.round.now.cover.now.moves.items in
    let low : c.args.from ≤ 255 = omega (arith, c.ranges.from.fits) in
    let k = c.move_key-key.ensures in
    let none = says_none moves (get nat_cmp c.args.round.now.turns) c.requires.turns c.args.from c.value.result c.args.to c.value-2.result c.args.sheet low k.value k.second k.other
    c.move_key-key.result k.key c.copied.result (c.copied.ensures ∙ c.get.ensures.value) c.in_default.is in
    went moves c.args.tuple.now c.args.from c.args.to c.args.sheet c.value.result c.value-2.result c.from-in_default.result c.if-from-to.false c.value.ensures c.value-2.ensures (c.from-in_default.ensures ∙ sym none)

pub index-requires : goal.index-requires
index-requires c =
    let moves = c.args.round.now.cover.now.moves.items in
    let low : c.args.from ≤ 255 = omega (arith, c.ranges.from.fits) in
    let k = c.move_key-key.ensures in
    let inside = says_inside moves (get nat_cmp c.args.round.now.turns) c.requires.turns c.args.from c.value.result c.args.to c.value-2.result c.args.sheet low k.value k.second k.other
    c.move_key-key.result k.key c.copied.result (c.in-Some.number, c.in-Some.back) (c.copied.ensures ∙ c.get.ensures.value) c.in-Some.is in
    omega (arith, inside)

pub returns-then-back : goal.returns-then-back
returns-then-back c =
    let moves = c.args.round.now.cover.now.moves.items in
    let low : c.args.from ≤ 255 = omega (arith, c.ranges.from.fits) in
    let k = c.move_key-key.ensures in
    let some = says_some moves (get nat_cmp c.args.round.now.turns) c.requires.turns c.args.from c.value.result c.args.to c.value-2.result c.args.sheet low k.value k.second k.other
    c.move_key-key.result k.key c.copied.result (c.in-Some.number, c.in-Some.back) (c.copied.ensures ∙ c.get.ensures.value) c.in-Some.is c.index.result.now in
    let sheets = c.as_slice-sheets.ensures.value ∙ ap (λ m. m.sheets.items) c.index.ensures in
    went moves c.args.tuple.now c.args.from c.args.to c.args.sheet c.value.result c.value-2.result c.position.result c.if-from-to.false c.value.ensures c.value-2.ensures
    (c.position.ensures ∙ ap (position c.args.sheet) sheets ∙ ap (λ b. sheet_by b (get_or moves c.in-Some.number c.index.result.now).sheets.items c.args.sheet) (sym c.if-back.true) ∙ sym some)

pub returns-else-back : goal.returns-else-back
returns-else-back c =
    let moves = c.args.round.now.cover.now.moves.items in
    let low : c.args.from ≤ 255 = omega (arith, c.ranges.from.fits) in
    let k = c.move_key-key.ensures in
    let some = says_some moves (get nat_cmp c.args.round.now.turns) c.requires.turns c.args.from c.value.result c.args.to c.value-2.result c.args.sheet low k.value k.second k.other
    c.move_key-key.result k.key c.copied.result (c.in-Some.number, c.in-Some.back) (c.copied.ensures ∙ c.get.ensures.value) c.in-Some.is c.index.result.now in
    let sheets = c.as_slice-sheets.ensures.value ∙ ap (λ m. m.sheets.items) c.index.ensures in
    went moves c.args.tuple.now c.args.from c.args.to c.args.sheet c.value.result c.value-2.result c.sheet_at.result c.if-from-to.false c.value.ensures c.value-2.ensures
    (c.sheet_at.ensures ∙ ap (λ ss. slice_index_or ss c.args.sheet 0) sheets ∙ ap (λ b. sheet_by b (get_or moves c.in-Some.number c.index.result.now).sheets.items c.args.sheet) (sym c.if-back.false) ∙ sym some)
