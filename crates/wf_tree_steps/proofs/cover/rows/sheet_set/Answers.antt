use Rattle.std.proofs.Common.{◌≡◌, ◌+◌, ◌*◌, ap, ◌∙◌, map, arith}
use Rattle.wf_model.specs.Lists.{below, has}
use Rattle.wf_tree_steps.proofs.OfCover.LiftSteps.{all_sheets, name_within, sheet_more}
use Rattle.wf_tree_steps.proofs.cover.rows.sheet_set.Goals as goal

pub name_on-requires : goal.name_on-requires
name_on-requires c =
    let within = name_within c.args.value c.sheets.sheet c.args.sheets c.args.new c.requires.value c.sheets-test.true c.requires.names in
    let same = ap (λ s. c.args.value + s * c.args.new) c.from.ensures in
    omega (arith, within, same)

pub sheets-preserved : goal.sheets-preserved
sheets-preserved c =
    sheet_more (λ sheet. c.args.value + sheet * c.args.new) c.sheets.sheet c.name_on.result c.sheets.set c.with-more.result (c.name_on.ensures ∙ ap (λ s. c.args.value + s * c.args.new) c.from.ensures) c.with-more.ensures c.sheets.invariant

pub returns : goal.returns
returns c =
    let value = c.args.value in
    let new = c.args.new in
    let low = c.requires.value in
    let past = c.sheets-test.false in
    let end = c.sheets.auto.sheet-end in
    let all : c.sheets.sheet ≡ c.args.sheets = omega (arith, past, end) in
    all_sheets value new c.args.sheets c.sheets.set (omega (arith, low)) (λ z. c.sheets.invariant z ∙ ap (λ n. has (map (λ sheet. value + sheet * new) (below n)) z) all)
