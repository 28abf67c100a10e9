use Rattle.std.proofs.Common.{◌≡◌, ◌+◌, ◌*◌, ◌∷◌, [], true, false, map, ap, ◌∙◌, sym}
use Rattle.std.specs.Prelude.{◌/◌, ◌%◌}
use Rattle.std.specs.Option.{is_some}
use Rattle.std.proofs.lemmas.Bool.{cond-true, cond-false}
use Rattle.wf_model.specs.Lists.{below, has}
use Rattle.wf_model.specs.Simplex.{processes_of}
use Rattle.wf_tree_steps.proofs.OfCover.LiftSteps.{is_placed}
use Rattle.wf_tree_steps.proofs.cover.rows.set_at.Goals as goal

pub returns : goal.returns
returns c = λ low.
    let ps = processes_of c.args.simplex.now in
    let process = c.args.place / 256 in
    let value = c.args.place % 256 in
    let has_it : has ps process ≡ true = sym (is_placed 0 process ps) ∙ ap is_some (sym c.place.ensures) ∙ c.if-is_none.ensures in
    c.sheet_set.ensures ∙ sym (cond-true (has ps process) (map (λ sheet. value + sheet * c.args.new) (below c.args.sheets)) (value ∷ []) has_it)

pub returns-then-is_none : goal.returns-then-is_none
returns-then-is_none c = λ low.
    let ps = processes_of c.args.simplex.now in
    let process = c.args.place / 256 in
    let value = c.args.place % 256 in
    let lacks : has ps process ≡ false = sym (is_placed 0 process ps) ∙ ap is_some (sym c.place.ensures) ∙ c.if-is_none.ensures in
    c.singleton-then-is_none.ensures ∙ sym (cond-false (has ps process) (map (λ sheet. value + sheet * c.args.new) (below c.args.sheets)) (value ∷ []) lacks)
