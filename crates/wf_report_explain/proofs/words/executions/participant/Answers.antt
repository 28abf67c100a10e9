use Rattle.std.proofs.Common.{get_or, sym, ap, ◌∙◌}
use Rattle.wf_model.specs.Simplex.{values_of}
use Rattle.wf_simplex.specs.Entries.{value_at}
use Rattle.wf_task.proofs.Lemmas.{pair_at, inner, value_there}
use Rattle.wf_report_explain.specs.Words.Text.{named}
use Rattle.wf_report_explain.proofs.OfWords.ExecutionPlaces.{rank_at}
use Rattle.wf_report_explain.proofs.words.executions.participant.Goals as goal

pub unreachable-requires : goal.unreachable-requires
unreachable-requires c =
    let s = c.args.simplex.now in
    let there = value_there s c.args.place c.requires.simplex c.requires.place in
    c.in_default.not-Some (get_or (values_of s) c.args.place 0) (c.value.ensures ∙ ap (value_at s) c.colour-process.ensures ∙ there)

pub returns-then-ranks : goal.returns-then-ranks
returns-then-ranks c =
    let s = c.args.simplex.now in let place = c.args.place in
    let there = value_there s place c.requires.simplex c.requires.place in
    let value = inner (sym c.in-Some.is ∙ c.value.ensures ∙ ap (value_at s) c.colour-process.ensures ∙ there) in
    ap (λ x. (place, x)) value ∙ sym (rank_at s place c.requires.place) ∙ ap (λ b. get_or (named b s) place (0, 0)) (sym c.if-ranks.true)

pub returns-else-ranks : goal.returns-else-ranks
returns-else-ranks c =
    let s = c.args.simplex.now in let place = c.args.place in
    let there = value_there s place c.requires.simplex c.requires.place in
    let value = inner (sym c.in-Some.is ∙ c.value.ensures ∙ ap (value_at s) c.colour-process.ensures ∙ there) in
    (λ j. (c.colour-process.ensures j, value j)) ∙ sym (pair_at s place c.requires.place) ∙ ap (λ b. get_or (named b s) place (0, 0)) (sym c.if-ranks.false)
