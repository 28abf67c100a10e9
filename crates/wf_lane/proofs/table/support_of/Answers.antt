use Rattle.std.proofs.Common.{◌≡◌, List, ℕ, length, arith, subst, ap, ◌∙◌}
use Rattle.std.specs.Prelude.{count_by, slice_index}
use Rattle.wf_base.specs.Set.Parts.{part_values}
use Rattle.wf_base.proofs.OfSet.Lemmas.{values_of_nothing}
use Rattle.wf_lane.specs.Words.{is_live}
use Rattle.wf_lane.specs.Rows.{AreJoined, rows_in}
use Rattle.wf_lane.proofs.RevisedRows.{alive_of, closed_past, supported_of}
use Rattle.wf_lane.proofs.table.support_of.Goals as goal

pub returns-clause-supported : goal.returns-clause-supported
returns-clause-supported c =
    let t = c.args.columns.now in
    let candidates = c.args.candidates in
    let found = c.support_in-found.result in
    let four : length candidates ≡ 4 = omega arith in
    supported_of c.args.width t.first.words.items t.second.words.items t.third.words.items t.fourth.words.items
    c.first_parts.result candidates c.requires.kept four c.first_parts.ensures found.masks c.of_parts.result found.alive
    (subst (λ (s : List ℕ). AreJoined s (rows_in t) found.masks found.alive) c.open_past-sets.ensures c.support_in-found.ensures)
    (λ place. c.of_parts.ensures place ∙ ap (λ parts. part_values (slice_index parts place)) c.clear_past.ensures)

pub returns-clause-rest : goal.returns-clause-rest
returns-clause-rest c = λ place past.
    c.of_parts.ensures place
    ∙ ap (λ parts. part_values (slice_index parts place)) c.clear_past.ensures
    ∙ ap part_values (closed_past c.args.width place c.support_in-found.result.masks c.requires.kept.some past)
    ∙ values_of_nothing

pub returns-clause-alive : goal.returns-clause-alive
returns-clause-alive c =
    let t = c.args.columns.now in
    let candidates = c.args.candidates in
    let four : length candidates ≡ 4 = omega arith in
    alive_of c.args.width t.first.words.items t.second.words.items t.third.words.items t.fourth.words.items
    c.first_parts.result candidates c.requires.kept four c.first_parts.ensures c.support_in-found.result.alive
    (c.support_in-found.ensures.alive ∙ ap (λ s. count_by (is_live s) (rows_in t)) c.open_past-sets.ensures)
