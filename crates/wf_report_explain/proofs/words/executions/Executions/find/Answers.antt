use Rattle.std.proofs.Common.{◌≡◌, ◌-◌, [], length, slice_index_or, vec_items, ap, sym, ◌∙◌, arith}
use Rattle.std.proofs.lemmas.Option.{slice_get_within, get_or_from_slice_get}
use Rattle.wf_model.specs.Lists.{lists_of}
use Rattle.wf_model.specs.Task.{first_block, inputs}
use Rattle.wf_model.specs.Word.{words}
use Rattle.wf_report_explain.specs.declared.words.executions.ExecutionRange.{ExecutionRange}
use Rattle.wf_report_explain.specs.Words.Table.{Table, spans_of}
use Rattle.wf_report_explain.specs.Words.Text.{words_text}
use Rattle.wf_report_explain.proofs.OfWords.ExecutionPlaces.{as_many, found_there, looked_up, simplex_at, simplex_low, words_at, words_low}
use Rattle.wf_report_explain.proofs.words.executions.Executions.find.Goals as goal

pub simplex_of-number-requires : goal.simplex_of-number-requires
simplex_of-number-requires c = omega (arith, c.requires.execution, as_many c.args.task.now c.args.protocol.now.rounds c.args.protocol.now c.requires.protocol)

pub bounds-simplices-number : goal.bounds-simplices-number
bounds-simplices-number c =
    let t = c.args.task.now in
    let f = found_there t c.args.protocol.now.rounds c.args.protocol.now c.args.execution c.simplex_of-number.result c.requires.protocol c.simplex_of-number.ensures in
    simplex_low t c.simplex_of-number.result f.rule c.simplices.result.now f.rule_there (c.simplices.ensures.simplices ∙ c.inputs.ensures.inputs)

pub bounds-spans-number : goal.bounds-spans-number
bounds-spans-number c =
    let t = c.args.task.now in
    let r = c.args.protocol.now.rounds in
    let s = c.simplex_of-number.result in
    let f = found_there t r c.args.protocol.now c.args.execution s c.requires.protocol c.simplex_of-number.ensures in
    let spans : c.as_slice-spans.result.now ≡ spans_of (first_block t) r 0 (inputs t) = c.as_slice-spans.ensures.value ∙ ap (λ (x : Table). x.spans) (c.self.view_is ∙ c.requires.table) in
    omega (arith, slice_get_within (spans_of (first_block t) r 0 (inputs t)) s f.span f.span_there, ap length spans)

pub bounds-table-colours : goal.bounds-table-colours
bounds-table-colours c =
    words_low vec_items (first_block c.args.task.now) c.colours.result c.as_slice-table.result.now c.self.inside.words.items c.as_slice-table.ensures.value
    (ap (λ (x : Table). x.words) (c.self.view_is ∙ c.requires.table)) c.colours.ensures.some c.colours.ensures.few

pub overflow_sub-result : goal.overflow_sub-result
overflow_sub-result c =
    let t = c.args.task.now in
    let r = c.args.protocol.now.rounds in
    let s = c.simplex_of-number.result in
    let f = found_there t r c.args.protocol.now c.args.execution s c.requires.protocol c.simplex_of-number.ensures in
    let spans : c.as_slice-spans.result.now ≡ spans_of (first_block t) r 0 (inputs t) = c.as_slice-spans.ensures.value ∙ ap (λ (x : Table). x.spans) (c.self.view_is ∙ c.requires.table) in
    let span = ap (λ xs. slice_index_or xs s (record { first = 0; count = 0 })) spans ∙ get_or_from_slice_get (spans_of (first_block t) r 0 (inputs t)) s f.span (record { first = 0; count = 0 }) f.span_there in
    omega (arith, ap (λ (x : ExecutionRange). x.first) span, f.begun)

pub returns-clause-whole : goal.returns-clause-whole
returns-clause-whole c =
    let t = c.args.task.now in
    let r = c.args.protocol.now.rounds in
    let s = c.simplex_of-number.result in
    let m = first_block t in
    let f = found_there t r c.args.protocol.now c.args.execution s c.requires.protocol c.simplex_of-number.ensures in
    let spans : c.as_slice-spans.result.now ≡ spans_of m r 0 (inputs t) = c.as_slice-spans.ensures.value ∙ ap (λ (x : Table). x.spans) (c.self.view_is ∙ c.requires.table) in
    let span = ap (λ xs. slice_index_or xs s (record { first = 0; count = 0 })) spans ∙ get_or_from_slice_get (spans_of m r 0 (inputs t)) s f.span (record { first = 0; count = 0 }) f.span_there in
    let simplex = simplex_at t s f.rule c.simplices.result.now c.index-simplices-number.result f.rule_there (c.simplices.ensures.simplices ∙ c.inputs.ensures.inputs) c.index-simplices-number.is in
    let ws : c.as_slice-words.result.now ≡ words m c.colours.result =
    words_at vec_items m c.colours.result (c.colours.result - 1) c.as_slice-table.result.now c.self.inside.words.items c.index-table-colours.result c.as_slice-words.result.now c.as_slice-table.ensures.value
    (ap (λ (x : Table). x.words) (c.self.view_is ∙ c.requires.table)) c.colours.ensures.some c.colours.ensures.few (omega arith) c.index-table-colours.is c.as_slice-words.ensures.value in
    let are : c.as_slice-words.result.now ≡ words m (length f.rule.input) = ws ∙ ap (words m) (c.colours.ensures.count ∙ ap length simplex) in
    let l = looked_up t r c.args.execution s c.index-simplices-number.result (slice_index_or c.as_slice-spans.result.now s (record { first = 0; count = 0 })) c.as_slice-words.result.now f simplex span are in
    record { count = l.count ∙ ap (λ n. length (lists_of c.as_slice-words.result.now n)) (sym c.rounds.ensures); place = l.place; long = l.long }

pub returns-clause-text : goal.returns-clause-text
returns-clause-text c =
    let t = c.args.task.now in
    let r = c.args.protocol.now.rounds in
    let s = c.simplex_of-number.result in
    let m = first_block t in
    let f = found_there t r c.args.protocol.now c.args.execution s c.requires.protocol c.simplex_of-number.ensures in
    let spans : c.as_slice-spans.result.now ≡ spans_of m r 0 (inputs t) = c.as_slice-spans.ensures.value ∙ ap (λ (x : Table). x.spans) (c.self.view_is ∙ c.requires.table) in
    let span = ap (λ xs. slice_index_or xs s (record { first = 0; count = 0 })) spans ∙ get_or_from_slice_get (spans_of m r 0 (inputs t)) s f.span (record { first = 0; count = 0 }) f.span_there in
    let simplex = simplex_at t s f.rule c.simplices.result.now c.index-simplices-number.result f.rule_there (c.simplices.ensures.simplices ∙ c.inputs.ensures.inputs) c.index-simplices-number.is in
    let ws : c.as_slice-words.result.now ≡ words m c.colours.result =
    words_at vec_items m c.colours.result (c.colours.result - 1) c.as_slice-table.result.now c.self.inside.words.items c.index-table-colours.result c.as_slice-words.result.now c.as_slice-table.ensures.value
    (ap (λ (x : Table). x.words) (c.self.view_is ∙ c.requires.table)) c.colours.ensures.some c.colours.ensures.few (omega arith) c.index-table-colours.is c.as_slice-words.ensures.value in
    let are : c.as_slice-words.result.now ≡ words m (length f.rule.input) = ws ∙ ap (words m) (c.colours.ensures.count ∙ ap length simplex) in
    let l = looked_up t r c.args.execution s c.index-simplices-number.result (slice_index_or c.as_slice-spans.result.now s (record { first = 0; count = 0 })) c.as_slice-words.result.now f simplex span are in
    let place = c.args.execution - (slice_index_or c.as_slice-spans.result.now s (record { first = 0; count = 0 })).first in
    λ names. ap (λ n. words_text (names c.index-simplices-number.result) (slice_index_or (lists_of c.as_slice-words.result.now n) place [])) c.rounds.ensures ∙ l.text names
