use Rattle.std.proofs.Common.{◌≡◌, suc, ◌+◌, ◌∙◌, ◌∷◌, [], length, length-append, map, option_map, sym, ap, arith}
use Rattle.std.proofs.lemmas.List.{map-append}
use Rattle.wf_model.specs.Report.{lines_of, same_text}
use Rattle.wf_base.specs.Lines.Lines.{line_of}
use Rattle.wf_report.specs.Steps.{step_in}
use Rattle.wf_report.proofs.BodyLemmas.{after_end, at_bad, at_cut_off, at_end, at_item, gathered, items_from, none_before, steps_are, steps_of_lines}
use Rattle.wf_report.proofs.reading.read_lines.Goals as goal

pub lines-init : goal.lines-init
lines-init c =
    let item = step_in c.args.part in
    let ls = lines_of c.args.text.now in (
      ap (λ xs. gathered (λ xs. xs) (map line_of xs) (items_from item c.args.first ls)) c.new-lines.ensures.items ∙ none_before (items_from item c.args.first ls) ∙ sym (steps_are item c.args.first ls),
      omega arith,
      omega (arith, ap length c.new-lines.ensures.items),
    )

pub returns-then-not-is_end-clause-lines : goal.returns-then-not-is_end-clause-lines
returns-then-not-is_end-clause-lines c =
    sym c.lines.invariant.0
    ∙ after_end (λ xs. xs) (step_in c.args.part) (map line_of c.lines.lines.items) c.lines.at c.lines.rest.now c.in-Some.found.now c.in-Some.others.now c.in-Some.ensures.cases.0 c.in-Some.ensures.cases.1
    (sym (ap (same_text c.in-Some.found.now) c.as_slice.ensures) ∙ sym c.eq.ensures ∙ c.if-eq.true) (sym c.is_end.ensures ∙ c.if-not-is_end.true)

pub returns-then-eq-clause-lines : goal.returns-then-eq-clause-lines
returns-then-eq-clause-lines c =
    sym c.lines.invariant.0
    ∙ at_end (λ xs. xs) (step_in c.args.part) (map line_of c.lines.lines.items) c.lines.at c.lines.rest.now c.in-Some.found.now c.in-Some.others.now c.in-Some.ensures.cases.0 c.in-Some.ensures.cases.1
    (sym (ap (same_text c.in-Some.found.now) c.as_slice.ensures) ∙ sym c.eq.ensures ∙ c.if-eq.true) (sym c.is_end.ensures ∙ c.if-not-is_end.false)

pub returns-in_default-step_in-clause-lines : goal.returns-in_default-step_in-clause-lines
returns-in_default-step_in-clause-lines c =
    sym c.lines.invariant.0
    ∙ at_bad (λ xs. xs) (step_in c.args.part) (map line_of c.lines.lines.items) c.lines.at c.lines.rest.now c.in-Some.found.now c.in-Some.others.now c.in-Some.ensures.cases.0 c.in-Some.ensures.cases.1
    (sym (ap (same_text c.in-Some.found.now) c.as_slice.ensures) ∙ sym c.eq.ensures ∙ c.if-eq.false) (sym c.step_in.ensures ∙ ap (option_map line_of) c.in_default-step_in.is)

pub lines-preserved : goal.lines-preserved
lines-preserved c =
    let shorter : length c.lines.rest.now ≡ length c.in-Some.found.now + suc (length c.in-Some.others.now) = ap length c.in-Some.ensures.cases.0 ∙ length-append c.in-Some.found.now (10 ∷ c.in-Some.others.now) in (
      ap (λ xs. gathered (λ xs. xs) xs (items_from (step_in c.args.part) (c.lines.at + 1) (lines_of c.in-Some.others.now))) (ap (map line_of) c.in_ok-put.ensures ∙ map-append line_of c.lines.lines.items (c.in-Some-step_in.line ∷ []))
          ∙ sym (at_item (λ xs. xs) (step_in c.args.part) (map line_of c.lines.lines.items) c.lines.at c.lines.rest.now c.in-Some.found.now c.in-Some.others.now c.in-Some.ensures.cases.0 c.in-Some.ensures.cases.1 (line_of c.in-Some-step_in.line)
          (sym (ap (same_text c.in-Some.found.now) c.as_slice.ensures) ∙ sym c.eq.ensures ∙ c.if-eq.false) (sym c.step_in.ensures ∙ ap (option_map line_of) c.in-Some-step_in.is))
          ∙ c.lines.invariant.0,
      omega (arith, shorter, c.lines.invariant.1),
      omega (arith, ap length c.in_ok-put.ensures, length-append c.lines.lines.items (c.in-Some-step_in.line ∷ []), c.lines.invariant.2),
    )

pub returns-clause-lines : goal.returns-clause-lines
returns-clause-lines c = sym c.lines.invariant.0 ∙ at_cut_off (λ xs. xs) (step_in c.args.part) (map line_of c.lines.lines.items) c.lines.at c.lines.rest.now (steps_of_lines c.args.part) c.in_default.ensures.cases
