use Rattle.std.proofs.Common.{◌∙◌, Some, ap, sym}
use Rattle.wf_tree_text.proofs.NumberWords.{bad_next, behind, last_bad, last_number, number_next}
use Rattle.wf_tree_text.proofs.numbers.read_numbers.Goals as goal

pub returns-in_default-number : goal.returns-in_default-number
returns-in_default-number c =
    sym (c.words.invariant
    ∙ bad_next c.words.numbers.items c.in-Some.word.now c.in-Some.others.now c.words.rest.now c.in-Some.ensures.cases.0 c.in-Some.ensures.cases.1 (sym c.number.ensures ∙ c.in_default-number.is))

pub words-preserved : goal.words-preserved
words-preserved c =
    c.words.invariant
    ∙ number_next c.words.numbers.items c.in-Some.word.now c.in-Some.others.now c.words.rest.now c.in-Some.ensures.cases.0 c.in-Some.ensures.cases.1 c.in-Some-number.number (sym c.number.ensures ∙ c.in-Some-number.is)
    ∙ ap (λ xs. behind xs c.in-Some.others.now) (sym c.in_ok-push.ensures.items)

pub returns-in_default-number-2 : goal.returns-in_default-number-2
returns-in_default-number-2 c = sym (c.words.invariant ∙ last_bad c.words.numbers.items c.words.rest.now c.in_default.ensures.cases (sym c.number-2.ensures ∙ c.in_default-number-2.is))

pub returns : goal.returns
returns c =
    sym (c.words.invariant
    ∙ last_number c.words.numbers.items c.words.rest.now c.in-Some-number-2.last c.in_default.ensures.cases (sym c.number-2.ensures ∙ c.in-Some-number-2.is)
    ∙ ap Some (sym c.in_ok-push-2.ensures.items))
