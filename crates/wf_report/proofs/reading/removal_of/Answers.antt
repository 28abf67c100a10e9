use Rattle.std.proofs.Common.{◌∙◌, sym}
use Rattle.wf_report.proofs.LineLemmas.{no_process, no_third, three_words}
use Rattle.wf_report.proofs.reading.removal_of.Goals as goal

pub returns-in_default : goal.returns-in_default
returns-in_default c = sym (no_process c.args.numbers.now c.in_default.ensures.cases)

pub returns-in_default-split_once : goal.returns-in_default-split_once
returns-in_default-split_once c = sym (no_third c.args.numbers.now _ _ c.in-Some.ensures.cases.0 c.in-Some.ensures.cases.1 c.in_default-split_once.ensures.cases)

pub returns : goal.returns
returns c = c.removal.ensures ∙ sym (three_words c.args.numbers.now _ _ _ _ c.in-Some.ensures.cases.0 c.in-Some.ensures.cases.1 c.in-Some-split_once.ensures.cases.0 c.in-Some-split_once.ensures.cases.1)
