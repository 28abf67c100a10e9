use Rattle.std.proofs.Common.{◌≡◌, ◌∙◌, Ok, Err, cond, false, true, sym, ap}
use Rattle.wf_model.specs.Report.{lines_of, same_text}
use Rattle.wf_report.proofs.ReadLemmas.{fixed_is, no_fixed, not_false, not_true}
use Rattle.wf_report.proofs.reading.read_fixed.Goals as goal

pub returns-in_default-clause-rest : goal.returns-in_default-clause-rest
returns-in_default-clause-rest c = no_fixed c.args.at c.args.wanted.now c.args.text.now c.in_default.ensures.cases

pub returns-then-ne-clause-rest : goal.returns-then-ne-clause-rest
returns-then-ne-clause-rest c =
    let differs : same_text c.in-Some.found.now c.args.wanted.now ≡ false = not_true _ (sym c.ne.ensures ∙ c.if-ne.true) in
    fixed_is c.args.at c.args.wanted.now c.in-Some.found.now c.in-Some.rest.now c.args.text.now c.in-Some.ensures.cases.0 c.in-Some.ensures.cases.1 ∙ ap (λ t. cond t (Ok (lines_of c.in-Some.rest.now)) (Err c.args.at)) differs

pub returns-clause-rest : goal.returns-clause-rest
returns-clause-rest c =
    let same : same_text c.in-Some.found.now c.args.wanted.now ≡ true = not_false _ (sym c.ne.ensures ∙ c.if-ne.false) in
    fixed_is c.args.at c.args.wanted.now c.in-Some.found.now c.in-Some.rest.now c.args.text.now c.in-Some.ensures.cases.0 c.in-Some.ensures.cases.1 ∙ ap (λ t. cond t (Ok (lines_of c.in-Some.rest.now)) (Err c.args.at)) same
