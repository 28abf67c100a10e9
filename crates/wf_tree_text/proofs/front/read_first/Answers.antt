use Rattle.std.proofs.Common.{◌≡◌, ◌∙◌, Ok, Err, cond, codes, false, true, sym, ap}
use Rattle.wf_model.specs.Report.{lines_of, same_text}
use Rattle.wf_report.proofs.Lemmas.{fixed_is, no_fixed, not_false, not_true}
use Rattle.wf_tree_text.proofs.front.read_first.Goals as goal

pub returns-in_default-clause-rest : goal.returns-in_default-clause-rest
returns-in_default-clause-rest c = no_fixed 1 (codes "wfcheck obstruction 1") c.args.text.now c.in_default.ensures.cases

pub returns-then-ne-clause-rest : goal.returns-then-ne-clause-rest
returns-then-ne-clause-rest c =
    let wanted = codes "wfcheck obstruction 1" in
    let found = c.in-Some.found.now in
    let differs : same_text found wanted ≡ false = sym (ap (same_text found) c.as_bytes.ensures.value) ∙ not_true _ (sym c.ne.ensures ∙ c.if-ne.true) in
    fixed_is 1 wanted found c.in-Some.rest.now c.args.text.now c.in-Some.ensures.cases.0 c.in-Some.ensures.cases.1 ∙ ap (λ t. cond t (Ok (lines_of c.in-Some.rest.now)) (Err 1)) differs

pub returns-clause-rest : goal.returns-clause-rest
returns-clause-rest c =
    let wanted = codes "wfcheck obstruction 1" in
    let found = c.in-Some.found.now in
    let same : same_text found wanted ≡ true = sym (ap (same_text found) c.as_bytes.ensures.value) ∙ not_false _ (sym c.ne.ensures ∙ c.if-ne.false) in
    fixed_is 1 wanted found c.in-Some.rest.now c.args.text.now c.in-Some.ensures.cases.0 c.in-Some.ensures.cases.1 ∙ ap (λ t. cond t (Ok (lines_of c.in-Some.rest.now)) (Err 1)) same
