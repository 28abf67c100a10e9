use Rattle.std.proofs.Common.{◌∙◌, ap}
use Rattle.wf_model.specs.Report.{lines_of}
use Rattle.wf_report.proofs.ReadLemmas.{no_number, number_at_is, number_step}
use Rattle.wf_report.proofs.reading.read_number.Goals as goal

pub returns-in_default-clause-rest : goal.returns-in_default-clause-rest
returns-in_default-clause-rest c = no_number c.args.at c.args.name.now c.args.text.now c.in_default.ensures.cases

pub returns-in_default-number_after-clause-rest : goal.returns-in_default-number_after-clause-rest
returns-in_default-number_after-clause-rest c =
    number_at_is c.args.at c.args.name.now c.in-Some.found.now c.in-Some.rest.now c.args.text.now c.number_after.result c.in-Some.ensures.cases.0 c.in-Some.ensures.cases.1 c.number_after.ensures
    ∙ ap (number_step c.args.at (lines_of c.in-Some.rest.now)) c.in_default-number_after.is

pub returns-clause-rest : goal.returns-clause-rest
returns-clause-rest c =
    number_at_is c.args.at c.args.name.now c.in-Some.found.now c.in-Some.rest.now c.args.text.now c.number_after.result c.in-Some.ensures.cases.0 c.in-Some.ensures.cases.1 c.number_after.ensures
    ∙ ap (number_step c.args.at (lines_of c.in-Some.rest.now)) c.in-Some-number_after.is
