use Rattle.std.proofs.Common.{◌<◌, ◌++◌, length, string_bytes, sym, ap, ◌∙◌, arith}
use Rattle.std.proofs.lemmas.Option.{slice_get_within}
use Rattle.std.proofs.lemmas.Result.{on_ok_weaker}
use Rattle.std.proofs.lemmas.List.{length-map}
use Rattle.wf_model.specs.Task.{Rule}
use Rattle.wf_simplex.proofs.Lemmas.{place_by_number}
use Rattle.wf_complex.proofs.Lemmas.{rule_inside}
use Rattle.wf_report_explain.specs.Argument.ArgumentState.{after_taking}
use Rattle.wf_report_explain.specs.Words.Subject.{executions_in, problem_in}
use Rattle.wf_report_explain.specs.Argument.Text.{told_taking}
use Rattle.wf_report_explain.specs.Argument.Trail.{state_of}
use Rattle.wf_report_explain.proofs.OfArgument.Places.{not_there, there, told_nobody}
use Rattle.wf_report_explain.proofs.argument.steps.put_taking.Goals as goal

pub bounds-simplices-number : goal.bounds-simplices-number
bounds-simplices-number c =
    let t = c.args.subject.now.task.now in let b = c.args.subject.now.protocol.now in let e = c.args.run.now.execution in
    let low = rule_inside t b.rounds b e c.simplex_of-number.result c.requires.subject.protocol (omega (arith, c.if-run-executions.false, c.executions.ensures.executions)) c.simplex_of-number.ensures in
    omega (arith, low, ap length (c.simplices.ensures.simplices ∙ c.inputs.ensures.inputs), length-map t.delta (λ (rule : Rule). rule.input))

pub tuples-requires : goal.tuples-requires
tuples-requires c =
    let b = c.args.subject.now.protocol.now in
    rule_inside c.args.subject.now.task.now b.rounds b c.args.run.now.execution c.simplex_of-number.result c.requires.subject.protocol (omega (arith, c.if-run-executions.false, c.executions.ensures.executions)) c.simplex_of-number.ensures

pub returns-in_default-clause-text : goal.returns-in_default-clause-text
returns-in_default-clause-text c =
    let x = c.args.subject.now in let b = x.protocol.now in let e = c.args.run.now.execution in
    let inside : e < length b.scopes = omega (arith, c.if-run-executions.false, c.executions.ensures.executions) in
    let low = rule_inside x.task.now b.rounds b e c.simplex_of-number.result c.requires.subject.protocol inside c.simplex_of-number.ensures in
    let place = place_by_number x.task.now c.simplex_of-number.result c.args.run.now.process c.simplices.result.now c.index-simplices-number.result c.place.result low (c.simplices.ensures.simplices ∙ c.inputs.ensures.inputs) c.index-simplices-number.is c.place.ensures in
    told_nobody (problem_in x) (executions_in x) (state_of c.args.state.now) e c.args.run.now.process c.args.run.now.values.now (string_bytes c.args.text.now)
    (not_there x.task.now b.rounds b e c.simplex_of-number.result c.args.run.now.process c.requires.subject.protocol inside c.simplex_of-number.ensures (sym place ∙ c.in_default.is))

pub returns-in_default-clause-state : goal.returns-in_default-clause-state
returns-in_default-clause-state c =
    let x = c.args.subject.now in let b = x.protocol.now in let e = c.args.run.now.execution in
    let inside : e < length b.scopes = omega (arith, c.if-run-executions.false, c.executions.ensures.executions) in
    let low = rule_inside x.task.now b.rounds b e c.simplex_of-number.result c.requires.subject.protocol inside c.simplex_of-number.ensures in
    let place = place_by_number x.task.now c.simplex_of-number.result c.args.run.now.process c.simplices.result.now c.index-simplices-number.result c.place.result low (c.simplices.ensures.simplices ∙ c.inputs.ensures.inputs) c.index-simplices-number.is c.place.ensures in
    sym (ap (after_taking (problem_in x) (state_of c.args.state.now) e c.args.run.now.values.now)
    (not_there x.task.now b.rounds b e c.simplex_of-number.result c.args.run.now.process c.requires.subject.protocol inside c.simplex_of-number.ensures (sym place ∙ c.in_default.is)))

pub put_steps-requires-clause-seat : goal.put_steps-requires-clause-seat
put_steps-requires-clause-seat c =
    let x = c.args.subject.now in let b = x.protocol.now in let e = c.args.run.now.execution in
    let inside : e < length b.scopes = omega (arith, c.if-run-executions.false, c.executions.ensures.executions) in
    let low = rule_inside x.task.now b.rounds b e c.simplex_of-number.result c.requires.subject.protocol inside c.simplex_of-number.ensures in
    let place = place_by_number x.task.now c.simplex_of-number.result c.args.run.now.process c.simplices.result.now c.index-simplices-number.result c.place.result low (c.simplices.ensures.simplices ∙ c.inputs.ensures.inputs) c.index-simplices-number.is c.place.ensures in
    let found = there x.task.now b.rounds b e c.simplex_of-number.result c.args.run.now.process c.in-Some.place c.points_of.result.now c.tuples.result.now c.requires.subject.protocol inside c.simplex_of-number.ensures
    c.points_of.ensures c.tuples.ensures (sym place ∙ c.in-Some.is) in record {
      execution = slice_get_within b.simplices e c.simplex_of-number.result c.simplex_of-number.ensures;
      inside = found.inside;
      points = found.points_are;
      tuples = found.tuples_are;
    }

pub returns-clause-text : goal.returns-clause-text
returns-clause-text c =
    let x = c.args.subject.now in let b = x.protocol.now in let e = c.args.run.now.execution in
    let inside : e < length b.scopes = omega (arith, c.if-run-executions.false, c.executions.ensures.executions) in
    let low = rule_inside x.task.now b.rounds b e c.simplex_of-number.result c.requires.subject.protocol inside c.simplex_of-number.ensures in
    let place = place_by_number x.task.now c.simplex_of-number.result c.args.run.now.process c.simplices.result.now c.index-simplices-number.result c.place.result low (c.simplices.ensures.simplices ∙ c.inputs.ensures.inputs) c.index-simplices-number.is c.place.ensures in
    let found = there x.task.now b.rounds b e c.simplex_of-number.result c.args.run.now.process c.in-Some.place c.points_of.result.now c.tuples.result.now c.requires.subject.protocol inside c.simplex_of-number.ensures
    c.points_of.ensures c.tuples.ensures (sym place ∙ c.in-Some.is) in
    on_ok_weaker c.put_steps.result
    (λ told. told ∙ ap (λ at. string_bytes c.args.text.now ++ told_taking (problem_in x) (executions_in x) (state_of c.args.state.now) e c.args.run.now.values.now at) (sym found.at))
    c.put_steps.ensures.text

pub returns-clause-state : goal.returns-clause-state
returns-clause-state c =
    let x = c.args.subject.now in let b = x.protocol.now in let e = c.args.run.now.execution in
    let inside : e < length b.scopes = omega (arith, c.if-run-executions.false, c.executions.ensures.executions) in
    let low = rule_inside x.task.now b.rounds b e c.simplex_of-number.result c.requires.subject.protocol inside c.simplex_of-number.ensures in
    let place = place_by_number x.task.now c.simplex_of-number.result c.args.run.now.process c.simplices.result.now c.index-simplices-number.result c.place.result low (c.simplices.ensures.simplices ∙ c.inputs.ensures.inputs) c.index-simplices-number.is c.place.ensures in
    let found = there x.task.now b.rounds b e c.simplex_of-number.result c.args.run.now.process c.in-Some.place c.points_of.result.now c.tuples.result.now c.requires.subject.protocol inside c.simplex_of-number.ensures
    c.points_of.ensures c.tuples.ensures (sym place ∙ c.in-Some.is) in
    on_ok_weaker c.put_steps.result
    (λ taken. taken ∙ ap (after_taking (problem_in x) (state_of c.args.state.now) e c.args.run.now.values.now) (sym found.at))
    c.put_steps.ensures.state
