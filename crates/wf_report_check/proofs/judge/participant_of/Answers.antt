use Rattle.std.proofs.Common.{◌<◌, ◌∙◌, [], length, get_or, sym, ap, arith}
use Rattle.wf_model.specs.Task.{inputs}
use Rattle.wf_model.specs.Check.{removal}
use Rattle.std.proofs.lemmas.List.{get_or_default, length-map}
use Rattle.wf_model.specs.Task.{Rule}
use Rattle.wf_complex.proofs.Lemmas.{known_points, rule_inside}
use Rattle.wf_simplex.proofs.Lemmas.{place_by_number}
use Rattle.wf_report_check.proofs.ExecutionLemmas.{execution_by_number}
use Rattle.wf_report_check.proofs.PlaceLemmas.{by_support, no_place, place_inside, rule_by_number}
use Rattle.wf_report_check.proofs.judge.participant_of.Goals as goal

pub bounds-simplices-number : goal.bounds-simplices-number
bounds-simplices-number c =
    let t = c.args.rules.now.task.now in
    let b = c.args.rules.now.protocol.now in
    let low = rule_inside t b.rounds b c.args.execution c.simplex_of-number.result c.requires.protocol (omega (arith, c.if-execution-executions.false, c.executions.ensures.executions)) c.simplex_of-number.ensures in
    omega (arith, low, ap length (c.simplices.ensures.simplices ∙ c.inputs.ensures.inputs), length-map t.delta (λ (rule : Rule). rule.input))

pub bounds-supports-number : goal.bounds-supports-number
bounds-supports-number c =
    let b = c.args.rules.now.protocol.now in
    let low = rule_inside c.args.rules.now.task.now b.rounds b c.args.execution c.simplex_of-number.result c.requires.protocol (omega (arith, c.if-execution-executions.false, c.executions.ensures.executions)) c.simplex_of-number.ensures in
    omega (arith, low, ap length c.supports.ensures, ap length c.requires.supports, length-map c.args.rules.now.task.now.delta (λ (rule : Rule). rule.tuples))

pub returns-in_default-clause-verdict : goal.returns-in_default-clause-verdict
returns-in_default-clause-verdict c = λ k value box boxes.
    let t = c.args.rules.now.task.now in
    let b = c.args.rules.now.protocol.now in
    let supports = c.args.rules.now.checker.now in
    let n = c.simplex_of-number.result in
    let points = c.points_of-points.result.now in
    let tuples = get_or supports n [] in
    let inside : c.args.execution < length b.scopes = omega (arith, c.if-execution-executions.false, c.executions.ensures.executions) in
    let low = rule_inside t b.rounds b c.args.execution n c.requires.protocol inside c.simplex_of-number.ensures in
    let found = place_by_number t n c.args.process c.simplices.result.now c.index-simplices-number.result c.place.result low (c.simplices.ensures.simplices ∙ c.inputs.ensures.inputs) c.index-simplices-number.is c.place.ensures in
    let there : n < length supports = omega (arith, low, ap length c.requires.supports, length-map t.delta (λ (rule : Rule). rule.tuples)) in
    let rule = rule_by_number t.delta supports n tuples c.requires.supports low (get_or_default supports n [] tuples there) in
    let known = execution_by_number t b.rounds b c.args.execution n tuples points c.requires.protocol inside c.simplex_of-number.ensures c.points_of-points.ensures rule in
    ap (removal k c.args.process value box boxes) known.0
    ∙ no_place k value c.args.process box boxes (get_or (inputs t) n []) tuples points known.1 (sym found ∙ c.in_default.is)

pub returns-clause-verdict : goal.returns-clause-verdict
returns-clause-verdict c = λ k value box boxes.
    let t = c.args.rules.now.task.now in
    let b = c.args.rules.now.protocol.now in
    let n = c.simplex_of-number.result in
    let points = c.points_of-points.result.now in
    let tuples = c.index-supports-number.result in
    let inside : c.args.execution < length b.scopes = omega (arith, c.if-execution-executions.false, c.executions.ensures.executions) in
    let low = rule_inside t b.rounds b c.args.execution n c.requires.protocol inside c.simplex_of-number.ensures in
    let found = place_by_number t n c.args.process c.simplices.result.now c.index-simplices-number.result c.place.result low (c.simplices.ensures.simplices ∙ c.inputs.ensures.inputs) c.index-simplices-number.is c.place.ensures in
    let rule = rule_by_number t.delta c.supports.result.now n tuples (c.supports.ensures ∙ c.requires.supports) low c.index-supports-number.is in
    let known = execution_by_number t b.rounds b c.args.execution n tuples points c.requires.protocol inside c.simplex_of-number.ensures c.points_of-points.ensures rule in
    ap (removal k c.args.process value box boxes) known.0
    ∙ by_support k value c.args.process c.in-Some.place box boxes (get_or (inputs t) n []) tuples points known.1 (sym found ∙ c.in-Some.is)

pub returns-clause-inside : goal.returns-clause-inside
returns-clause-inside c =
    let t = c.args.rules.now.task.now in
    let b = c.args.rules.now.protocol.now in
    let n = c.simplex_of-number.result in
    let points = c.points_of-points.result.now in
    let tuples = c.index-supports-number.result in
    let inside : c.args.execution < length b.scopes = omega (arith, c.if-execution-executions.false, c.executions.ensures.executions) in
    let low = rule_inside t b.rounds b c.args.execution n c.requires.protocol inside c.simplex_of-number.ensures in
    let found = place_by_number t n c.args.process c.simplices.result.now c.index-simplices-number.result c.place.result low (c.simplices.ensures.simplices ∙ c.inputs.ensures.inputs) c.index-simplices-number.is c.place.ensures in
    let rule = rule_by_number t.delta c.supports.result.now n tuples (c.supports.ensures ∙ c.requires.supports) low c.index-supports-number.is in
    let known = execution_by_number t b.rounds b c.args.execution n tuples points c.requires.protocol inside c.simplex_of-number.ensures c.points_of-points.ensures rule in
    let there = known_points t b.rounds b c.args.execution n points c.requires.protocol inside c.simplex_of-number.ensures c.points_of-points.ensures in record {
      place = place_inside c.args.process c.in-Some.place (get_or (inputs t) n []) points known.1 (sym found ∙ c.in-Some.is);
      few = there.1;
      points = there.2;
    }
