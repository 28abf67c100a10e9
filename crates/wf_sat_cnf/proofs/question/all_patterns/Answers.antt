use Rattle.std.proofs.Common.{◌≡◌, ◌≤◌, ◌<◌, [], ◌∷◌, map, length, get_or, ap, ◌∙◌, arith}
use Rattle.std.proofs.lemmas.List.{length-map, map-append, take_all}
use Rattle.wf_model.specs.Task as task
use Rattle.wf_model.specs.Task.{inputs, values}
use Rattle.wf_sat_formula.specs.Patterns.{minimal_patterns}
use Rattle.wf_sat_cnf.specs.Patterns.{patterns_seen}
use Rattle.wf_sat_cnf.specs.Clauses.{patterns_of}
use Rattle.wf_sat_cnf.proofs.Questions.{rule_more}
use Rattle.wf_sat_cnf.proofs.question.all_patterns.Goals as goal

pub loop-simplex-preserved : goal.loop-simplex-preserved
loop-simplex-preserved c =
    let t = c.args.task.now in
    let n = c.loop-simplex.simplex in
    let s = c.index-inputs-simplex.result in
    let tuples = c.tuples-tuples.result.now in
    let listed : c.simplices-inputs.result.now ≡ inputs t = c.simplices-inputs.ensures.simplices ∙ c.inputs.ensures.inputs in
    let is : s ≡ get_or (inputs t) n s = c.index-inputs-simplex.is ∙ ap (λ ss. get_or ss n s) listed in
    let low : n < length (inputs t) = omega (arith, c.loop-simplex-test.true, ap length listed) in
    ap (map patterns_seen) c.in_ok-push.ensures.items
    ∙ map-append patterns_seen c.loop-simplex.patterns.items (c.in_ok-of.field-0 ∷ [])
    ∙ rule_more t n s s tuples (map patterns_seen c.loop-simplex.patterns.items) (patterns_seen c.in_ok-of.field-0) is low c.tuples-tuples.ensures
    (c.in_ok-of.ensures ∙ (λ i. minimal_patterns (c.colours.ensures.count i) (c.values-values.ensures.values i) tuples)) c.loop-simplex.invariant

pub returns : goal.returns
returns c =
    let t = c.args.task.now in
    let f = λ (rule : task.Rule). minimal_patterns (length rule.input) (values t) rule.tuples in
    let listed : c.simplices-inputs.result.now ≡ inputs t = c.simplices-inputs.ensures.simplices ∙ c.inputs.ensures.inputs in
    let all : length (patterns_of t) ≤ c.loop-simplex.simplex = omega (arith, c.loop-simplex-test.false, ap length listed, length-map t.delta f, length-map t.delta (λ (rule : task.Rule). rule.input)) in
    c.loop-simplex.invariant ∙ take_all c.loop-simplex.simplex (patterns_of t) all
