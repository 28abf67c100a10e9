use Rattle.std.proofs.Common.{◌≡◌, ◌≤◌, ◌*◌, [], map, length, ap, ◌∙◌, subst}
use Rattle.wf_model.specs.Limits.{most_points}
use Rattle.wf_model.specs.Task.{values}
use Rattle.wf_base.specs.Set.Sets.{values_in}
use Rattle.wf_sat_formula.specs.Encoding.{question}
use Rattle.wf_sat_cnf.specs.Patterns.{patterns_seen}
use Rattle.wf_sat_cnf.specs.Clauses.{patterns_of}
use Rattle.wf_sat_cnf.specs.Exclusions.{clauses_with, exclusions_on}
use Rattle.wf_sat_cnf.specs.Posed.{Adds, with_clauses}
use Rattle.wf_sat_cnf.specs.Tokens.{ended, formula_tokens}
use Rattle.wf_sat_cnf.proofs.PosingLemmas.{each_ended}
use Rattle.wf_sat_cnf.proofs.Questions.{covered, given_are}
use Rattle.wf_sat_cnf.proofs.posing.posed.Goals as goal

pub give_clauses-requires-clause-covered : goal.give_clauses-requires-clause-covered
give_clauses-requires-clause-covered g c =
    let few : length c.args.protocol.now.points ≤ most_points = subst (λ n. n ≤ most_points) c.points.ensures.points c.points.ensures.few in
    covered c.args.task.now c.args.protocol.now.rounds c.args.protocol.now (map patterns_seen c.deref.result.now) c.requires.protocol few (ap (map patterns_seen) c.deref.ensures.value ∙ c.in_ok-patterns.ensures)

pub returns : goal.returns
returns g c =
    let t = c.args.task.now in
    let b = c.args.protocol.now in
    let box = map values_in c.args.sets.now in
    let all = values_in c.in_ok-variables.variables.values in
    let patterns = map patterns_seen c.deref.result.now in
    let all_is : all ≡ values t = ap values_in c.in_ok-variables.ensures.values ∙ c.values.ensures.values in
    let patterns_are : patterns ≡ patterns_of t = ap (map patterns_seen) c.deref.ensures.value ∙ c.in_ok-patterns.ensures in
    let given = clauses_with all patterns b box in
    let f = question t b.rounds in
    let is_posed = g.C.ClauseSink.is_posed in
    let new = c.give_clauses.new.to in
    let adds : Adds is_posed given c.in_ok-checker.checker new =
    subst (λ cs. Adds is_posed cs c.in_ok-checker.checker new) (ap (λ begun. ended begun (formula_tokens given)) c.new.ensures.items ∙ each_ended given) c.in_ok-give_clauses.ensures.adds in
    let many : c.count.result ≡ f.variables = c.count.ensures ∙ (λ i. (c.points.ensures.points ∙ ap length c.requires.protocol.points_are) i * length (all_is i)) in
    let whole = given_are t b.rounds b all patterns box c.requires.protocol all_is patterns_are in
    let same : with_clauses given (record { variables = c.count.result; clauses = [] }) ≡ with_clauses (exclusions_on (values t) box) f = λ i. record { variables = many i; clauses = whole i } in
    subst (λ h. is_posed h new) same (adds _ c.in_ok-checker.ensures)
