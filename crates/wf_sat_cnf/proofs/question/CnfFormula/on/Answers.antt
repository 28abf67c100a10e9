use Rattle.std.proofs.Common.{◌≡◌, ◌≤◌, ◌*◌, ◌+◌, map, length, ap, sym, ◌∙◌, subst}
use Rattle.wf_model.specs.Limits.{most_points}
use Rattle.wf_base.specs.Set.Sets.{values_in}
use Rattle.wf_sat_cnf.specs.Patterns.{patterns_seen}
use Rattle.wf_sat_cnf.specs.Clauses.{clauses_on}
use Rattle.wf_sat_cnf.specs.Exclusions.{exclusions_on, line_in, sets_in}
use Rattle.wf_sat_cnf.specs.Head.{head_text}
use Rattle.wf_sat_cnf.proofs.Questions.{covered, few_sets, text_of_part}
use Rattle.wf_sat_cnf.proofs.question.CnfFormula.on.Goals as goal

pub count_clauses-requires : goal.count_clauses-requires
count_clauses-requires c =
    let few : length c.args.protocol.now.points ≤ most_points = subst (λ n. n ≤ most_points) c.points-points.ensures.points c.points-points.ensures.few in
    covered c.args.task.now c.args.protocol.now.rounds c.args.protocol.now (map patterns_seen c.deref.result.now) c.requires.protocol few (ap (map patterns_seen) c.deref.ensures.value ∙ c.in_ok-patterns.ensures)

pub invariant_of-result : goal.invariant_of-result
invariant_of-result c =
    let few : length c.args.protocol.now.points ≤ most_points = subst (λ n. n ≤ most_points) c.points-points.ensures.points c.points-points.ensures.few in
    record {
      numbered = c.in_ok-variables.ensures.numbered;
      covered = covered c.args.task.now c.args.protocol.now.rounds c.args.protocol.now (map patterns_seen c.in_ok-patterns.patterns.items) c.requires.protocol few c.in_ok-patterns.ensures;
      few = few_sets c.args.branch c.args.protocol.now c.requires.branch few;
      empty = c.in_ok-new.ensures;
    }

pub returns : goal.returns
returns c =
    let v = c.in_ok-variables.variables in
    let b = c.args.protocol.now in
    let all = values_in v.values in
    let patterns = map patterns_seen c.in_ok-patterns.patterns.items in
    let all_is = ap values_in c.in_ok-variables.ensures.values ∙ c.values-values.ensures.values in
    let excluded : exclusions_on (values_in c.values-values.result) (map values_in c.candidates_of.result.now) ≡ exclusions_on all (map values_in (sets_in c.args.branch)) =
    λ i. exclusions_on (values_in (sym c.in_ok-variables.ensures.values i)) (map values_in (c.candidates_of.ensures i)) in
    let counted : c.in-Some.clauses ≡ length b.points + length (clauses_on all patterns b) =
    c.in-Some.ensures all ∙ ap (λ ps. length b.points + length (clauses_on all (map patterns_seen ps) b)) c.deref.ensures.value in
    text_of_part c.args.task.now b.rounds b _ all patterns c.args.branch c.requires.protocol all_is c.in_ok-patterns.ensures c.requires.branch
    (record {
      processes = c.processes.ensures.processes;
      rounds = c.rounds.ensures;
      points = c.points-points.ensures.points;
      executions = c.executions.ensures.executions;
      variables = c.count.ensures ∙ ap (λ n. n * length all) c.points-points.ensures.points;
      clauses = c.in-Some-count_exclusions.ensures ∙ (λ i. counted i + length (excluded i));
    })
    _ (c.in_ok-head.ensures ∙ ap (head_text _ (line_in c.args.branch)) (ap values_in (sym c.in_ok-variables.ensures.values)))
