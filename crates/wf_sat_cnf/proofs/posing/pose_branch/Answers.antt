use Rattle.std.proofs.Common.{◌≡◌, ◌≤◌, ◌++◌, map, refl, sym, ◌∙◌, subst}
use Rattle.std.specs.Prelude.{IfOk}
use Rattle.std.proofs.lemmas.List.{length-map}
use Rattle.wf_model.specs.Limits.{most_points}
use Rattle.wf_model.specs.Problem.{problem_of}
use Rattle.wf_model.specs.Task.{values}
use Rattle.wf_base.specs.Set.Sets.{values_in}
use Rattle.wf_sat_formula.specs.Branches.{formula_in}
use Rattle.wf_sat_formula.specs.Encoding.{question}
use Rattle.wf_sat_cnf.specs.Exclusions.{exclusions_on}
use Rattle.wf_sat_cnf.specs.Posed.{with_clauses}
use Rattle.wf_sat_cnf.proofs.Questions.{exclusions_same}
use Rattle.wf_sat_cnf.proofs.posing.pose_branch.Goals as goal

pub posed-requires-clause-few : goal.posed-requires-clause-few
posed-requires-clause-few g c = subst (λ n. n ≤ most_points) (c.points-points.ensures.points ∙ sym c.requires.sets) c.points-points.ensures.few

pub returns : goal.returns
returns g c =
    let t = c.args.task.now in
    let b = c.args.protocol.now in
    let box = map values_in c.args.sets.now in
    let f = question t b.rounds in
    let more = exclusions_same t b.rounds b (values t) box c.requires.protocol refl (length-map c.args.sets.now values_in ∙ c.requires.sets) in
    let same : with_clauses (exclusions_on (values t) box) f ≡ formula_in (problem_of t b.rounds) box = λ i. record { variables = f.variables; clauses = f.clauses ++ more i } in
    subst (λ h. IfOk c.posed.result (g.C.ClauseSink.is_posed h)) same c.posed.ensures
