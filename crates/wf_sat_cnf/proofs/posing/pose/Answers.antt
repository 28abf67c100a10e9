use Rattle.std.proofs.Common.{◌≡◌, [], append-nil, subst}
use Rattle.std.specs.Prelude.{IfOk}
use Rattle.wf_sat_formula.specs.Encoding.{question}
use Rattle.wf_sat_cnf.specs.Posed.{with_clauses}
use Rattle.wf_sat_cnf.proofs.posing.pose.Goals as goal

pub returns : goal.returns
returns g c =
    let f = question c.args.task.now c.args.protocol.now.rounds in
    let same : with_clauses [] f ≡ f = λ i. record { variables = f.variables; clauses = append-nil f.clauses i } in
    subst (λ h. IfOk c.posed.result (g.C.ClauseSink.is_posed h)) same c.posed.ensures
