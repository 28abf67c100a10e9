use Rattle.std.proofs.Common.{◌≤◌, length, subst}
use Rattle.wf_model.specs.Problem.{Problem}
use Rattle.wf_lane.proofs.Lemmas.{few_values}
use Rattle.wf_network.proofs.problem.Problem.points.Goals as goal

pub returns-clause-few_values : goal.returns-clause-few_values
returns-clause-few_values c = subst (λ (p : Problem). length p.values ≤ 256) c.self.view_is (few_values c.self.inside.values)
