use Rattle.std.proofs.Common.{◌≡◌, map}
use Rattle.wf_model.specs.Lists.{below}
use Rattle.wf_base.specs.Set.Sets.{values_in}
use Rattle.wf_sat_formula.specs.Encoding.{least_true}
use Rattle.wf_sat_cnf.specs.Models.{assigned}
use Rattle.wf_sat_cnf.proofs.models.least_values.Given as goal

abbrev pub invariant-loop-point : goal.invariant-loop-point
invariant-loop-point l = l.found.items ≡ map (least_true (values_in l.variables.values) (assigned l.truths)) (below l.point)
