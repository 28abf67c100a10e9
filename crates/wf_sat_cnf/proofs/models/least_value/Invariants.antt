use Rattle.std.proofs.Common.{◌≡◌, length, filter, slice_index}
use Rattle.wf_base.specs.Set.Sets.{values_in}
use Rattle.wf_sat_formula.specs.Encoding.{least_true, variable}
use Rattle.wf_sat_cnf.specs.Models.{assigned}
use Rattle.wf_sat_cnf.proofs.models.least_value.Given as goal

abbrev pub invariant-values : goal.invariant-values
invariant-values l =
    slice_index (filter (λ x. assigned l.truths (variable (values_in l.variables.values) l.point x)) (values_in l.left)) 0
    ≡ least_true (values_in l.variables.values) (assigned l.truths) l.point

abbrev pub decreases-values : goal.decreases-values
decreases-values l = length (values_in l.left)
