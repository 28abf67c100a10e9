use Rattle.std.proofs.Common.{◌≡◌, map}
use Rattle.wf_model.specs.Lists.{below}
use Rattle.wf_base.specs.Set.Sets.{values_in}
use Rattle.wf_sat_formula.specs.Encoding.{rank_in}
use Rattle.wf_sat_cnf.proofs.variables.Variables.of.Given as goal

abbrev pub invariant-loop-value : goal.invariant-loop-value
invariant-loop-value l = (l.ranks.items ≡ map (rank_in (values_in l.values)) (below l.value)) × (l.smaller ≡ rank_in (values_in l.values) l.value)
