use Rattle.wf_base.specs.Set.Sets.{values_in}
use Rattle.wf_sat_formula.specs.Encoding.{least_true}
use Rattle.wf_sat_cnf.specs.Models.{assigned}
use Rattle.wf_sat_cnf.proofs.TextLemmas.{ranks_more}
use Rattle.wf_sat_cnf.proofs.models.least_values.Goals as goal

pub loop-point-preserved : goal.loop-point-preserved
loop-point-preserved c =
    ranks_more (least_true (values_in c.args.variables.now.values) (assigned c.args.truths.now)) c.loop-point.point c.loop-point.found.items c.push.new.self.items c.least_value.result
    c.in_ok-push.ensures.items c.least_value.ensures c.loop-point.invariant
