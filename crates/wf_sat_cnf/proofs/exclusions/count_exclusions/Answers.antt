use Rattle.std.proofs.Common.{◌∙◌, map, ap}
use Rattle.wf_base.specs.Set.Sets.{values_in}
use Rattle.wf_sat_formula.specs.Branches.{ruled_out}
use Rattle.wf_sat_cnf.specs.Exclusions.{exclusions_at}
use Rattle.wf_sat_cnf.proofs.ExclusionLemmas.{counted_more}
use Rattle.wf_sat_cnf.proofs.exclusions.count_exclusions.Goals as goal

pub loop-point-preserved : goal.loop-point-preserved
loop-point-preserved c =
    let values = values_in c.args.values in
    let i = c.loop-point.point in
    counted_more (exclusions_at values (map values_in c.args.sets.now)) (ruled_out values i) i _ _ _ _ _
    (ap (map (ruled_out values i)) c.missing_in-missing.ensures) (c.from.ensures ∙ c.count.ensures) c.in_ok-total.ensures.1 c.loop-point.invariant
