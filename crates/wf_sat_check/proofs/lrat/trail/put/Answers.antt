use Rattle.wf_sat_check.proofs.OfLrat.LiteralLemmas.{put-literals}
use Rattle.wf_sat_check.proofs.lrat.trail.put.Goals as goal

pub returns-clause-exact : goal.returns-clause-exact
returns-clause-exact c = put-literals c.put.result c.args.trail.now c.put.new.self c.args.literal c.put.ensures.exact
