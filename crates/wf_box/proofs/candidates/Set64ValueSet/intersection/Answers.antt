use Rattle.wf_box.proofs.TakingLemmas.{gone_part}
use Rattle.wf_box.proofs.candidates.Set64ValueSet.intersection.Goals as goal

pub returns : goal.returns
returns c = gone_part c.args.self c.low_set64.result c.intersection.result c.args.set c.low_set64.ensures c.intersection.ensures
