use Rattle.wf_box.proofs.PlaceLemmas.{parts_lacked}
use Rattle.wf_box.proofs.candidates.ArraySet644Candidates.lost.Goals as goal

pub returns : goal.returns
returns c = parts_lacked c.args.self.now c.args.supported.now c.difference.result c.args.place c.difference.ensures
