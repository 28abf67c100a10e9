use Rattle.wf_lane.proofs.BlockLemmas.{wanted_occur}
use Rattle.wf_lane.proofs.column.Column.wanted.Goals as goal

pub returns-clause-occur : goal.returns-clause-occur
returns-clause-occur c = wanted_occur c.args.self.now c.args.candidates c.intersection.result c.intersection.ensures
