use Rattle.wf_model.proofs.RefutingLines.{root_accepts}
use Rattle.wf_model.proofs.refutations.refuting_lines_are_accepted.Goals as goal

pub returns : goal.returns
returns c = λ p k t well. root_accepts p well k t
