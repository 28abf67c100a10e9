use Rattle.wf_model.proofs.LeastSolutions.{answer_least, answer_none}
use Rattle.wf_model.proofs.search.the_canonical_answer.Goals as goal

pub returns : goal.returns
returns c = record { map = answer_least; none = answer_none }
