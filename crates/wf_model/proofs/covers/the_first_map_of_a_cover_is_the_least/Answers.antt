use Rattle.wf_model.proofs.OrderedCovers.{first_least}
use Rattle.wf_model.proofs.covers.the_first_map_of_a_cover_is_the_least.Goals as goal

pub returns : goal.returns
returns c = λ p box boxes i m cover. first_least p box boxes cover i m
