use Rattle.wf_model.proofs.OrderedCovers.{in_order, in_exactly_one}
use Rattle.wf_model.proofs.covers.boxes_of_a_cover_are_in_order.Goals as goal

pub returns : goal.returns
returns c = record {
  in_order = λ p box boxes i j m n cover. in_order p box boxes cover i j m n;
  exactly_one = λ p box boxes m cover. in_exactly_one p box boxes cover m;
}
