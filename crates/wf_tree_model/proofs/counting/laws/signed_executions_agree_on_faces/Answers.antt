use Rattle.wf_tree_model.proofs.OfCounting.Signed.{agree_on_faces, add_up_to_one}
use Rattle.wf_tree_model.proofs.counting.laws.signed_executions_agree_on_faces.Goals as goal

pub returns-clause-faces : goal.returns-clause-faces
returns-clause-faces c = agree_on_faces

pub returns-clause-one : goal.returns-clause-one
returns-clause-one c = add_up_to_one
