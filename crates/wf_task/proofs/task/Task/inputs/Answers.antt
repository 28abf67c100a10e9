use Rattle.std.proofs.Common.{map, vec_items, sym, ap, ◌∙◌}
use Rattle.wf_model.specs.Task.{inputs}
use Rattle.wf_task.proofs.TaskSeen.{inputs-rules_seen}
use Rattle.wf_task.proofs.task.Task.inputs.Goals as goal

pub returns-clause-inputs : goal.returns-clause-inputs
returns-clause-inputs c =
    sym (inputs-rules_seen c.self.inside.inputs (map vec_items c.self.inside.tuples.items) c.self.invariant.each) ∙ ap inputs c.self.view_is
