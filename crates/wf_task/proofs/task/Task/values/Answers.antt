use Rattle.std.proofs.Common.{ap, ◌∙◌}
use Rattle.wf_model.specs.Task.{values}
use Rattle.wf_task.specs.TaskSeen.{task_seen}
use Rattle.wf_task.proofs.TaskValues.{mask_values}
use Rattle.wf_task.proofs.task.Task.values.Goals as goal

pub returns : goal.returns
returns c = record {
  values = mask_values (task_seen c.self.inside) c.self.inside.values c.self.invariant.values ∙ ap values c.self.view_is;
}
