use Rattle.std.proofs.Common.{ap}
use Rattle.wf_task_parse.specs.declared.fault.TaskFault.TheVariants.{NotJson}
use Rattle.wf_task_parse.specs.RawTask.{or_fault}
use Rattle.wf_task_parse.proofs.Texts.{json_of-some, json_of-none}
use Rattle.wf_task_parse.proofs.text.json.Goals as goal

pub returns-in-Ok : goal.returns-in-Ok
returns-in-Ok c = ap (or_fault NotJson) (json_of-some _ _ c.in-Ok.ensures.ok.0 c.in-Ok.ensures.ok.1)

pub returns-in_default : goal.returns-in_default
returns-in_default c =
    ap (or_fault NotJson) (json_of-none _ (c.in-Err.ensures.err (λ m. c.in_default.not-Memory (c.classify.ensures.memory.1 m))))
