-- What is printed of a refusal: its number and its name.
use Rattle.std.specs.Prelude.{ℕ, List, codes}
use Rattle.wf_task_parse.specs.FaultText as task_text
use Rattle.wf_task_parse.specs.declared.fault.TaskFault.TheVariants as task
use Rattle.wf_complex.specs.declared.fault.BuildFault.{BuildFault}
use Rattle.wf_complex.specs.declared.fault.BuildFault.TheVariants.{Rounds, TooManyExecutions, OutOfMemory}

abbrev pub fault_text : BuildFault → List ℕ
fault_text Rounds = codes "16 Rounds"
fault_text TooManyExecutions = codes "17 TooManyExecutions"
fault_text OutOfMemory = task_text.fault_text task.OutOfMemory
