use Rattle.std.proofs.Common.{◌≡◌, drop}
use Rattle.wf_task_parse.specs.DraftSeen.{draft_seen}
use Rattle.wf_task.specs.Judge.{first_answer, no_output}
use Rattle.wf_task.proofs.tuples.first_no_output.Given as goal

abbrev pub invariant-loop-number : goal.invariant-loop-number
invariant-loop-number l = first_answer (no_output (draft_seen l.draft)) l.number (drop l.number l.inputs) ≡ first_answer (no_output (draft_seen l.draft)) 0 l.inputs
