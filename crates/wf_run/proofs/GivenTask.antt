-- The task that a source gave.
use Rattle.std.proofs.Common.{ℕ, List, Result, Ok, Err, sym, ap, ◌∙◌}
use Rattle.wf_model.specs.Limits.{most_bytes}
use Rattle.wf_model.specs.Task.{Task}
use Rattle.wf_base.specs.Streams.Seen.{Reading}
use Rattle.wf_base.specs.Streams.Texts.{ReadsText}
use Rattle.wf_base.specs.declared.streams.source.ReadFault.{ReadFault}
use Rattle.wf_task.specs.Judge.{task_of_text}
use Rattle.wf_run.specs.Run.{IsTaskOf, Judged}
use Rattle.wf_run.specs.Given.{GaveTask}

pub task_read : (old new : Reading) (text : Result (List ℕ) ReadFault) (t : Task) → ReadsText most_bytes old new text → Judged IsTaskOf text (Ok t) → GaveTask old new t
task_read old new (Ok text) t (given, gave, is) judged = (given, gave, ap task_of_text (sym is.0) ∙ judged)
task_read old new (Err e) t reads judged = absurd (let bad : ⊥ = cc in bad)
