-- Which task a source gave.
use Rattle.std.specs.Prelude.{◌≡◌, ℕ, List, Ok}
use Rattle.wf_model.specs.Task.{Task}
use Rattle.wf_base.specs.Streams.Seen.{Reading}
use Rattle.wf_base.specs.Streams.Texts.{GaveAll}
use Rattle.wf_task.specs.Judge.{task_of_text}

-- the source gave the bytes of this task
abbrev pub GaveTask : Reading → Reading → Task → Type 0
GaveTask old new t = (bytes : List ℕ) × GaveAll old new bytes × (task_of_text bytes ≡ Ok t)
