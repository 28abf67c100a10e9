-- The JSON value of some bytes, and the draft that it lists.
use Rattle.std.specs.Prelude.{ℕ, List, Option, None, Result, if◌then◌else◌}
use Rattle.std.specs.Str.{is_utf8}
use Rattle.serde_json.specs.Read.{read}
use Rattle.serde_json.specs.Data.{Data}
use Rattle.wf_task_parse.specs.declared.fault.TaskFault.{TaskFault}
use Rattle.wf_task_parse.specs.declared.fault.TaskFault.TheVariants.{NotJson}
use Rattle.wf_task_parse.specs.RawTask.{Listed, ◌>>=◌, or_fault, draft_of}

-- the value of a text, where the bytes are UTF-8 and have a reading
unfoldable pub json_of : List ℕ → Option Data
json_of bytes = if is_utf8 bytes then read bytes else None

-- the draft that a text lists, or its first fault
abbrev pub draft_in : List ℕ → Result Listed TaskFault
draft_in bytes = or_fault NotJson (json_of bytes) >>= draft_of
