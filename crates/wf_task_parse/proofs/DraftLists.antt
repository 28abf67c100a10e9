-- What a draft of a text has.
use Rattle.std.proofs.Common.{◌≡◌, ℕ, List, length, ◌≤◌, Result, Ok, Err, IfOk, arith}
use Rattle.serde_json.specs.Data.{Data}
use Rattle.wf_task_parse.specs.declared.draft.RawTask.{RawTask}
use Rattle.wf_task_parse.specs.declared.fault.TaskFault.{TaskFault}
use Rattle.wf_task_parse.specs.declared.fault.TaskFault.TheVariants.{NotJson}
use Rattle.wf_task_parse.specs.RawTask.{Listed, Gives, or_fault, draft_of}
use Rattle.wf_task_parse.specs.DraftSeen.{draft_seen}
use Rattle.wf_task_parse.specs.Listed.{ListsFew, ListsVertices}
use Rattle.wf_task_parse.specs.Parts.{IsOfText}
use Rattle.wf_task_parse.specs.Text.{json_of, draft_in}
use Rattle.wf_task_parse.proofs.Counts.{parts-json_of, found_value}
use Rattle.wf_task_parse.proofs.DraftSizes.{few_listed}
use Rattle.wf_task_parse.proofs.Vertices.{chained, vertices_listed}

-- ---- of a value

pub vertices_of_value : (d : Data) (r : Result RawTask TaskFault) → Gives draft_seen r (draft_of d) → IfOk r (λ draft. ListsVertices (draft_seen draft))
vertices_of_value d (Ok draft) h = vertices_listed d (draft_seen draft) h
vertices_of_value d (Err e) h = tt

pub few_of_value : (d : Data) (r : Result RawTask TaskFault) → IsOfText d → Gives draft_seen r (draft_of d) → IfOk r (λ draft. ListsFew (draft_seen draft))
few_of_value d (Ok draft) part h = few_listed d (draft_seen draft) part h
few_of_value d (Err e) part h = tt

-- ---- of a text

pub vertices_of_text : (bytes : List ℕ) (listed : Listed) → draft_in bytes ≡ Ok listed → ListsVertices listed
vertices_of_text bytes listed h =
    let value = chained (or_fault NotJson (json_of bytes)) draft_of listed h in
    vertices_listed value.0 listed value.2

pub few_of_text : (bytes : List ℕ) (listed : Listed) → length bytes ≤ 16777216 → draft_in bytes ≡ Ok listed → ListsFew listed
few_of_text bytes listed few h =
    let value = chained (or_fault NotJson (json_of bytes)) draft_of listed h in
    let parts = parts-json_of bytes value.0 (found_value (json_of bytes) value.0 value.1) in
    few_listed value.0 listed (omega (arith, parts, few)) value.2
