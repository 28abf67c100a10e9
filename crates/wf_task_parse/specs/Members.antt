-- Which members of an object the fields of an entry and of a draft hold.
use Rattle.std.specs.Prelude.{◌≡◌, ◌+◌, map, codes}
use Rattle.serde_json.specs.Data.{Members}
use Rattle.serde_json.specs.Find.{as_bool}
use Rattle.serde_json.specs.Events.{members_len}
use Rattle.wf_task_parse.specs.declared.members.EntryFields.{EntryFields}
use Rattle.wf_task_parse.specs.declared.members.RawTaskFields.{RawTaskFields}
use Rattle.wf_task_parse.specs.Shape.{whole_of, list_of, simplex_of, tuples_of, entry_of}
use Rattle.wf_task_parse.specs.DraftSeen.{pairs_seen, entry_seen}
use Rattle.wf_task_parse.specs.Plain.{Stands, held}

-- each field has what stands under its key, and there is no further member
pub record HoldEntry (fields : EntryFields) (ms : Members) : Type 0 where
  pub input : Stands simplex_of pairs_seen (codes "in") ms fields.input
  pub tuples : Stands tuples_of (λ v. map (λ t. t.items) v.items) (codes "out") ms fields.tuples
  pub count : members_len ms ≡ held fields.input + held fields.tuples

pub record HoldDraft (fields : RawTaskFields) (ms : Members) : Type 0 where
  pub version : Stands whole_of (λ n. n) (codes "version") ms fields.version
  pub least_block : Stands whole_of (λ n. n) (codes "first_block") ms fields.least_block
  pub processes : Stands whole_of (λ n. n) (codes "processes") ms fields.processes
  pub symmetric : Stands as_bool (λ b. b) (codes "symmetric") ms fields.symmetric
  pub inputs : Stands (list_of simplex_of) (λ v. map pairs_seen v.items) (codes "inputs") ms fields.inputs
  pub outputs : Stands (list_of simplex_of) (λ v. map pairs_seen v.items) (codes "outputs") ms fields.outputs
  pub delta : Stands (list_of entry_of) (λ v. map entry_seen v.items) (codes "delta") ms fields.delta
  pub count : members_len ms
      ≡ held fields.version + held fields.least_block + held fields.processes + held fields.symmetric + held fields.inputs + held fields.outputs + held fields.delta
