-- What a clause sees of the program's drafts.
use Rattle.std.specs.Prelude.{map}
use Rattle.wf_model.specs.Simplex.{Simplex}
use Rattle.wf_model.specs.Task.{Rule}
use Rattle.wf_task_parse.specs.declared.shape.DeltaEntry.{DeltaEntry}
use Rattle.wf_task_parse.specs.declared.shape.ListedSimplex.{ListedSimplex}
use Rattle.wf_task_parse.specs.declared.draft.RawTask.{RawTask}
use Rattle.wf_task_parse.specs.Shape.{rule_of}
use Rattle.wf_task_parse.specs.RawTask.{Listed}

abbrev pub pairs_seen : ListedSimplex → Simplex
pairs_seen s = s.pairs.items

abbrev pub entry_seen : DeltaEntry → Rule
entry_seen e = rule_of e.input.pairs.items (map (λ t. t.items) e.tuples.items)

abbrev pub draft_seen : RawTask → Listed
draft_seen draft = record {
  version = draft.version;
  least_block = draft.least_block;
  processes = draft.processes;
  symmetric = draft.symmetric;
  inputs = map pairs_seen draft.inputs.items;
  outputs = map pairs_seen draft.outputs.items;
  delta = map entry_seen draft.delta.items;
}
