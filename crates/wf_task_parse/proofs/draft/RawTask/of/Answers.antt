use Rattle.std.proofs.Common.{codes}
use Rattle.serde_json.specs.View.{view}
use Rattle.wf_task_parse.proofs.Counts.{part_under}
use Rattle.wf_task_parse.proofs.draft.RawTask.of.Goals as goal

pub read_list_member-requires : goal.read_list_member-requires
read_list_member-requires c = part_under (codes "inputs") (view c.args.value.now) _ c.get-5.ensures c.requires

pub read_list_member-requires-2 : goal.read_list_member-requires-2
read_list_member-requires-2 c = part_under (codes "outputs") (view c.args.value.now) _ c.get-6.ensures c.requires

pub read_list_member-requires-3 : goal.read_list_member-requires-3
read_list_member-requires-3 c = part_under (codes "delta") (view c.args.value.now) _ c.get-7.ensures c.requires
