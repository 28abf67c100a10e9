use Rattle.std.proofs.Common.{arith}
use Rattle.wf_task_parse.specs.Shape.{entry_of}
use Rattle.wf_task_parse.specs.DraftSeen.{entry_seen}
use Rattle.wf_task_parse.specs.Members.{HoldEntry}
use Rattle.wf_task_parse.proofs.TokensOfValues.{takes-object-if}
use Rattle.wf_task_parse.proofs.members.DeltaEntryPlain.plain.Goals as goal

pub returns : goal.returns
returns c =
    takes-object-if HoldEntry 2 entry_of entry_seen c.entry.result c.args.cursor.now c.take_begin_object.new.self c.members.new.fields c.members.new.cursor
    (c.take_begin_object.ensures c.if-not-take_begin_object.false) (c.in_ok-members.ensures (grind arith)) c.entry.ensures
