use Rattle.std.proofs.Common.{ap, arith}
use Rattle.std.proofs.lemmas.Option.{IfSome_then}
use Rattle.std.specs.Result.{result_ok}
use Rattle.wf_task_parse.specs.RawTask.{draft_of}
use Rattle.wf_task_parse.specs.DraftSeen.{draft_seen}
use Rattle.wf_task_parse.specs.Members.{HoldDraft}
use Rattle.wf_task_parse.proofs.TokensOfValues.{takes-object-if}
use Rattle.wf_task_parse.proofs.members.plain_draft.Goals as goal

pub returns : goal.returns
returns c =
    takes-object-if HoldDraft 4 (λ d. result_ok (draft_of d)) draft_seen c.draft.result c.args.cursor.now c.take_begin_object.new.self c.members.new.fields c.members.new.cursor
    (c.take_begin_object.ensures c.if-not-take_begin_object.false) (c.in_ok-members.ensures (grind arith))
    (IfSome_then c.draft.result c.draft.ensures (λ draft known ms hold. ap result_ok (known ms hold)))
