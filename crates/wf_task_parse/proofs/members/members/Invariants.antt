use Rattle.std.proofs.Common.{length}
use Rattle.wf_task_parse.proofs.TokensOfValues.{HasRead}
use Rattle.wf_task_parse.proofs.members.members.Given as goal

abbrev pub invariant-members : goal.invariant-members
invariant-members g l = HasRead g.S.Fields.hold g.S.Fields.deep l.initial.cursor l.fields l.cursor

abbrev pub decreases-members : goal.decreases-members
decreases-members g l = length l.cursor
