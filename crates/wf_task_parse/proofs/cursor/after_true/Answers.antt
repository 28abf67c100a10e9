use Rattle.std.proofs.Common.{arith}
use Rattle.wf_task_parse.proofs.CursorLemmas.{front_four}
use Rattle.wf_task_parse.proofs.cursor.after_true.Goals as goal

pub returns-in-116 : goal.returns-in-116
returns-in-116 c = (
  front_four c.args.text.now 116 114 117 101 (omega arith) (omega arith) (omega arith) (omega arith) (omega arith),
  c.ends_word.ensures c.if-ends_word.true,
)
