use Rattle.std.proofs.Common.{arith}
use Rattle.wf_task_parse.proofs.CursorLemmas.{front_five}
use Rattle.wf_task_parse.proofs.cursor.after_false.Goals as goal

pub returns-in-102 : goal.returns-in-102
returns-in-102 c = (
  front_five c.args.text.now 102 97 108 115 101 (omega arith) (omega arith) (omega arith) (omega arith) (omega arith) (omega arith),
  c.ends_word.ensures c.if-ends_word.true,
)
