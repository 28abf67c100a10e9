use Rattle.std.proofs.Common.{arith}
use Rattle.wf_task_parse.proofs.CursorLemmas.{plain_more}
use Rattle.wf_task_parse.proofs.cursor.key_length.Goals as goal

pub loop-at-preserved : goal.loop-at-preserved
loop-at-preserved c = record {
  bound = omega arith;
  plain = plain_more c.args.text.now c.loop-at.at c.loop-at-test.true (c.is_key_byte.ensures c.if-is_key_byte.true) c.loop-at.invariant.plain;
}
