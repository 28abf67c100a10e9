use Rattle.std.proofs.Common.{arith, sym, ◌∙◌}
use Rattle.wf_task_parse.proofs.CursorLemmas.{blank_more}
use Rattle.wf_task_parse.proofs.cursor.trim_start_slow.Goals as goal

pub loop-at-preserved : goal.loop-at-preserved
loop-at-preserved c = record {
  bound = omega arith;
  same = blank_more c.args.text.now c.loop-at.at c.loop-at-test.true (sym c.is_blank.ensures ∙ c.if-is_blank.true) ∙ c.loop-at.invariant.same;
}
