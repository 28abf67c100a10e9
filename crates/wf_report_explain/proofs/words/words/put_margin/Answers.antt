use Rattle.std.proofs.Common.{string_bytes, arith}
use Rattle.wf_report_explain.proofs.OfWords.Margins.{one_level, no_level}
use Rattle.wf_report_explain.proofs.words.words.put_margin.Goals as goal

pub loop-level-preserved : goal.loop-level-preserved
loop-level-preserved c = one_level c.args.depth c.loop-level._level (string_bytes c.loop-level.text) _ _ c.loop-level-test.true c.in_ok-write.ensures.bytes c.loop-level.invariant

pub returns : goal.returns
returns c = no_level c.args.depth c.loop-level._level (string_bytes c.loop-level.text) _ _ (omega (arith, c.loop-level-test.false)) c.in_ok-write-2.ensures.bytes c.loop-level.invariant
