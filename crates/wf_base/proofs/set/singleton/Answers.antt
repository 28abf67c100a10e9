use Rattle.std.proofs.Common.{arith}
use Rattle.wf_base.proofs.OfSet.SetLaws.{alone_in_first, alone_in_second, alone_in_third, alone_in_fourth}
use Rattle.wf_base.proofs.set.singleton.Goals as goal

pub returns-then-value-lt64 : goal.returns-then-value-lt64
returns-then-value-lt64 c = alone_in_first c.args.value c.singleton-bit.result (omega (arith, c.if-value-lt64.true)) c.singleton-bit.ensures

pub returns-then-value-lt128 : goal.returns-then-value-lt128
returns-then-value-lt128 c = alone_in_second c.args.value c.singleton-bit.result (omega (arith, c.if-value-lt64.false, c.if-value-lt128.true)) c.singleton-bit.ensures

pub returns-then-value-lt192 : goal.returns-then-value-lt192
returns-then-value-lt192 c = alone_in_third c.args.value c.singleton-bit.result (omega (arith, c.if-value-lt128.false, c.if-value-lt192.true)) c.singleton-bit.ensures

pub returns-else-value-lt192 : goal.returns-else-value-lt192
returns-else-value-lt192 c = alone_in_fourth c.args.value c.singleton-bit.result (omega (arith, c.if-value-lt192.false, c.ranges.value.fits)) c.singleton-bit.ensures
