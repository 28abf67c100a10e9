use Rattle.std.proofs.Common.{length, sym, subst, arith}
use Rattle.wf_complex.specs.Table.{IsEntry, is_base}
use Rattle.wf_complex.proofs.views.Views.base.Goals as goal

pub number-requires-clause-entry : goal.number-requires-clause-entry
number-requires-clause-entry c =
    subst (IsEntry (length c.args.self.now)) (sym c.input.ensures) (is_base c.args.process c.args.value c.requires.process (omega (arith, c.ranges.value.fits)))
