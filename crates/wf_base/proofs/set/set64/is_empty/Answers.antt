use Rattle.std.proofs.Common.{◌==◌, ◌∙◌, sym, ap}
use Rattle.wf_base.proofs.OfSet.PartLaws.{length-part_values, no_bit_test}
use Rattle.wf_base.proofs.set.set64.is_empty.Goals as goal

pub returns : goal.returns
returns c = no_bit_test c.args.part ∙ sym (ap (λ n. n == 0) (length-part_values c.args.part c.ranges.part.fits))
