use Rattle.std.proofs.Common.{◌==◌, ◌∙◌, sym, ap}
use Rattle.std.proofs.lemmas.Nat.Bits.{shr_and_one}
use Rattle.wf_base.proofs.OfSet.PartLaws.{has-part_values}
use Rattle.wf_base.proofs.set.set64.has_bit.Goals as goal

pub returns : goal.returns
returns c = ap (λ n. n == 1) (shr_and_one c.args.part c.args.value) ∙ sym (has-part_values c.args.part c.args.value c.requires)
