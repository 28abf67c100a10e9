use Rattle.std.proofs.Common.{◌∙◌, sym, arith}
use Rattle.std.proofs.lemmas.Bool.{le-ltb}
use Rattle.wf_base.proofs.OfSet.PartLaws.{has_large}
use Rattle.wf_base.proofs.set.set64.contains.Goals as goal

pub returns-else-value-lt64-clause-has : goal.returns-else-value-lt64-clause-has
returns-else-value-lt64-clause-has c = le-ltb c.args.value 64 c.if-value-lt64.false ∙ sym (has_large c.args.part c.args.value (λ small. omega (arith, small, c.if-value-lt64.false)))
