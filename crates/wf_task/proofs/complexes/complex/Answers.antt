use Rattle.std.proofs.Common.{sym, subst}
use Rattle.wf_model.specs.Task.{IsSimplexWithin}
use Rattle.wf_task.proofs.Sizes.{seen_within}
use Rattle.wf_task.proofs.complexes.complex.Goals as goal

pub of_pairs-requires : goal.of_pairs-requires
of_pairs-requires c =
    subst (IsSimplexWithin 4 255) (sym c.deref.ensures) (seen_within c.args.listed.now c.loop-simplex.simplex-index c.simplex-item.result c.loop-simplex-test.true c.simplex-item.is c.requires.within)
