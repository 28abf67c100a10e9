use Rattle.std.proofs.Common.{◌<◌, length, slice_index_or, ap, ◌∙◌, arith}
use Rattle.wf_model.specs.Word.{Word}
use Rattle.wf_simplex.specs.WordTable.{length-word_at}
use Rattle.wf_simplex.proofs.Words.{level_below, level_in_table}
use Rattle.wf_simplex.proofs.word.Word.level.Goals as goal

pub bounds-i : goal.bounds-i
bounds-i c = omega (arith, ap length c.self.view_is, length-word_at c.self.inside.size c.self.inside.index c.self.invariant, c.requires, c.self.invariant.few)

pub returns-clause-level : goal.returns-clause-level
returns-clause-level c =
    level_in_table c.self.inside.size c.self.inside.index c.args.i (omega (arith, ap length c.self.view_is, length-word_at c.self.inside.size c.self.inside.index c.self.invariant, c.requires))
    ∙ ap (λ (w : Word). slice_index_or w c.args.i 0) c.self.view_is

pub returns-clause-small : goal.returns-clause-small
returns-clause-small c =
    let inside : c.args.i < c.self.inside.size = omega (arith, ap length c.self.view_is, length-word_at c.self.inside.size c.self.inside.index c.self.invariant, c.requires) in
    let level = level_in_table c.self.inside.size c.self.inside.index c.args.i inside in
    omega (arith, level, level_below c.self.inside.size c.self.inside.index c.args.i c.self.invariant inside, ap length c.self.view_is, length-word_at c.self.inside.size c.self.inside.index c.self.invariant)
