use Rattle.std.proofs.Common.{◌≡◌, ◌<◌, ℕ, true}
use Rattle.wf_tree_steps.specs.Cover.Turns.{is_flat_by}
use Rattle.wf_tree_steps.proofs.cover.flat.is_flat_round.Given as goal

abbrev pub invariant-sheets : goal.invariant-sheets
invariant-sheets l = (s : ℕ) → s < l.sheet → is_flat_by l.round.cover.now.moves.items l.round.cover.now.sheets l.tuple l.first l.second l.third s ≡ true
