use Rattle.std.proofs.Common.{◌≡◌, ◌<◌, ℕ, true}
use Rattle.wf_tree_steps.specs.Cover.Turns.{is_flat_between}
use Rattle.wf_tree_steps.proofs.cover.flat.is_flat_from.Given as goal

abbrev pub invariant-places : goal.invariant-places
invariant-places l = (j : ℕ) → j < l.second → is_flat_between l.round.cover.now.moves.items l.round.cover.now.sheets l.tuple l.first j ≡ true
