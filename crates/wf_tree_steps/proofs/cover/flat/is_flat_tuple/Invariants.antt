use Rattle.std.proofs.Common.{◌≡◌, ◌<◌, ℕ, true}
use Rattle.wf_tree_steps.specs.Cover.Turns.{is_flat_from}
use Rattle.wf_tree_steps.proofs.cover.flat.is_flat_tuple.Given as goal

abbrev pub invariant-places : goal.invariant-places
invariant-places l = (i : ℕ) → i < l.first → is_flat_from l.round.cover.now.moves.items l.round.cover.now.sheets l.tuple i ≡ true
