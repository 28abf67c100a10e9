use Rattle.std.proofs.Common.{◌≡◌, ◌<◌, ℕ, true}
use Rattle.wf_tree_steps.specs.Cover.Turns.{is_flat_round}
use Rattle.wf_tree_steps.proofs.cover.flat.is_flat_between.Given as goal

abbrev pub invariant-places : goal.invariant-places
invariant-places l = (k : ℕ) → k < l.third → is_flat_round l.round.cover.now.moves.items l.round.cover.now.sheets l.tuple l.first l.second k ≡ true
