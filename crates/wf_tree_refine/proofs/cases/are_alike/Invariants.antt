use Rattle.std.proofs.Common.{◌≡◌, ◌<◌, ℕ, slice_index}
use Rattle.wf_model.specs.Simplex.{values_of}
use Rattle.wf_tree_refine.proofs.cases.are_alike.Given as goal

abbrev pub invariant-places : goal.invariant-places
invariant-places l = (i : ℕ) → i < l.place → slice_index (values_of l.one) i ≡ slice_index (values_of l.other) i
