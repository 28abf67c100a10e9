-- What the crates above may use of these proofs.
pub use Rattle.wf_tree_model.proofs.Members.{any_has, contains, from_each, has_any, passes_each}
pub use Rattle.wf_tree_model.proofs.Places.{map_twice}
pub use Rattle.wf_tree_model.proofs.TreesLeaveNoMap.{obstruction_leaves_no_map}
