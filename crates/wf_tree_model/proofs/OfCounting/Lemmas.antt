-- What the crates above may use of these proofs.
pub use Rattle.wf_tree_model.proofs.OfCounting.ComputedTests.{is_task, passes_task}
pub use Rattle.wf_tree_model.proofs.OfCounting.Faces.{listed_rule, on_each_face}
pub use Rattle.wf_tree_model.proofs.OfCounting.LastViews.{last_long, long_between, processes_ascend}
pub use Rattle.wf_tree_model.proofs.OfCounting.Lists.{Between, contained, each, each_of_flat, each_passes, map_same_on, pushed}
pub use Rattle.wf_tree_model.proofs.OfCounting.Remainders.{both_same, taken_away}
pub use Rattle.wf_tree_model.proofs.OfCounting.Renaming.{places, same_classes}
pub use Rattle.wf_tree_model.proofs.OfCounting.Rounds.{length_keep, marginal, nobody, over, round_long}
pub use Rattle.wf_tree_model.proofs.OfCounting.Sums.{keep_map, total_add, total_append, total_none, total_same}
pub use Rattle.wf_tree_model.proofs.OfCounting.Words.{numbers_equal, numbers_same, round_rows, rows, view_of}
