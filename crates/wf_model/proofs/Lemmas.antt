-- What the crates above may use of these proofs.
pub use Rattle.wf_model.proofs.Ascending.{Ascends, ascends_filter, ascends_from, has_in_order, in_order_ascends, is_ascending_from}
pub use Rattle.wf_model.proofs.Basics.{and_turned, below_next, by_place, equal_turned, has-filter, has_at-take, length-below, nat_cmp-Less, or_assoc, or_none, some_of, suc_not_zero}
pub use Rattle.wf_model.proofs.CanonicalRefutations.{canonical_none_refutes}
pub use Rattle.wf_model.proofs.CanonicalSteps.{Leaves, canonical_step, count_cons, count_set_less, length_filter, open_point}
pub use Rattle.wf_model.proofs.ClosedBoxes.{closed_branch, each_with_value}
pub use Rattle.wf_model.proofs.ClosingKeeps.{Ascending}
pub use Rattle.wf_model.proofs.FaultlessLines.{accepted, root_accepted}
pub use Rattle.wf_model.proofs.FilledOutlines.{boxes_append, boxes_outline, few_branches, filled_refutes}
pub use Rattle.wf_model.proofs.Headline.{always, both, each_append, each_distinct, each_filter, each_flat, each_map, each_of_map, lies_in_root}
pub use Rattle.wf_model.proofs.LastSweep.{each_has, filter_less, lost_present}
pub use Rattle.wf_model.proofs.LeastChecked.{accepted_leads, leading_lines_accepted}
pub use Rattle.wf_model.proofs.LeastSolutions.{answer_least, answer_none, canonical_answers, canonical_least, each_decided, root_is_box, solution_in_root}
pub use Rattle.wf_model.proofs.LeastTrees.{tree_least}
pub use Rattle.wf_model.proofs.LinesToMaps.{canonical_leads}
pub use Rattle.wf_model.proofs.MapsAreSolutions.{Among, among_append_left, among_append_right, among_distinct, among_filtered, by_number, classes_are_points, each_among_itself, listed_solves, number_below, same_is, same_itself, solution_decides, value_at_number, weaker}
pub use Rattle.wf_model.proofs.Numbers.{Apart, apart_distinct, appearances_points, listed_by_number, map_distinct, map_same, other_way}
pub use Rattle.wf_model.proofs.Order.{below_itself, below_one_way, only, position_none}
pub use Rattle.wf_model.proofs.OrderedCovers.{first_least, in_exactly_one, in_order, one_least, split_closed, split_covers}
pub use Rattle.wf_model.proofs.OutlinesAsSearches.{filled_canonical, filled_leads}
pub use Rattle.wf_model.proofs.Ranks.{count, normal_counted, normal_within, one_if, ranks_apart, renamed_as_it_is, renamed_each_as_it_is}
pub use Rattle.wf_model.proofs.RefutingLines.{box_accepts, each_at}
pub use Rattle.wf_model.proofs.SolutionTests.{faultless, satisfies_says, satisfies_tests}
pub use Rattle.wf_model.proofs.SolvedBoxes.{sweep_nothing}
pub use Rattle.wf_model.proofs.Tasks.{inputs_are, inputs_within, on_processes, outputs_within, up_to}
pub use Rattle.wf_model.proofs.TreesAreSound.{has_value, none_refutes, point_within}
pub use Rattle.wf_model.proofs.Tuples.{has_at_past, has_at_place}
pub use Rattle.wf_model.proofs.WellFormed.{base_processes, each_execution_with, each_of_lists, last_processes, nonempty_length, scope_processes, task_listed, task_well_formed, values_of_zip, words_long}
pub use Rattle.wf_model.proofs.WholeReports.{both_pass, canonical_least_accepted, canonical_none_accepted, least_listed, least_tree_accepted, lines_lead, lines_refute, map_accepted, map_decides, map_listed, no_fault, numbers, numbers_pass, right_numbers}
