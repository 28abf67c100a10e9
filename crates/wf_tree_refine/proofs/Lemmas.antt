-- What the crates above may use of these proofs.
pub use Rattle.wf_tree_refine.proofs.Assembling.{choices_long, element_has, left_after, left_short, rule_below, step_at_hand}
pub use Rattle.wf_tree_refine.proofs.CaseSteps.{filter_step, good_rule, length-rules_seen, length_pushed, made_at_hand, rows_pushed, rule_found, rule_here, rule_with}
pub use Rattle.wf_tree_refine.proofs.ChoiceSets.{choices_alike}
pub use Rattle.wf_tree_refine.proofs.KeyLemmas.{each_place, from_each_place}
pub use Rattle.wf_tree_refine.proofs.LargestSteps.{value_more}
pub use Rattle.wf_tree_refine.proofs.Making.{more_made, rows_counted, too_many_more}
pub use Rattle.wf_tree_refine.proofs.PartFaces.{keep_long}
pub use Rattle.wf_tree_refine.proofs.SplitSteps.{face_keeps, few_tuples, too_many_tuples}
