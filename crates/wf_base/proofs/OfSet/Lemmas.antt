-- What the crates above may use of these proofs.
pub use Rattle.wf_base.proofs.OfSet.Boxes.{one_value, same_sets, set_at}
pub use Rattle.wf_base.proofs.OfSet.Listing.{values_listed}
pub use Rattle.wf_base.proofs.OfSet.PartLaws.{by_two, few_values, filter_nothing, has-part_values, has_large, holds_nothing, one_bit, part_holds-or, part_holds-pow, run_agrees, run_of_none, values_of_nothing, values_small}
pub use Rattle.wf_base.proofs.OfSet.SetLaws.{in_four, length-values_in, part_of, values_ascend, values_of_first, values_of_part}
