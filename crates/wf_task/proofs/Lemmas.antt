-- What the crates above may use of these proofs.
pub use Rattle.wf_task.proofs.CanonicalLoops.{pair_at}
pub use Rattle.wf_task.proofs.DifferentNumbers.{Differ, all_different-from, differ, different-among, different-few, different-new, different-old}
pub use Rattle.wf_task.proofs.DraftsWithoutFault.{complex_is, has-list, has-some, has_from_order, list-has, seen_by, within_more}
pub use Rattle.wf_task.proofs.EntrySlots.{inner}
pub use Rattle.wf_task.proofs.ExtendedValues.{length-zip-same, map-part, named, processes-zip-same, repeated, single-part, sorted-zips, unzipped}
pub use Rattle.wf_task.proofs.Facets.{facets-pure, vertex_of_part}
pub use Rattle.wf_task.proofs.Images.{complex_of-same, facet-in, has-images, images, images-has, nonempty-long, part-face}
pub use Rattle.wf_task.proofs.Listings.{below-has, each_has, get_or-lists_of, has-below, has-lists_of, has_each, length-among, length-lists_of, length-pieces, list_at, lists_of-has, some_lists, sorted-below, sorted-lists_of, sorted-pairs}
pub use Rattle.wf_task.proofs.RowLemmas.{tuple_cmp-Equal, value_there}
pub use Rattle.wf_task.proofs.Sizes.{sum_by-map}
pub use Rattle.wf_task.proofs.TupleLemmas.{length-zip_processes, paired, zip_within}
pub use Rattle.wf_simplex.proofs.Lemmas.{contains-has, has-map, map-has}
