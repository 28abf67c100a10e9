-- What the crates above may use of these proofs.
pub use Rattle.wf_simplex.proofs.Allowed.{each_pair}
pub use Rattle.wf_simplex.proofs.Ascent.{ascends_below, ascent_below, low_processes}
pub use Rattle.wf_simplex.proofs.BoundedFaces.{all_of_has, climbs, complex_within, face_within, has_of_all, length-within, read_fault-within}
pub use Rattle.wf_simplex.proofs.Faces.{begins, complex_closed, complex_of-complex_of, complex_of-sorted, filter-has, flat_map-has, has-filter, has-flat_map, is_in_complex, length-faces_of, of_some_facet, part_of_part, whole_is_part}
pub use Rattle.wf_simplex.proofs.Orders.{Has, contains-has, has-append, has-append_left, has-append_right, has-in_order, has-map, has_at_place, in_order-dedup, in_order-has, in_order-in_order, in_order-same, in_order-sorted, insert_key-with_element, length-in_order, map-has, same_in_order, sorted-in_order}
pub use Rattle.wf_simplex.proofs.Places.{place_by_number, place_none, place_some}
pub use Rattle.wf_simplex.proofs.Tables.{nonempty_of_simplex}
