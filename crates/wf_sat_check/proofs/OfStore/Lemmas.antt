-- What the crates above may use of these proofs.
pub use Rattle.wf_sat_check.proofs.OfStore.TrailLemmas.{All-has, All-has_front, has-behind, has-first, has-front, has-with, has-with_same, other_test, same_test}
