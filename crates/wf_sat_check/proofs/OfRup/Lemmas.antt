-- What the crates above may use of these proofs.
pub use Rattle.wf_sat_check.proofs.OfRup.PosedLemmas.{posed_more, posed_none, some_itself}
pub use Rattle.wf_sat_check.proofs.OfRup.ProofPieces.{IsFed, fed_more, nothing_fed, refusal_at_end, refusal_fed}
pub use Rattle.wf_sat_check.proofs.OfRup.RatLemmas.{no-model-before, satisfiable-on, satisfiable-same}
