-- What the crates above may use of these proofs.
pub use Rattle.wf_sat_check.proofs.OfLrat.FedLemmas.{refuted_outcome}
pub use Rattle.wf_sat_check.proofs.OfLrat.ModelLemmas.{no_model_before, refutes_formula, satisfiable_on, satisfiable_same}
pub use Rattle.wf_sat_check.proofs.OfLrat.PieceLemmas.{outcome-pieces, resumed}
