-- What the crates above may use of these proofs.
pub use Rattle.wf_sat_formula.proofs.Branches.{is_model_in}
pub use Rattle.wf_sat_formula.proofs.Members.{each_below, has_each}
pub use Rattle.wf_sat_formula.proofs.MinimalPatterns.{IsEntry, each_minimal}
pub use Rattle.wf_sat_formula.proofs.Tasks.{unsatisfiable_where}
pub use Rattle.wf_sat_formula.proofs.Variables.{rank_most}
