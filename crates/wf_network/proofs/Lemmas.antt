-- What the crates above may use of these proofs.
pub use Rattle.wf_network.proofs.ProblemLemmas.{Known, known_at}
pub use Rattle.wf_network.proofs.NetworkLemmas.{execution_is, execution_told, execution_within, few_at, rule_known, within_now}
pub use Rattle.wf_network.proofs.LeftLemmas.{left_supports}
pub use Rattle.wf_network.proofs.PackedLemmas.{same_parts}
