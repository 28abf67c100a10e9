use Rattle.std.proofs.Common.{◌≡◌, ◌+◌, ◌-◌, ◌≤◌, length}
use Rattle.wf_run_verify.specs.Proofs.{most_proof_bytes}
use Rattle.wf_run_verify.proofs.ProofsToLines.{IsRead}
use Rattle.wf_run_verify.proofs.pieces.read_pieces.Given as goal

abbrev pub invariant-pieces : goal.invariant-pieces
invariant-pieces g l = IsRead l.initial.source l.source (λ given. g.R.ProofReader.has_read l.initial.reader given l.reader) l.given × (l.given ≤ most_proof_bytes + 1) × (l.source.taken ≡ l.initial.source.taken + l.given) × (l.source.failures ≡ l.initial.source.failures) × (length l.piece ≡ length l.initial.piece)

abbrev pub decreases-pieces : goal.decreases-pieces
decreases-pieces g l = most_proof_bytes + 1 - l.given
