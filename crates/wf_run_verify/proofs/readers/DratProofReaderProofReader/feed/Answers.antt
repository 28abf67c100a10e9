use Rattle.wf_run.specs.Faults.{of_proof}
use Rattle.wf_run_verify.proofs.ProofBytes.{piece_read, piece_refused}
use Rattle.wf_run_verify.proofs.ProofsToLines.{of_refusal}
use Rattle.wf_run_verify.proofs.readers.DratProofReaderProofReader.feed.Goals as goal

pub returns-in_err-feed-clause-refused : goal.returns-in_err-feed-clause-refused
returns-in_err-feed-clause-refused c =
    let now = c.args.self.now in
    let e = c.in_err-feed.field-0.0 in
    of_refusal _ (of_proof e) c.from_residual.result c.from_residual.ensures
    (λ begun given left read. piece_refused begun.checker given now.proof now.checker read c.args.piece.now c.feed.new.checker e c.in_err-feed.ensures.refused)

pub returns-clause-read : goal.returns-clause-read
returns-clause-read c begun given read =
    let now = c.args.self.now in
    piece_read begun.checker given now.proof now.checker read c.args.piece.now c.feed.new.self c.feed.new.checker c.feed.ensures.kept c.in_ok-feed.ensures.read
