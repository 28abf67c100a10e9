use Rattle.std.proofs.Common.{subst}
use Rattle.wf_run_verify.specs.Hints.{AreAcceptedHints, AreRefusedHints}
use Rattle.wf_run_verify.specs.Proofs.{ReadsBytes}
use Rattle.wf_run_verify.proofs.format.LratFormatProofFormat.read_from.Goals as goal

pub returns : goal.returns
returns g c =
    subst (λ ledger. ReadsBytes (λ given done. AreAcceptedHints ledger given) (AreRefusedHints ledger) c.args.source.now c.read_proof.new.source c.read_proof.result)
    c.new-reader.ensures.checker c.read_proof.ensures
