use Rattle.std.proofs.Common.{subst}
use Rattle.wf_sat_check.specs.Rup.Seen.{HasNoModel}
use Rattle.wf_run_verify.specs.Proofs.{IsRefusedProof, ReadsBytes}
use Rattle.wf_run_verify.proofs.format.DratFormatProofFormat.read_from.Goals as goal

pub returns : goal.returns
returns g c =
    subst (λ known. ReadsBytes (λ given done. HasNoModel known) (λ given left. IsRefusedProof known given) c.args.source.now c.read_proof.new.source c.read_proof.result)
    c.new-reader.ensures.checker c.read_proof.ensures
