-- What a solver's proof is accepted for is true.
use Rattle.std.proofs.Common.{subst}
use Rattle.wf_base.specs.Streams.Texts.{Wrote}
use Rattle.wf_run_verify.specs.Proofs.{ReadsProof}
use Rattle.wf_run_verify.specs.Headline.{RefutationsAreTrue}
use Rattle.wf_run.proofs.Lemmas.{done}

pub refutations_true : RefutationsAreTrue
refutations_true r task task' proof proof' sink sink' ran =
    let end = done ReadsProof r task task' proof proof' sink sink' ran in
    let (posed, models, (given, gave, is)) = end.read in
    (end.t, end.given, is.0.0, subst (λ text. Wrote sink sink' text) is.0.1 end.wrote)
