use Rattle.std.proofs.Common.{[], Some, Ok, Err, ap, ◌∙◌}
use Rattle.wf_model.specs.Report.{none}
use Rattle.wf_sat_formula.specs.Encoding.{question}
use Rattle.wf_sat_formula.proofs.Lemmas.{unsatisfiable_where}
use Rattle.wf_run.specs.declared.fault.RunFault.TheVariants.{OutOfMemory}
use Rattle.wf_run_verify.specs.Proofs.{IsAcceptedNone}
use Rattle.wf_run_verify.specs.Verify.{accepted_text}
use Rattle.wf_run_verify.proofs.ProofsToLines.{refused_so, told, untold}
use Rattle.wf_run_verify.proofs.proof.CheckProofComplexAnswer.read_about.Goals as goal

pub returns-in_err-text : goal.returns-in_err-text
returns-in_err-text g c =
    let t = c.args.subject.now.task.now in
    let r = c.args.subject.now.protocol.now.rounds in
    let checker = c.in_ok-checker.checker in
    let old = c.args.source.now in
    let new = c.read_from.new.source in
    let posed = g.met.P.ProofFormat.is_known (question t r) checker c.in_ok-checker.ensures in
    refused_so (g.P.ProofFormat.reads (question t r) (IsAcceptedNone t r) old new) OutOfMemory c.from_residual-in_err-text.result c.from_residual-in_err-text.ensures
    (g.P.ProofFormat.is_read (question t r) checker (IsAcceptedNone t r) old new (Err OutOfMemory) posed
    (untold (g.P.ProofFormat.is_accepted checker) (IsAcceptedNone t r) (g.P.ProofFormat.is_refused checker) old new c.in_ok-read_from.ensures))

pub returns : goal.returns
returns g c =
    let t = c.args.subject.now.task.now in
    let r = c.args.subject.now.protocol.now.rounds in
    let checker = c.in_ok-checker.checker in
    let old = c.args.source.now in
    let new = c.read_from.new.source in
    let posed = g.met.P.ProofFormat.is_known (question t r) checker c.in_ok-checker.ensures in
    g.P.ProofFormat.is_read (question t r) checker (IsAcceptedNone t r) old new (Ok (tt, c.into_bytes.result.items)) posed
    (told (g.P.ProofFormat.is_accepted checker) (IsAcceptedNone t r) (g.P.ProofFormat.is_refused checker) old new c.into_bytes.result.items c.in_ok-read_from.ensures
    (λ given accepted. (
      (unsatisfiable_where t r c.requires.protocol.2.task).0 (g.met.P.ProofFormat.is_sound (question t r) checker given posed accepted),
      ap (λ v. v.items) c.into_bytes.ensures.value ∙ c.in_ok-text.ensures ∙ ap (λ rounds. accepted_text (Some rounds) (none [])) c.rounds-rounds.ensures,
    )))
