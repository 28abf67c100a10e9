-- The counts of a run over a task and a proof with hints, and that what it is accepted for is true.
use Rattle.std.proofs.Common.{ℕ, List, Result, subst}
use Rattle.wf_sat_formula.specs.Encoding.{question}
use Rattle.wf_base.specs.Streams.Seen.{Reading, Writing}
use Rattle.wf_base.specs.Streams.Texts.{Wrote}
use Rattle.wf_sat_check.specs.Lrat.Ledger.{Ledger, ledger_of}
use Rattle.wf_run.specs.declared.fault.RunFault.{RunFault}
use Rattle.wf_run.specs.Laws.{IsChecked}
use Rattle.wf_run_verify.specs.Headline.{HintedRefutationsAreTrue}
use Rattle.wf_run_verify.specs.Hints.{AreRefusedHints, IsRefuted, ReadsAsHints, ReadsHints, RefutesByHints, whole_outcome}
use Rattle.wf_run_verify.specs.Proofs.{IsAcceptedNone, most_proof_bytes}
use Rattle.wf_run.proofs.Lemmas.{IsReadCounted, counted_over_two, done}
use Rattle.wf_run_verify.proofs.ProofCounts.{bytes_counted}

-- whatever the clauses are, and what holds where the proof is accepted
pub hints_counted : (posed : Ledger) (holds : Unit {0} × List ℕ → Type 0) (old new : Reading) (answer : Result (Unit {0} × List ℕ) RunFault) → ReadsAsHints posed holds old new answer
    → IsReadCounted most_proof_bytes old new answer
hints_counted posed holds old new answer read =
    bytes_counted (λ given answer. holds answer × IsRefuted (whole_outcome posed given)) (AreRefusedHints posed) (λ given left is. is) old new answer read

pub proved_by_hints : (r : ℕ) (task task' proof proof' : Reading) (sink sink' : Writing) (result : Result (Unit {0}) RunFault)
    → RefutesByHints r task task' proof proof' sink sink' result → IsChecked most_proof_bytes task task' proof proof' sink sink' result
proved_by_hints r = counted_over_two most_proof_bytes ReadsHints r (λ t. hints_counted (ledger_of (question t r)) (IsAcceptedNone t r))

pub hinted_refutations_true : HintedRefutationsAreTrue
hinted_refutations_true r task task' proof proof' sink sink' ran =
    let end = done ReadsHints r task task' proof proof' sink sink' ran in
    let (given, gave, is) = end.read in
    (end.t, end.given, is.0.0.0, subst (λ text. Wrote sink sink' text) is.0.0.1 end.wrote)
