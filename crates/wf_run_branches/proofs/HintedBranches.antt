-- What a proof with hints about a branch shows, and what is counted of it.
use Rattle.std.proofs.Common.{◌≡◌, ◌∙◌, ℕ, List, length, Result, Ok, Err, ap, subst, arith}
use Rattle.wf_model.specs.Task.{Task}
use Rattle.wf_sat_formula.specs.Branches.{branch_question, branches}
use Rattle.wf_base.specs.Streams.Seen.{Reading, Writing}
use Rattle.wf_base.specs.Streams.Texts.{Wrote}
use Rattle.wf_sat_check.specs.Lrat.Ledger.{ledger_of}
use Rattle.wf_run.specs.Laws.{IsChecked}
use Rattle.wf_run.specs.Run.{by_result, failed_reads, failed_writes}
use Rattle.wf_run.specs.Sources.{NextReads}
use Rattle.wf_run.specs.declared.fault.RunFault.{RunFault}
use Rattle.wf_run.proofs.Lemmas.{IsReadCounted, done}
use Rattle.wf_run.proofs.Lemmas as both
use Rattle.wf_run_verify.specs.Proofs.{most_proof_bytes}
use Rattle.wf_run_verify.proofs.Lemmas.{hints_counted}
use Rattle.wf_run_branches.specs.Branches.{HasBranch}
use Rattle.wf_run_branches.specs.Hints.{HintedBranchRefutationsAreTrue, ReadsBranchHints, ReadsHintsIn, RefutesBranchByHints}
use Rattle.wf_run_branches.specs.Refuting.{FindsBranch, HasNoMapIn, IsAcceptedBranch, accepted_text}
use Rattle.wf_run_branches.proofs.Counts.{missing}

-- where the proof was read there is the branch
was_found : (i : ℕ) (t : Task) (r : ℕ) (old new : Reading) (text : List ℕ) (found : Result (Unit {0}) RunFault) → FindsBranch t r i found
    → NextReads (λ there. ReadsBranchHints i t r) old new found (Ok (tt, text)) → HasBranch t r i × HasNoMapIn t r i × (text ≡ accepted_text i (length (branches t r)) r)
was_found i t r old new text (Ok there) has (given, gave, is) = (has, is.0.0.0, is.0.0.1)
was_found i t r old new text (Err e) has next = absurd (let bad : ⊥ = cc in bad)

pub hinted_branch_refutations_true : HintedBranchRefutationsAreTrue
hinted_branch_refutations_true r i task task' proof proof' sink sink' ran =
    let end = done (ReadsHintsIn i) r task task' proof proof' sink sink' ran in
    let (has, none, same) = was_found i end.t r proof proof' end.text end.read.0 end.read.1 end.read.2 in
    (end.t, end.given, has, none, subst (λ text. Wrote sink sink' text) same end.wrote)

-- ---- counts

read_counted : (i : ℕ) (t : Task) (r : ℕ) (old new : Reading) (found : Result (Unit {0}) RunFault) (answer : Result (Unit {0} × List ℕ) RunFault)
    → FindsBranch t r i found → NextReads (λ there. ReadsBranchHints i t r) old new found answer → IsReadCounted most_proof_bytes old new answer
read_counted i t r old new (Ok there) answer is read = hints_counted (ledger_of (branch_question t r i)) (IsAcceptedBranch i t r) old new answer read
read_counted i t r old new (Err e) answer is (refused, same) =
    let takes : new.taken ≡ old.taken = ap (λ s. s.taken) same in
    let fails : new.failures ≡ old.failures = ap (λ s. s.failures) same in
    let none : by_result failed_reads answer ≡ 0 = ap (by_result failed_reads) refused ∙ (missing t r i e is).0 in
    record { taken = omega (arith, takes); failures = omega (arith, fails, none); writes = ap (by_result failed_writes) refused ∙ (missing t r i e is).1 }

pub branch_proved_by_hints : (r i : ℕ) (task task' proof proof' : Reading) (sink sink' : Writing) (result : Result (Unit {0}) RunFault)
    → RefutesBranchByHints r i task task' proof proof' sink sink' result → IsChecked most_proof_bytes task task' proof proof' sink sink' result
branch_proved_by_hints r i =
    both.counted_over_two most_proof_bytes (ReadsHintsIn i) r (λ t old new answer reads. read_counted i t r old new reads.0 answer reads.1 reads.2)
