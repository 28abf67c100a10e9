-- The counts of runs over a branch.
use Rattle.std.proofs.Common.{◌≡◌, ℕ, ◌+◌, List, Result, Ok, Err, refl, sym, ap, ◌∙◌, arith}
use Rattle.wf_model.specs.Limits.{most_bytes}
use Rattle.wf_model.specs.Task.{Task}
use Rattle.wf_sat_formula.specs.Branches.{branch_question}
use Rattle.wf_base.specs.Streams.Seen.{Reading, Writing}
use Rattle.wf_run.specs.declared.fault.RunFault.{RunFault}
use Rattle.wf_run.specs.declared.fault.RunFault.TheVariants as run
use Rattle.wf_run.specs.Run.{Next, Ran, by_result, failed_reads, failed_writes}
use Rattle.wf_run.specs.Laws.{IsChecked, IsCounted}
use Rattle.wf_run.specs.Sources.{NextReads}
use Rattle.wf_run_verify.specs.Proofs.{most_proof_bytes}
use Rattle.wf_run.proofs.Lemmas.{IsReadCounted, few, handed, judged}
use Rattle.wf_run.proofs.Lemmas as both
use Rattle.wf_run_verify.proofs.Lemmas.{proof_counted}
use Rattle.wf_run_branches.specs.Branches.{AnswersBranch, AsksBranch, BranchAnswers, IsNoBranch, IsRefusedBranch}
use Rattle.wf_run_branches.specs.Refuting.{FindsBranch, IsAcceptedBranch, ReadsBranchProof, ReadsProofIn, RefutesBranch}

-- ---- where a text is written

-- a refused branch counts nowhere
quiet : (t : Task) (r i : ℕ) (e : RunFault) → IsRefusedBranch t r i e → (failed_reads e ≡ 0) × (failed_writes e ≡ 0)
quiet t r i (run.NoBranch n) is = (refl, refl)
quiet t r i run.Read is = absurd is
quiet t r i run.Write is = absurd is
quiet t r i e is = (refl, refl)

module _ {X : Type 0} (is_text : BranchAnswers X) (r i : ℕ) where
  answered : (t : Result Task RunFault) (answer : Result (X × List ℕ) RunFault) → Next (λ t. AnswersBranch is_text t r i) t answer → by_result failed_writes t ≡ 0
      → (by_result failed_reads t ≡ by_result failed_reads answer) × (by_result failed_writes answer ≡ 0)
  answered (Ok t) (Ok a) n w = (refl, refl)
  answered (Ok t) (Err e) n w = (sym (quiet t r i e n).0, (quiet t r i e n).1)
  answered (Err e) answer n w = (sym (ap (by_result failed_reads) n), ap (by_result failed_writes) n ∙ w)

  pub branch_counted : (source source' : Reading) (sink sink' : Writing) (result : Result X RunFault)
      → Ran (AsksBranch is_text r i source source') sink sink' result → IsCounted source source' sink sink' result
  branch_counted source source' sink sink' result (answer, (t, (text, (given, gave, is), j), n), h) =
      let a = judged text t j in
      let b = answered t answer n a.1 in
      let c = handed sink sink' answer result h b.1 in
      let bound = few most_bytes given source'.left text is in
      record {
        taken = omega (arith, gave.taken, bound);
        reads = gave.failures ∙ ap (λ k. source.failures + k) (a.0 ∙ b.0 ∙ c.reads);
        writes = c.writes;
        unwritten = c.unwritten;
      }

-- ---- where a proof is checked

-- a branch that is not there counts nowhere
pub missing : (t : Task) (r i : ℕ) (e : RunFault) → IsNoBranch t r i e → (failed_reads e ≡ 0) × (failed_writes e ≡ 0)
missing t r i (run.NoBranch n) is = (refl, refl)
missing t r i run.OutOfMemory is = (refl, refl)
missing t r i e is = absurd is

read_counted : (i : ℕ) (t : Task) (r : ℕ) (old new : Reading) (found : Result (Unit {0}) RunFault) (answer : Result (Unit {0} × List ℕ) RunFault)
    → FindsBranch t r i found → NextReads (λ there. ReadsBranchProof i t r) old new found answer → IsReadCounted most_proof_bytes old new answer
read_counted i t r old new (Ok there) answer is read = proof_counted (branch_question t r i) (IsAcceptedBranch i t r) old new answer read
read_counted i t r old new (Err e) answer is (refused, same) =
    let takes : new.taken ≡ old.taken = ap (λ s. s.taken) same in
    let fails : new.failures ≡ old.failures = ap (λ s. s.failures) same in
    let none : by_result failed_reads answer ≡ 0 = ap (by_result failed_reads) refused ∙ (missing t r i e is).0 in
    record { taken = omega (arith, takes); failures = omega (arith, fails, none); writes = ap (by_result failed_writes) refused ∙ (missing t r i e is).1 }

pub branch_proved : (r i : ℕ) (task task' proof proof' : Reading) (sink sink' : Writing) (result : Result (Unit {0}) RunFault)
    → RefutesBranch r i task task' proof proof' sink sink' result → IsChecked most_proof_bytes task task' proof proof' sink sink' result
branch_proved r i =
    both.counted_over_two most_proof_bytes (ReadsProofIn i) r (λ t old new answer reads. read_counted i t r old new reads.0 answer reads.1 reads.2)
