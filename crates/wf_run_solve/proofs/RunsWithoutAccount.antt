-- A search that keeps an account finds what one without finds.
use Rattle.std.proofs.Common.{ℕ, List, Result, Ok, Err, ap}
use Rattle.wf_model.specs.Task.{Task}
use Rattle.wf_core.specs.declared.Account.{Account}
use Rattle.wf_base.specs.Streams.Seen.{Writing}
use Rattle.wf_base.specs.declared.lines.form.Form.{Form}
use Rattle.wf_run_solve.specs.declared.outcome.Outcome.{Outcome}
use Rattle.wf_run.specs.declared.fault.RunFault.{RunFault}
use Rattle.wf_run.specs.Run.{Answers, Hands, Next}
use Rattle.wf_run_solve.specs.Texts.{IsFound, IsSolved, outcome_of}
use Rattle.wf_run_solve.specs.Laws.{SolvingIsFinding}

-- an answer without its account
without : Result ((Outcome × Account) × List ℕ) RunFault → Result (Outcome × List ℕ) RunFault
without (Ok (found, text)) = Ok (found.0, text)
without (Err e) = Err e

module _ (rounds : ℕ) (form : Form) where
  of_task : (t : Task) (answer : Result ((Outcome × Account) × List ℕ) RunFault) → Answers (IsSolved form) t rounds answer → Answers (IsFound form) t rounds (without answer)
  unfolding without
  of_task t (Ok (found, text)) (within, solved) = (within, solved.0)
  of_task t (Err e) beyond = beyond

  of_read : (task : Result Task RunFault) (answer : Result ((Outcome × Account) × List ℕ) RunFault)
      → Next (λ t. Answers (IsSolved form) t rounds) task answer → Next (λ t. Answers (IsFound form) t rounds) task (without answer)
  unfolding without
  of_read (Ok t) answer next = of_task t answer next
  of_read (Err e) answer next = ap without next

handed : (old new : Writing) (answer : Result ((Outcome × Account) × List ℕ) RunFault) (result : Result (Outcome × Account) RunFault) → Hands old new answer result → Hands old new (without answer) (outcome_of result)
unfolding without
handed old new (Ok (found, text)) (Ok x) (same, wrote) = (ap (λ y. y.0) same, wrote)
handed old new (Ok (found, text)) (Err e) failed = failed
handed old new (Err e) (Ok x) (is, same) = (ap outcome_of is, same)
handed old new (Err e) (Err f) (is, same) = (ap outcome_of is, same)

pub solving_finds : SolvingIsFinding
solving_finds rounds form source source' sink sink' result (answer, (task, reads, next), hands) =
    (without answer, (task, reads, of_read rounds form task answer next), handed sink sink' answer result hands)
