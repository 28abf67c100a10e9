-- What a run that looks for an obstruction read, wrote and counted.
use Rattle.std.proofs.Common.{◌≡◌, ℕ, ◌+◌, List, Result, Ok, Err, refl, sym, ap, subst, ◌∙◌, arith}
use Rattle.wf_model.specs.Limits.{most_bytes}
use Rattle.wf_model.specs.Task.{Task}
use Rattle.wf_base.specs.Streams.Seen.{Reading, Writing}
use Rattle.wf_base.specs.Streams.Texts.{Wrote}
use Rattle.wf_run.specs.declared.fault.RunFault.{RunFault}
use Rattle.wf_run.specs.declared.fault.RunFault.TheVariants as run
use Rattle.wf_run.specs.Given.{GaveTask}
use Rattle.wf_run.specs.Run.{IsTaskOf, Next, Reads, by_result, failed_reads, failed_writes}
use Rattle.wf_run.proofs.Lemmas.{Told, few, handed, judged, task_read}
use Rattle.wf_run_obstruction.specs.declared.finding.Finding.{Finding}
use Rattle.wf_run_obstruction.specs.declared.finding.Finding.TheVariants.{Found, NotFound, GaveUp}
use Rattle.wf_run_obstruction.specs.declared.finding.GaveUp as gave_up
use Rattle.wf_run_obstruction.specs.declared.search.ObstructionSpec.{ObstructionSpec}
use Rattle.wf_run_obstruction.specs.Finding.{Answers, HandsFinding, IsWritten, SeeksIn}
use Rattle.wf_run_obstruction.specs.Laws.{FoundObstructionsAreTrue, SeekingIsCounted}

-- ---- what was found

module _ (wanted : ObstructionSpec) (source source' : Reading) (sink sink' : Writing) where
  abbrev Right : Type 0
  Right = (t : Task) × GaveTask source source' t × (text : List ℕ) × Wrote sink sink' text × IsWritten wanted t text

  of_task : (text : List ℕ) (task : Result Task RunFault) → Reads IsTaskOf source source' task → Next (Answers wanted) task (Ok (Found, text)) → Wrote sink sink' text → Right
  of_task text (Ok t) (read, reads, judged) next wrote = (t, task_read source source' read t reads judged, text, wrote, next.1)
  of_task text (Err e) reads next wrote = absurd (let bad : ⊥ = cc in bad)

  of_answer : (answer : Result (Finding × List ℕ) RunFault) → SeeksIn wanted source source' answer → HandsFinding sink sink' answer (Ok Found) → Right
  of_answer (Ok (Found, text)) (task, reads, next) (same, wrote) = of_task text task reads next wrote
  of_answer (Ok (NotFound tried, text)) seeks (same, wrote) = absurd (let bad : ⊥ = cc in bad)
  of_answer (Ok (GaveUp at, text)) seeks (same, kept) = absurd (let bad : ⊥ = cc in bad)
  of_answer (Err e) seeks (same, kept) = absurd (let bad : ⊥ = cc in bad)

pub found_true : FoundObstructionsAreTrue
found_true wanted source source' sink sink' (answer, seeks, hands) = of_answer wanted source source' sink sink' answer seeks hands

-- ---- what was counted

-- a refused search counts nowhere
quiet : (wanted : ObstructionSpec) (t : Task) (e : RunFault) → Answers wanted t (Err e) → (failed_reads e ≡ 0) × (failed_writes e ≡ 0)
quiet wanted t run.Read is = absurd is
quiet wanted t run.Write is = absurd is
quiet wanted t e is = (refl, refl)

answered : (wanted : ObstructionSpec) (t : Result Task RunFault) (answer : Result (Finding × List ℕ) RunFault) → Next (Answers wanted) t answer → by_result failed_writes t ≡ 0
    → (by_result failed_reads t ≡ by_result failed_reads answer) × (by_result failed_writes answer ≡ 0)
answered wanted (Ok t) (Ok a) n w = (refl, refl)
answered wanted (Ok t) (Err e) n w = (sym (quiet wanted t e n).0, (quiet wanted t e n).1)
answered wanted (Err e) answer n w = (sym (ap (by_result failed_reads) n), ap (by_result failed_writes) n ∙ w)

-- what holds of the sink, whatever the answer is
record IsHanded (old new : Writing) (answer : Result (Finding × List ℕ) RunFault) (result : Result Finding RunFault) : Type 0 where
  told : Told old new answer result
  untouched : (at : gave_up.GaveUp) → result ≡ Ok (GaveUp at) → new ≡ old

kept : (old new : Writing) (at : gave_up.GaveUp) (text : List ℕ) → new ≡ old → IsHanded old new (Ok (GaveUp at, text)) (Ok (GaveUp at))
kept old new at text same =
    let failures : new.failures ≡ old.failures = ap (λ s. s.failures) same in
    record { told = record { reads = refl; writes = omega (arith, failures); unwritten = tt }; untouched = λ w is. same }

hands : (old new : Writing) (answer : Result (Finding × List ℕ) RunFault) (result : Result Finding RunFault) → HandsFinding old new answer result
    → by_result failed_writes answer ≡ 0 → IsHanded old new answer result
hands old new (Ok (Found, text)) (Ok x) h w =
    record { told = handed old new (Ok (Found, text)) (Ok x) h w; untouched = λ at is. absurd (let same = h.0 in let bad : ⊥ = cc in bad) }
hands old new (Ok (NotFound tried, text)) (Ok x) h w =
    record { told = handed old new (Ok (NotFound tried, text)) (Ok x) h w; untouched = λ at is. absurd (let same = h.0 in let bad : ⊥ = cc in bad) }
hands old new (Ok (GaveUp at, text)) result h w = subst (IsHanded old new (Ok (GaveUp at, text))) (sym h.0) (kept old new at text h.1)
hands old new (Ok (Found, text)) (Err e) h w =
    record { told = handed old new (Ok (Found, text)) (Err e) h w; untouched = λ at is. absurd (let bad : ⊥ = cc in bad) }
hands old new (Ok (NotFound tried, text)) (Err e) h w =
    record { told = handed old new (Ok (NotFound tried, text)) (Err e) h w; untouched = λ at is. absurd (let bad : ⊥ = cc in bad) }
hands old new (Err e) result h w =
    record { told = handed old new (Err e) result h w; untouched = λ at is. h.1 }

pub seeking_counted : SeekingIsCounted
seeking_counted wanted source source' sink sink' result (answer, (t, (text, (given, gave, is), j), n), h) =
    let a = judged text t j in
    let b = answered wanted t answer n a.1 in
    let c = hands sink sink' answer result h b.1 in
    let bound = few most_bytes given source'.left text is in
    record {
      counted = record {
        taken = omega (arith, gave.taken, bound);
        reads = gave.failures ∙ ap (λ k. source.failures + k) (a.0 ∙ b.0 ∙ c.told.reads);
        writes = c.told.writes;
        unwritten = c.told.unwritten;
      };
      untouched = c.untouched;
    }
