-- What is lifted is a decision map, and its report is accepted.
use Rattle.std.proofs.Common.{◌≡◌, ◌≤◌, ℕ, ◌+◌, ◌-◌, List, Option, Some, Result, Ok, Err, inl, inr, refl, sym, subst, arith}
use Rattle.wf_model.specs.Limits.{most_bytes}
use Rattle.wf_model.specs.Task.{Task}
use Rattle.wf_model.specs.View.{View}
use Rattle.wf_model.specs.DecisionMap.{IsDecisionMap, listed}
use Rattle.wf_model.specs.Report.{Report, Body, a_map, none, least, body_values}
use Rattle.wf_base.specs.Streams.Seen.{Reading, Writing}
use Rattle.wf_base.specs.Streams.Texts.{Wrote}
use Rattle.wf_complex.specs.Protocol.{Built}
use Rattle.wf_report_trim.specs.Lift.{lifted_by}
use Rattle.wf_report_trim.proofs.Lemmas.{lifts_by}
use Rattle.wf_run.specs.Given.{GaveTask}
use Rattle.wf_run_verify.specs.Headline.{GaveTruth}
use Rattle.wf_run.specs.Run.{Hands, HasComplex, IsTaskOf, Next, Reads}
use Rattle.wf_run.specs.Sources.{NextReads}
use Rattle.wf_run.specs.Texts.{text_of_report}
use Rattle.wf_run_verify.specs.Verify.{IsReportOf, Judges}
use Rattle.wf_run.specs.declared.fault.RunFault.{RunFault}
use Rattle.wf_run_verify.proofs.Lemmas.{map_text_accepted}
use Rattle.wf_run.proofs.Lemmas.{task_read}
use Rattle.wf_run_report.proofs.ReadReports.{gave_report}
use Rattle.wf_run_report.specs.Lifting.{AsksLift, Lifts, LiftsBody, LiftsFor, LiftsMap, ReadsToLift, rounds_asked}
use Rattle.wf_run_report.specs.LiftingLaws.{LiftsAreAccepted, LiftsAreTrue}

-- a true report with its map, whose lifted map's report was written
record IsDone (task task' reports reports' : Reading) (sink sink' : Writing) (t : Task) (r rounds : ℕ) : Type 0 where
  body : Body
  given : GaveTruth task task' reports reports' t r body
  within : HasComplex t rounds
  m : View → ℕ
  decides : IsDecisionMap t r m
  listed_is : listed t r m ≡ body_values body
  no_fewer : r ≤ rounds
  wrote : Wrote sink sink' (text_of_report t rounds (a_map (listed t rounds (lifted_by t (rounds - r) m))))

module _ (rounds : Option ℕ) (task task' reports reports' : Reading) (sink sink' : Writing) (text : List ℕ) (wrote : Wrote sink sink' text) where
  abbrev Done : Task → ℕ → Type 0
  Done t r = IsDone task task' reports reports' sink sink' t r (rounds_asked rounds r)

  of_map : (t : Task) (r : ℕ) (body : Body) → GaveTruth task task' reports reports' t r body → r ≤ rounds_asked rounds r
      → LiftsMap t r (rounds_asked rounds r) (body_values body) (Ok (tt, text)) → Done t r
  of_map t r body given no_fewer (within, m, decides, same, is) = record {
    body = body;
    given = given;
    within = within;
    m = m;
    decides = decides;
    listed_is = same;
    no_fewer = no_fewer;
    wrote = subst (λ text. Wrote sink sink' text) is wrote;
  }

  of_body : (t : Task) (r : ℕ) (body : Body) → GaveTruth task task' reports reports' t r body → r ≤ rounds_asked rounds r
      → LiftsBody t r (rounds_asked rounds r) body (Ok (tt, text)) → Done t r
  of_body t r (a_map m) given no_fewer lifts = of_map t r (a_map m) given no_fewer lifts
  of_body t r (least m ls) given no_fewer lifts = of_map t r (least m ls) given no_fewer lifts
  of_body t r (none ls) given no_fewer lifts = absurd (let bad : ⊥ = cc in bad)

  of_checked : (t : Task) (r : Report) → GaveTask task task' t → Reads (IsReportOf most_bytes) reports reports' (Ok r) → r.rounds ≤ rounds_asked rounds r.rounds
      → (built : Result Built RunFault) → Judges t r built → Next (λ b. LiftsBody t r.rounds (rounds_asked rounds r.rounds) r.body) built (Ok (tt, text)) → Done t r.rounds
  of_checked t r gave reads no_fewer (Ok b) judges next =
      of_body t r.rounds r.body (record { task_given = gave; report_given = gave_report reports reports' t r reads judges.0; holds = judges.0.holds }) no_fewer next
  of_checked t r gave reads no_fewer (Err e) judges next = absurd (let bad : ⊥ = cc in bad)

  of_report : (t : Task) (r : Result Report RunFault) → GaveTask task task' t → Reads (IsReportOf most_bytes) reports reports' r → Next (LiftsFor rounds t) r (Ok (tt, text))
      → (r : ℕ) × Done t r
  of_report t (Ok r) gave reads (inl (no_fewer, (built, judges, next))) = (r.rounds, of_checked t r gave reads no_fewer built judges next)
  of_report t (Ok r) gave reads (inr (fewer, refused)) = absurd (let bad : ⊥ = cc in bad)
  of_report t (Err e) gave reads next = absurd (let bad : ⊥ = cc in bad)

  of_task : (t : Result Task RunFault) → Reads IsTaskOf task task' t → NextReads (ReadsToLift rounds) reports reports' t (Ok (tt, text)) → (t : Task) × (r : ℕ) × Done t r
  of_task (Ok t) (read, reads, judged) (r, report, next) =
      let done = of_report t r (task_read task task' read t reads judged) report next in
      (t, done.0, done.1)
  of_task (Err e) reads next = absurd (let bad : ⊥ = cc in bad)

done : (rounds : Option ℕ) (task task' reports reports' : Reading) (sink sink' : Writing) → Lifts rounds task task' reports reports' sink sink' (Ok tt)
    → (t : Task) × (r : ℕ) × IsDone task task' reports reports' sink sink' t r (rounds_asked rounds r)
done rounds task task' reports reports' sink sink' (answer, asks, hands) = of_answer answer asks hands
  where
    of_answer : (answer : Result (Unit {0} × List ℕ) RunFault) → AsksLift rounds task task' reports reports' answer → Hands sink sink' answer (Ok tt)
        → (t : Task) × (r : ℕ) × IsDone task task' reports reports' sink sink' t r (rounds_asked rounds r)
    of_answer (Ok (x, text)) (t, reads, next) (same, wrote) =
        of_task rounds task task' reports reports' sink sink' text wrote t reads (subst (λ y. NextReads (ReadsToLift rounds) reports reports' t (Ok (y, text))) (sym same) next)
    of_answer (Err e) asks hands = absurd (let bad : ⊥ = cc in bad)

-- the lifted map is a decision map
lifted_decides : (t : Task) (r rounds : ℕ) (m : View → ℕ) → HasComplex t rounds → r ≤ rounds → IsDecisionMap t r m → IsDecisionMap t rounds (lifted_by t (rounds - r) m)
lifted_decides t r rounds m within no_fewer decides =
    let all : r + (rounds - r) ≡ rounds = omega (arith, no_fewer) in
    subst (λ n. IsDecisionMap t n (lifted_by t (rounds - r) m)) all (lifts_by t r (rounds - r) m within.1.2.task decides)

pub lifts_true : LiftsAreTrue
lifts_true rounds task task' reports reports' sink sink' ran =
    let (t, r, end) = done rounds task task' reports reports' sink sink' ran in (
      t,
      r,
      record {
        body = end.body;
        given = end.given;
        m = end.m;
        listed_there = end.listed_is;
        decides = end.decides;
        no_fewer = end.no_fewer;
        lifted_decides = lifted_decides t r (rounds_asked rounds r) end.m end.within end.no_fewer end.decides;
        wrote = end.wrote;
      },
    )

pub lifts_accepted : LiftsAreAccepted
lifts_accepted rounds task task' reports reports' sink sink' ran =
    let (t, r, end) = done rounds task task' reports reports' sink sink' ran in
    let asked = rounds_asked rounds r in
    let f : View → ℕ = lifted_by t (asked - r) end.m in (
      t,
      r,
      end.body,
      text_of_report t asked (a_map (listed t asked f)),
      end.given,
      end.wrote,
      λ short answer checks. map_text_accepted t asked (Some asked) f _ answer refl end.within.1.2.task end.within (lifted_decides t r asked end.m end.within end.no_fewer end.decides) refl short checks,
    )
