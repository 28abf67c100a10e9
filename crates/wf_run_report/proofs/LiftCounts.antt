-- The counts of a lifting.
use Rattle.std.proofs.Common.{◌≡◌, ℕ, List, Option, Result, Ok, Err, inl, inr, refl, sym, ap, ◌∙◌, arith}
use Rattle.wf_model.specs.Limits.{most_bytes}
use Rattle.wf_model.specs.Task.{Task}
use Rattle.wf_model.specs.Report.{Report, Body, a_map, none, least}
use Rattle.wf_base.specs.Streams.Seen.{Reading}
use Rattle.wf_base.specs.Streams.Texts as io
use Rattle.wf_complex.specs.Protocol.{Built}
use Rattle.wf_run.specs.Run.{Next, by_result, failed_reads, failed_writes}
use Rattle.wf_run.specs.Sources.{NextReads}
use Rattle.wf_run_verify.specs.Verify.{IsFaultOf, Judges}
use Rattle.wf_run.specs.declared.fault.RunFault.{RunFault}
use Rattle.wf_run.specs.declared.fault.RunFault.TheVariants as run
use Rattle.wf_run.proofs.Lemmas.{beyond, few, IsReportCounted, both_counted, left_alone}
use Rattle.wf_run_verify.proofs.Lemmas.{judged_report}
use Rattle.wf_run_report.specs.Lifting.{LiftsBody, LiftsFor, LiftsMap, Made, ReadsToLift, rounds_asked}
use Rattle.wf_run_report.specs.LiftingLaws.{LiftingIsCounted}

-- no call failed
abbrev IsQuiet : Made → Type 0
IsQuiet made = (by_result failed_reads made ≡ 0) × (by_result failed_writes made ≡ 0)

refused : (e : RunFault) (made : Made) → made ≡ Err e → failed_reads e ≡ 0 → failed_writes e ≡ 0 → IsQuiet made
refused e made is reads writes = (ap (by_result failed_reads) is ∙ reads, ap (by_result failed_writes) is ∙ writes)

faulty : (t : Task) (r : Report) (e : RunFault) → IsFaultOf t r e → (failed_reads e ≡ 0) × (failed_writes e ≡ 0)
faulty t r (run.Cert e) is = (refl, refl)
faulty t r e is = beyond t r.rounds e is

lifts_alone : (t : Task) (r more : ℕ) (values : List ℕ) (made : Made) → LiftsMap t r more values made → IsQuiet made
lifts_alone t r more values (Ok answer) lifts = (refl, refl)
lifts_alone t r more values (Err e) lifts = beyond t more e lifts

body_alone : (t : Task) (r more : ℕ) (body : Body) (made : Made) → LiftsBody t r more body made → IsQuiet made
body_alone t r more (a_map m) made lifts = lifts_alone t r more m made lifts
body_alone t r more (least m ls) made lifts = lifts_alone t r more m made lifts
body_alone t r more (none ls) made lifts = refused run.NoMap made lifts refl refl

checked_alone : (t : Task) (r : Report) (more : ℕ) (built : Result Built RunFault) (made : Made) → Judges t r built → Next (λ b. LiftsBody t r.rounds more r.body) built made → IsQuiet made
checked_alone t r more (Ok b) made judges next = body_alone t r.rounds more r.body made next
checked_alone t r more (Err e) made judges next = let quiet = faulty t r e judges in refused e made next quiet.0 quiet.1

report_alone : (rounds : Option ℕ) (t : Task) (r : Result Report RunFault) (made : Made) → Next (LiftsFor rounds t) r made → by_result failed_writes r ≡ 0
    → (by_result failed_reads r ≡ by_result failed_reads made) × (by_result failed_writes made ≡ 0)
report_alone rounds t (Ok r) made (inl (no_fewer, (built, judges, next))) w =
    let quiet = checked_alone t r (rounds_asked rounds r.rounds) built made judges next in
    (sym quiet.0, quiet.1)
report_alone rounds t (Ok r) made (inr (fewer, is)) w = (sym (ap (by_result failed_reads) is), ap (by_result failed_writes) is)
report_alone rounds t (Err e) made n w = (sym (ap (by_result failed_reads) n), ap (by_result failed_writes) n ∙ w)

report_counted : (rounds : Option ℕ) (reports reports' : Reading) (t : Result Task RunFault) (made : Made) → NextReads (ReadsToLift rounds) reports reports' t made → by_result failed_writes t ≡ 0
    → IsReportCounted most_bytes reports reports' t made
report_counted rounds reports reports' (Ok t) made (r, (text, (given, gave, is), j), n) w =
    let a = judged_report most_bytes text r j in
    let b = report_alone rounds t r made n a.1 in
    let bound = few most_bytes given reports'.left text is in
    record {
      taken = omega (arith, gave.taken, bound);
      failed = io.failed_reads text;
      failures = gave.failures;
      reads = omega (arith, a.0, b.0);
      writes = b.1;
    }
report_counted rounds reports reports' (Err e) made (is, same) w = left_alone most_bytes reports reports' e made is same w

pub lifting_counted : LiftingIsCounted
lifting_counted rounds task task' reports reports' sink sink' result (made, (t, reads, next), hands) =
    both_counted most_bytes task task' reports reports' sink sink' t made result reads (report_counted rounds reports reports' t made next) hands
