-- What is reported of a solver's model is true, and accepted.
use Rattle.std.proofs.Common.{ℕ, List, Some, Result, Ok, Err, refl, sym, ap, subst}
use Rattle.wf_model.specs.Task.{Task}
use Rattle.wf_model.specs.Report.{a_map, report_about, report_text}
use Rattle.wf_base.specs.Streams.Seen.{Reading, Writing}
use Rattle.wf_base.specs.Streams.Texts.{Wrote}
use Rattle.wf_run.specs.declared.fault.RunFault.{RunFault}
use Rattle.wf_run.specs.Run.{Next}
use Rattle.wf_run.specs.Texts.{text_of_report}
use Rattle.wf_run_verify.specs.Verify.{IsFaultless}
use Rattle.wf_run_verify.specs.Models.{Models, ReadsMap, ReportsMap}
use Rattle.wf_run.specs.Given.{GaveTask}
use Rattle.wf_run_verify.specs.Headline.{ModelsAreTrue}
use Rattle.wf_run_verify.specs.Laws.{ModelsAreAccepted}
use Rattle.wf_run_verify.proofs.WrittenIsAccepted.{map_text_accepted}
use Rattle.wf_run.proofs.Lemmas.{done}

-- a map without a fault, whose report was written
record IsReported (r : ℕ) (task task' : Reading) (sink sink' : Writing) : Type 0 where
  t : Task
  m : List ℕ
  given : GaveTask task task' t
  faultless : IsFaultless t (report_about t r (a_map m))
  wrote : Wrote sink sink' (report_text (report_about t r (a_map m)))

module _ (r : ℕ) (task task' output output' : Reading) (sink sink' : Writing) where
  of_map : (text : List ℕ) (t : Task) (m : Result (List ℕ) RunFault) → GaveTask task task' t → Next (ReportsMap t r) m (Ok (tt, text)) → Wrote sink sink' text → IsReported r task task' sink sink'
  of_map text t (Ok m) gave (faultless, is) wrote = record { t = t; m = m; given = gave; faultless = faultless; wrote = subst (λ x. Wrote sink sink' x) is wrote }
  of_map text t (Err e) gave next wrote = absurd (let bad : ⊥ = cc in bad)

  reported : Models r task task' output output' sink sink' (Ok tt) → IsReported r task task' sink sink'
  reported ran =
      let end = done ReadsMap r task task' output output' sink sink' ran in
      of_map end.text end.t end.read.0 end.given end.read.2 end.wrote

pub models_true : ModelsAreTrue
unfolding text_of_report
models_true r task task' output output' sink sink' ran =
    let told = reported r task task' output output' sink sink' ran in
    let holds = told.faultless.holds in
    (told.t, holds.0, told.given, holds.1, subst (λ m. Wrote sink sink' (text_of_report told.t r (a_map m))) (sym holds.2) told.wrote)

pub models_accepted : ModelsAreAccepted
unfolding text_of_report
models_accepted r task task' output output' sink sink' ran =
    let told = reported r task task' output output' sink sink' ran in
    let holds = told.faultless.holds in
    let within = told.faultless.within in (
      told.t,
      report_text (report_about told.t r (a_map told.m)),
      told.given,
      told.wrote,
      λ short answer checks. map_text_accepted told.t r (Some r) holds.0 _ answer refl within.1.2.task within holds.1 (ap (λ m. report_text (report_about told.t r (a_map m))) (sym holds.2)) short checks,
    )
