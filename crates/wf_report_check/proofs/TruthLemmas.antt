-- Reports without a fault are true.
use Rattle.std.proofs.Common.{◌≡◌, ℕ, slice_index, Result, Ok, Err, OnOk, None, refl, ap, ◌∙◌}
use Rattle.wf_model.specs.Task.{Task, IsTask}
use Rattle.wf_model.specs.Points.{points}
use Rattle.wf_model.specs.Problem.{number_of, problem_of}
use Rattle.wf_model.specs.Report.{Report, Body, a_map, none, least}
use Rattle.wf_model.specs.Check.{body_fault, header_fault, report_fault, unless_fault}
use Rattle.wf_model.proofs.Lemmas.{map_decides, map_listed, lines_refute, lines_lead, least_listed}
use Rattle.wf_report_check.specs.Faults.{Judges}
use Rattle.wf_report_check.specs.Truth.{HoldsOf}
use Rattle.wf_report.specs.declared.fault.CertFault.{CertFault}

pub faultless_is_true : (t : Task) (r : ℕ) (report : Report) → IsTask t → report_fault t r report ≡ None → HoldsOf t r report.body
faultless_is_true t r report task clear = by_body report.body refl
  where
    by_body : (body : Body) → report.body ≡ body → HoldsOf t r body
    by_body (a_map m) is = (λ v. slice_index m (number_of (points t r) v), map_decides t r report m clear is, map_listed t r report m clear is)
    by_body (none ls) is = lines_refute t r report ls task clear is
    by_body (least m ls) is = (λ v. slice_index m (number_of (points t r) v), lines_lead t r report m ls task clear is, least_listed t r report m ls clear is)

-- the same, where the header has no fault and the body was judged
pub accepted_is_true : {X : Type 0} (t : Task) (r : ℕ) (report : Report) (result : Result X CertFault) → IsTask t → header_fault t r (problem_of t r) report ≡ None
    → Judges result (body_fault (problem_of t r) report.body) → OnOk result (HoldsOf t r report.body)
accepted_is_true t r report (Ok x) task header body = faultless_is_true t r report task (ap (λ f. unless_fault f (body_fault (problem_of t r) report.body)) header ∙ body)
accepted_is_true t r report (Err e) task header body = tt
