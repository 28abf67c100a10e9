-- What lines are to show, and what is found in those that are left.
use Rattle.std.specs.Prelude.{◌≡◌, ℕ, suc, Bool, true, List, [], ◌∷◌, Option, Result, Ok, Err}
use Rattle.wf_model.specs.Problem.{Problem}
use Rattle.wf_model.specs.Box.{Box, first_open}
use Rattle.wf_model.specs.Refutation.{Line, found}
use Rattle.wf_model.specs.Check.{Refusal, Verdict, first_trailing, is_point, least_verdict, verdict}
use Rattle.wf_report_check.specs.Blocks.{box_now, boxes_later}
use Rattle.wf_report_check.specs.Faults.{Fails}
use Rattle.wf_report_check.specs.Left.{lines_fault}
use Rattle.wf_report_check.specs.declared.boxes.Blocks.{Blocks}
use Rattle.wf_report.specs.declared.fault.CertFault.{CertFault}
use Rattle.wf_report_check.specs.declared.judge.ReportClaim.{ReportClaim}
use Rattle.wf_report_check.specs.declared.judge.ReportClaim.TheVariants.{Nothing, Least}
use Rattle.wf_report_check.specs.declared.judge.CheckProgress.{CheckProgress}
use Rattle.wf_report_check.specs.declared.judge.CheckProgress.TheVariants.{Going, Refuted, Found}

-- the verdict of line k, which doesn't end a search
abbrev pub verdict_on : Problem → ReportClaim → ℕ → Line → Box → List Box → Verdict
verdict_on p Nothing k l box boxes = verdict p k l box boxes
verdict_on p (Least m) k l box boxes = least_verdict p k l box boxes

-- whether lines may branch at the point
abbrev pub is_branch_of : ReportClaim → ℕ → Box → Bool
is_branch_of Nothing v box = true
is_branch_of (Least m) v box = is_point v (first_open box)

-- the first fault of the lines that are left when they have come so far
abbrev pub fault_left : Problem → ReportClaim → ℕ → List Line → CheckProgress → Blocks → Option Refusal
fault_left p claim k ls Going blocks = lines_fault p claim k ls (box_now blocks ∷ boxes_later blocks)
fault_left p claim k ls Refuted blocks = lines_fault p claim k ls []
fault_left p claim k ls Found blocks = first_trailing k ls

-- the refusal is the fault of all lines, or that fault is the one of the lines that are left
abbrev pub Leaves : {X : Type 0} → Result X CertFault → Option Refusal → (X → Option Refusal) → Type 0
Leaves (Ok x) whole left = whole ≡ left x
Leaves (Err e) whole left = Fails e whole

-- what is answered about line k is right, whatever lines follow it
abbrev pub Judged : Result CheckProgress CertFault → Problem → ReportClaim → ℕ → Line → Blocks → Blocks → Type 0
Judged result p claim k l old new =
    (ls : List Line) → Leaves result (lines_fault p claim k (l ∷ ls) (box_now old ∷ boxes_later old)) (λ progress. fault_left p claim (suc k) ls progress new)

-- what is answered about line k, which ends a search, is right, whatever lines follow it
abbrev pub Ends : {X : Type 0} → Result X CertFault → Problem → ReportClaim → ℕ → Box → List Box → Type 0
Ends result p claim k box boxes =
    (ls : List Line) → Leaves result (lines_fault p claim k (found ∷ ls) (box ∷ boxes)) (λ _. first_trailing (suc k) ls)
