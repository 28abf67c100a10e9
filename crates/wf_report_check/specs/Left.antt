-- What lines still have to show, when some of them were taken.
use Rattle.std.specs.Prelude.{◌≡◌, ℕ, List, [], ◌∷◌, Option, Some, None, Result, Ok, Err}
use Rattle.wf_model.specs.Problem.{Problem}
use Rattle.wf_model.specs.Box.{Box}
use Rattle.wf_model.specs.Refutation.{Line}
use Rattle.wf_model.specs.Check.{Refusal, first_fault, first_least_fault, first_trailing}
use Rattle.wf_report_check.specs.Blocks.{box_now, boxes_later}
use Rattle.wf_report_check.specs.Faults.{Fails}
use Rattle.wf_report.specs.declared.fault.CertFault.{CertFault}
use Rattle.wf_report_check.specs.declared.boxes.Blocks.{Blocks}
use Rattle.wf_report_check.specs.declared.judge.ReportClaim.{ReportClaim}
use Rattle.wf_report_check.specs.declared.judge.ReportClaim.TheVariants.{Nothing, Least}
use Rattle.wf_report_check.specs.declared.judge.CheckProgress.{CheckProgress}
use Rattle.wf_report_check.specs.declared.judge.CheckProgress.TheVariants.{Going, Refuted, Found}

-- the first fault of lines that are to show the claim over these boxes, the first line being line k
abbrev pub lines_fault : Problem → ReportClaim → ℕ → List Line → List Box → Option Refusal
lines_fault p Nothing k ls boxes = first_fault p k ls boxes
lines_fault p (Least m) k ls boxes = first_least_fault p m.now k ls boxes

-- the map that lines are to lead to, if any
abbrev pub claimed : ReportClaim → Option (List ℕ)
claimed Nothing = None
claimed (Least m) = Some m.now

-- the same for the map that is claimed, or for none
abbrev pub claim_fault : Problem → Option (List ℕ) → ℕ → List Line → List Box → Option Refusal
claim_fault p None k ls boxes = first_fault p k ls boxes
claim_fault p (Some m) k ls boxes = first_least_fault p m k ls boxes

-- these boxes are still to be refuted, or the map was found and no line may follow
pub data Left : Type 0 where
  boxes : List Box → Left
  ended : Left

-- the number of the line that comes next, how many points there are, and what is left
pub record LinesLeft : Type 0 where
  pub line : ℕ
  pub points : ℕ
  pub left : Left

abbrev pub fault_from : Problem → Option (List ℕ) → ℕ → List Line → Left → Option Refusal
fault_from p claim k ls (boxes bs) = claim_fault p claim k ls bs
fault_from p claim k ls ended = first_trailing k ls

-- the first fault of the lines that follow
abbrev pub fault_of : Problem → Option (List ℕ) → List Line → LinesLeft → Option Refusal
fault_of p claim ls x = fault_from p claim x.line ls x.left

-- the refusal is the fault of all lines from this one on, or that fault is the one of what is left
abbrev pub Takes : {X : Type 0} → Problem → Option (List ℕ) → Line → LinesLeft → LinesLeft → Result X CertFault → Type 0
Takes p claim l old new (Ok x) = (ls : List Line) → fault_of p claim (l ∷ ls) old ≡ fault_of p claim ls new
Takes p claim l old new (Err e) = (ls : List Line) → Fails e (fault_of p claim (l ∷ ls) old)

-- what is left when lines have come so far
abbrev pub left_of : CheckProgress → Blocks → Left
left_of Going blocks = boxes (box_now blocks ∷ boxes_later blocks)
left_of Refuted blocks = boxes []
left_of Found blocks = ended
