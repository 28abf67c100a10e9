-- What is found in a report while it is read.
use Rattle.std.specs.Prelude.{◌≡◌, ℕ, List, [], ◌∷◌, Result}
use Rattle.wf_model.specs.Problem.{Problem}
use Rattle.wf_model.specs.Box.{root}
use Rattle.wf_model.specs.Refutation.{Line}
use Rattle.wf_model.specs.Report as reports
use Rattle.wf_model.specs.Check.{body_fault, map_fault}
use Rattle.wf_report.specs.declared.reading.Section.{Section}
use Rattle.wf_report.specs.declared.reading.Section.TheVariants.{Refutation, Search}
use Rattle.wf_report.specs.declared.fault.CertFault.{CertFault}
use Rattle.wf_report_check.specs.Faults.{Judges}
use Rattle.wf_report_check.specs.Left.{LinesLeft, claimed, fault_of, lines_fault}
use Rattle.wf_report_check.specs.declared.judge.ReportClaim.{ReportClaim}
use Rattle.wf_report_check.specs.declared.judge.ReportClaim.TheVariants as goal
use Rattle.wf_report.specs.declared.front.AnswerKind.{AnswerKind}
use Rattle.wf_report.specs.declared.front.AnswerKind.TheVariants.{Map, Nothing, Least}

-- what is found of these steps, by what was left to show before them
abbrev pub AreJudged : {X : Type 0} → Problem → ReportClaim → LinesLeft → List Line → Result X CertFault → Type 0
AreJudged p claim left steps verdict = Judges verdict (fault_of p (claimed claim) steps left)

-- the part of a report in which steps stand that are to show this
abbrev pub part_of : ReportClaim → Section
part_of goal.Nothing = Refutation
part_of (goal.Least m) = Search

-- the same over the box with all values at all points, where the first step is line k
abbrev pub AreClaimed : {X : Type 0} → Problem → ReportClaim → ℕ → List Line → Result X CertFault → Type 0
AreClaimed p claim k steps verdict = Judges verdict (lines_fault p claim k steps (root p ∷ []))

-- what is found of values, with no steps behind them
abbrev pub IsMapFault : {X : Type 0} → Problem → List ℕ → List Line → Result X CertFault → Type 0
IsMapFault p values steps verdict = Judges verdict (map_fault p values)

-- what is found of values and the steps that lead to them
abbrev pub IsLeastFault : {X : Type 0} → Problem → List ℕ → List Line → Result X CertFault → Type 0
IsLeastFault p values steps verdict = Judges verdict (body_fault p (reports.least values steps))

-- which answer a body is
abbrev pub kind_of : reports.Body → AnswerKind
kind_of (reports.a_map m) = Map
kind_of (reports.none ls) = Nothing
kind_of (reports.least m ls) = Least

-- the first fault of this body, which has this answer
abbrev pub IsBodyFault : {X : Type 0} → Problem → AnswerKind → reports.Body → Result X CertFault → Type 0
IsBodyFault p answer body verdict = Judges verdict (body_fault p body) × (answer ≡ kind_of body)
