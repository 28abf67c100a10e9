-- A run over two sources: a task, and the part of an answer that says what
-- one branch of its question has.
use Rattle.std.specs.Prelude.{◌≡◌, ◌≤◌, ◌++◌, ℕ, Bool, true, false, not, List, length, None, Result, Ok, Err}
use Rattle.std.specs.Cmp.Lexicographic.{pointwise}
use Rattle.wf_model.specs.Limits.{most_bytes}
use Rattle.wf_model.specs.Lists.{has}
use Rattle.wf_model.specs.Task.{Task}
use Rattle.wf_model.specs.View.{View}
use Rattle.wf_model.specs.Box.{Box, LiesIn}
use Rattle.wf_model.specs.DecisionMap.{IsDecisionMap, listed}
use Rattle.wf_model.specs.Report.{Report, Body, a_map, none, least, report_of}
use Rattle.wf_sat_formula.specs.Branches.{branch_at, branches}
use Rattle.wf_base.specs.Streams.Seen.{Reading, Writing}
use Rattle.wf_report_check.specs.Faults.{Fails}
use Rattle.wf_report_check.specs.Within.{report_fault_within}
use Rattle.wf_report.specs.declared.fault.CertFault.TheVariants as amiss
use Rattle.wf_run.specs.Run.{Next, Ran, Reads}
use Rattle.wf_run.specs.Sources.{AsksBoth, ReadsAbout}
use Rattle.wf_run_verify.specs.Verify.{IsReportOf, accepted_words}
use Rattle.wf_run.specs.declared.fault.RunFault.{RunFault}
use Rattle.wf_run.specs.declared.fault.RunFault.TheVariants.{Cert, OtherPart, NotInBranch, OutOfMemory}
use Rattle.wf_run_branches.specs.Refuting.{HasNoMapIn, ReadsIn, accepted_in}
use Rattle.wf_run_branches.specs.Solving.{IsLeastInBranch, part_head}

-- the report of a part about branch i of n, or why the text is none; if more bytes stand behind
-- the head than a text may have, they are too long, whatever they are
abbrev pub IsPartOf : ℕ → ℕ → List ℕ → Result Report RunFault → Type 0
IsPartOf i n text (Ok report) = (rest : List ℕ) × (text ≡ part_head i n ++ rest) × (length rest ≤ most_bytes) × (report_of rest ≡ Ok report)
IsPartOf i n text (Err OtherPart) = (rest : List ℕ) → text ≡ part_head i n ++ rest → ⊥
IsPartOf i n text (Err OutOfMemory) = Unit {0}
IsPartOf i n text (Err (Cert e)) =
    (rest : List ℕ) × (text ≡ part_head i n ++ rest) × (length rest ≤ most_bytes) × IsReportOf most_bytes rest (Err (Cert e))
IsPartOf i n text (Err e) = (rest : List ℕ) × (text ≡ part_head i n ++ rest) × IsReportOf most_bytes rest (Err e)

-- What a part says of branch i. A map lists a decision map over the points that lies there, and
-- with lines the least one there. Where there is none, no decision map lies there.
abbrev pub HoldsIn : Task → ℕ → ℕ → Body → Type 0
HoldsIn t r i (a_map m) = (f : View → ℕ) × IsDecisionMap t r f × (listed t r f ≡ m) × LiesIn m (branch_at t r i)
HoldsIn t r i (none ls) = HasNoMapIn t r i
HoldsIn t r i (least m ls) = (f : View → ℕ) × IsLeastInBranch t r i f × (listed t r f ≡ m)

-- each value is a candidate of its point
abbrev pub lies_in : List ℕ → Box → Bool
lies_in m box = pointwise (λ a set. has set a) m box

-- a map without lines that doesn't lie in the box
abbrev pub is_outside : Body → Box → Bool
is_outside (a_map m) box = not (lies_in m box)
is_outside (none ls) box = false
is_outside (least m ls) box = false

-- the checker finds no fault in the report as one about branch i; so what it
-- says of that branch is true
pub record IsFaultlessIn (t : Task) (r i : ℕ) (report : Report) : Type 0 where
  pub faultless : report_fault_within t r (branch_at t r i) report ≡ None
  pub holds : HoldsIn t r i report.body

-- the report is accepted as one about branch i; or it has a fault, or its map lies elsewhere
abbrev pub ChecksIn : ℕ → Task → ℕ → Report → Result (Unit {0}) RunFault → Type 0
ChecksIn i t r report (Ok done) = IsFaultlessIn t r i report
ChecksIn i t r report (Err (Cert amiss.OutOfMemory)) = ⊥
ChecksIn i t r report (Err (Cert e)) = Fails e (report_fault_within t r (branch_at t r i) report)
ChecksIn i t r report (Err NotInBranch) =
    (report_fault_within t r (branch_at t r i) report ≡ None) × (is_outside report.body (branch_at t r i) ≡ true)
ChecksIn i t r report (Err OutOfMemory) = Unit {0}
ChecksIn i t r report (Err e) = ⊥

-- it is accepted, and the text is the line that says so; or it is refused
abbrev pub ChecksPart : ℕ → Task → ℕ → Report → Result (Unit {0} × List ℕ) RunFault → Type 0
ChecksPart i t r report (Ok answer) =
    ChecksIn i t r report (Ok tt) × (answer.1 ≡ accepted_in (accepted_words report.body) i (length (branches t r)) r)
ChecksPart i t r report (Err e) = ChecksIn i t r report (Err e)

-- the text is read as a part about branch i, and that is checked
abbrev pub JudgesPart : ℕ → Task → ℕ → List ℕ → Result (Unit {0} × List ℕ) RunFault → Type 0
JudgesPart i t r text result =
    (report : Result Report RunFault) × IsPartOf i (length (branches t r)) text report × Next (ChecksPart i t r) report result

-- a source's text as such a part
abbrev pub ReadsPart : ℕ → ReadsAbout
ReadsPart i t r old new result = Reads (JudgesPart i t r) old new result

-- The part of a source was checked about branch i of the question of another
-- source's task after r rounds, and what is accepted was written. The task,
-- its limits and the branch are judged before the part is read.
abbrev pub VerifiesBranch : ℕ → ℕ → Reading → Reading → Reading → Reading → Writing → Writing → Result (Unit {0}) RunFault → Type 0
VerifiesBranch r i task task' part part' sink sink' result = Ran (AsksBoth (ReadsIn ReadsPart i) r task task' part part') sink sink' result
