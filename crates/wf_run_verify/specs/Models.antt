-- A run over two sources: a task, and the text in which a SAT solver says a model of its question.
use Rattle.std.specs.Prelude.{◌≡◌, ℕ, List, Result, Ok, Err, Vec}
use Rattle.wf_model.specs.Task.{Task}
use Rattle.wf_model.specs.Report.{Report, a_map, report_about, report_text}
use Rattle.wf_base.specs.Streams.Seen.{Reading, Writing}
use Rattle.wf_sat_cnf.specs.Models.{IsMapOfModel}
use Rattle.wf_sat_cnf.specs.declared.solver.ModelFault.TheVariants as model
use Rattle.wf_run.specs.Run.{Next, Ran, Reads}
use Rattle.wf_run.specs.Sources.{AsksBoth}
use Rattle.wf_run_verify.specs.Verify.{IsVerified}
use Rattle.wf_run.specs.declared.fault.RunFault.{RunFault}
use Rattle.wf_run.specs.declared.fault.RunFault.TheVariants.{Model, OutOfMemory}

-- the map of the model that a text says for a task and r rounds, or why there is none
abbrev pub IsMapOf : Task → ℕ → List ℕ → Result (List ℕ) RunFault → Type 0
IsMapOf t r text (Ok m) = IsMapOfModel t r text (Ok m)
IsMapOf t r text (Err OutOfMemory) = Unit {0}
IsMapOf t r text (Err (Model model.OutOfMemory)) = ⊥
IsMapOf t r text (Err (Model e)) = IsMapOfModel t r text (Err e)
IsMapOf t r text (Err e) = ⊥

-- the text of a report
abbrev pub IsReportText : Task → Report → Unit {0} → List ℕ → Type 0
IsReportText t r answer text = text ≡ report_text r

-- the report of this map about a task and r rounds, where it is accepted; or it is refused
abbrev pub ReportsMap : Task → ℕ → List ℕ → Result (Unit {0} × List ℕ) RunFault → Type 0
ReportsMap t r m result = IsVerified IsReportText t (report_about t r (a_map m)) result

-- the map of a source's text, and its report
abbrev pub ReadsMap : Task → ℕ → Reading → Reading → Result (Unit {0} × List ℕ) RunFault → Type 0
ReadsMap t r old new result = (m : Result (List ℕ) RunFault) × Reads (IsMapOf t r) old new m × Next (ReportsMap t r) m result

-- the task is read, and the limits are judged, before the other text is read
abbrev pub AsksModel : ℕ → Reading → Reading → Reading → Reading → Result (Unit {0} × List ℕ) RunFault → Type 0
AsksModel r task task' output output' result = AsksBoth ReadsMap r task task' output output' result

-- The map of the model that a solver's output says was checked about the task of another source and
-- r rounds, and its report was written.
abbrev pub Models : ℕ → Reading → Reading → Reading → Reading → Writing → Writing → Result (Unit {0}) RunFault → Type 0
Models r task task' output output' sink sink' result = Ran (AsksModel r task task' output output') sink sink' result

-- a map of the code, and what clauses see of it
abbrev pub map_read : {A : Type 0} → Result (Vec ℕ A) RunFault → Result (List ℕ) RunFault
map_read (Ok m) = Ok m.items
map_read (Err e) = Err e
