-- A run over two sources, a task and a report about it, that writes a shorter report.
use Rattle.std.specs.Prelude.{◌≡◌, ℕ, List, None, Result}
use Rattle.wf_model.specs.Task.{Task}
use Rattle.wf_model.specs.Refutation.{Line}
use Rattle.wf_model.specs.Report.{Body, Report, a_map, none, least, body_lines, report_text}
use Rattle.wf_base.specs.Streams.Seen.{Reading, Writing}
use Rattle.wf_run.specs.Run.{Ran}
use Rattle.wf_run_verify.specs.Verify.{Checks, IsFaultless}
use Rattle.wf_run.specs.declared.fault.RunFault.{RunFault}
use Rattle.wf_report_trim.specs.Among.{AreAmong}

-- the answer with other lines; a map has none
abbrev pub with_lines : Body → List Line → Body
with_lines (a_map m) ls = a_map m
with_lines (none old) ls = none ls
with_lines (least m old) ls = least m ls

-- the report with another answer
abbrev pub with_body : Report → Body → Report
with_body r body = record { processes = r.processes; rounds = r.rounds; points = r.points; executions = r.executions; body = body }

-- the report with other lines
abbrev pub report_with : Report → List Line → Report
report_with r ls = with_body r (with_lines r.body ls)

-- the second body has the answer of the first, and some of its lines
abbrev pub IsShorter : Body → Body → Type 0
IsShorter body shorter = (ls : List Line) × AreAmong ls (body_lines body) × (shorter ≡ with_lines body ls)

-- A report with the same numbers and the same answer and some of the lines of another one, in which
-- the checker finds no fault. So it is true.
pub record IsShortened (t : Task) (r new : Report) : Type 0 where
  pub numbers : new ≡ with_body r new.body
  pub shorter : IsShorter r.body new.body
  pub faultless : IsFaultless t new

-- the text that is made of such a report
abbrev pub AreMade : (Task → Report → List ℕ) → Task → Report → Unit {0} → List ℕ → Type 0
AreMade made t r answer text = (shorter : Report) × IsShortened t r shorter × (text ≡ made t shorter)

-- its text as a report
abbrev pub AreTrimmed : Task → Report → Unit {0} → List ℕ → Type 0
AreTrimmed = AreMade (λ t r. report_text r)

-- The report of a source was checked against the task of another one, and
-- such a report was written.
abbrev pub Trims : Reading → Reading → Reading → Reading → Writing → Writing → Result (Unit {0}) RunFault → Type 0
Trims task task' reports reports' sink sink' result = Ran (Checks None AreTrimmed task task' reports reports') sink sink' result
