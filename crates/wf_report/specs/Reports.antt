-- The reports of the code and those of the definitions.
use Rattle.std.specs.Prelude.{◌≡◌, ℕ, ◌+◌, ◌^◌, ◌<◌, length, map}
use Rattle.wf_model.specs.Task.{Task}
use Rattle.wf_model.specs.Report as report
use Rattle.wf_base.specs.Lines.Lines.{line_of}
use Rattle.wf_report.specs.declared.report.Header.{Header}
use Rattle.wf_report.specs.declared.report.Report.{Report}
use Rattle.wf_report.specs.declared.report.Body.{Body}
use Rattle.wf_report.specs.declared.report.Body.TheVariants.{Map, Nothing, Least}

abbrev pub body_of : Body → report.Body
body_of (Map values) = report.a_map values.items
body_of (Nothing lines) = report.none (map line_of lines.items)
body_of (Least values lines) = report.least values.items (map line_of lines.items)

-- the report with this header and this body
abbrev pub with_header : Header → report.Body → report.Report
with_header h body = record { processes = h.processes; rounds = h.rounds; points = h.points; executions = h.executions; body = body }

abbrev pub report_seen : Report → report.Report
report_seen r = with_header r.header (body_of r.body)

-- each report with this header is about the task and its r rounds
abbrev pub IsHeaderOf : Task → ℕ → Header → Type 0
IsHeaderOf t r header = (body : report.Body) → with_header header body ≡ report.report_about t r body

-- how many values and lines there are
abbrev pub body_length : Body → ℕ
body_length (Map values) = length values.items
body_length (Nothing lines) = length lines.items
body_length (Least values lines) = length values.items + length lines.items

-- so few lines that each has a number
abbrev pub AreNumbered : ℕ → Type 0
AreNumbered count = count < 2 ^ 31
