-- The parts of a report's text, each with what comes of the lines behind it.
use Rattle.std.specs.Prelude.{◌≡◌, ◌≤◌, ◌+◌, ℕ, true, List, [], ◌∷◌, length, take, Option, Some, None, Result, Ok, Err, codes, IfOk, Vec}
use Rattle.wf_model.specs.Report as reports
use Rattle.wf_model.specs.Report.{body_at, fixed_at, last_at, least_body, line, map_body, none_body, number_at, steps_from, then_read, values_at_front}
use Rattle.wf_model.specs.Refutation.{Line}
use Rattle.wf_base.specs.Streams.Seen.{Reading}
use Rattle.wf_base.specs.Lines.Lines.{line_of}
use Rattle.wf_base.specs.declared.lines.line.Line as code
use Rattle.wf_report.specs.Reports.{with_header}
use Rattle.wf_report.specs.Steps.{step_in}
use Rattle.wf_report.specs.declared.report.Header.{Header}
use Rattle.wf_report.specs.declared.reading.Section.{Section}
use Rattle.wf_report.specs.declared.front.AnswerKind.{AnswerKind}
use Rattle.wf_report.specs.declared.front.AnswerKind.TheVariants.{Map, Nothing, Least}
use Rattle.wf_report.specs.Limits.{most_report_lines}
use Rattle.wf_report.specs.Reads.{Parse, Reads}
use Rattle.wf_report.specs.Windows.{Ahead}
use Rattle.wf_report.specs.declared.halt.ReadStop.{ReadStop}

-- line k is this word
abbrev pub fixed_then : ℕ → List ℕ → Parse → Parse
fixed_then k wanted next ls = then_read (fixed_at k (line wanted []) ls) next

-- line k is this word and a number
abbrev pub number_then : ℕ → List ℕ → (ℕ → Parse) → Parse
number_then k name next ls = then_read (number_at k name ls) (λ n. next n.0 n.1)

-- the numbers of a header, one line after the other
abbrev pub executions_then : (Header → Parse) → ℕ → ℕ → ℕ → Parse
executions_then next n r p =
    number_then 5 (codes "executions") (λ e. next (record { processes = n; rounds = r; points = p; executions = e }))

abbrev pub points_then : (Header → Parse) → ℕ → ℕ → Parse
points_then next n r = number_then 4 (codes "points") (executions_then next n r)

abbrev pub rounds_then : (Header → Parse) → ℕ → Parse
rounds_then next n = number_then 3 (codes "rounds") (points_then next n)

abbrev pub processes_then : (Header → Parse) → Parse
processes_then next = number_then 2 (codes "processes") (rounds_then next)

-- the lines up to the header's last number
abbrev pub header_then : (Header → Parse) → Parse
header_then next = fixed_then 1 (codes "wfcheck report 1") (processes_then next)

-- the report of a header and what follows it
abbrev pub report_from : (reports.Body → reports.Reading reports.Report) → Parse
report_from next ls = then_read (body_at ls) next

-- the report of a header and this body
abbrev pub report_with : Header → reports.Body → reports.Reading reports.Report
report_with h body = Ok (with_header h body)

-- the whole report
abbrev pub whole_report : Parse
whole_report = header_then (λ h. report_from (report_with h))

-- the body behind the line that says which answer it is
abbrev pub body_in : AnswerKind → List (List ℕ) → reports.Reading reports.Body
body_in Map ls = map_body ls
body_in Nothing ls = none_body ls
body_in Least ls = least_body ls

abbrev pub body_then : (reports.Body → reports.Reading reports.Report) → AnswerKind → Parse
body_then next answer ls = then_read (body_in answer ls) next

-- ---- values

-- the values at the front, with the lines behind them
abbrev pub values_then : (List ℕ → Parse) → Parse
values_then next ls = next (values_at_front ls).0 (values_at_front ls).1

-- a value at the front, or none
abbrev pub value_then : (List ℕ → Parse) → Option ℕ → Parse
value_then next None ls = next [] ls
value_then next (Some a) ls = values_then (λ values. next (a ∷ values)) ls

-- of a value the line is passed
abbrev pub PassesValue : Ahead → Ahead → Option ℕ → Type 0
PassesValue w w' None = w'.number ≡ w.number
PassesValue w w' (Some a) = (w'.number ≡ w.number + 1) × (w.number ≤ most_report_lines)

-- the first values, at most so many, are kept, and the lines of all are passed
abbrev pub AreKept : {A : Type 0} → ℕ → Ahead → Ahead → List ℕ → Result (Vec ℕ A) ReadStop → Type 0
AreKept most w w' values (Ok kept) = (kept.items ≡ take most values) × (w'.number ≡ w.number + length values)
AreKept most w w' values (Err e) = Unit {0}

abbrev pub ReadsValues : {A : Type 0} → ℕ → Reading → Reading → Ahead → Ahead → Result (Vec ℕ A) ReadStop → Type 0
ReadsValues most old new w w' result =
    (values : List ℕ) × ((next : List ℕ → Parse) → Reads (values_then next) (λ kept. next values) old new w w' result)
    × AreKept most w w' values result

-- ---- steps

-- the steps from line k on, up to the end
abbrev pub steps_then : Section → ℕ → (List Line → reports.Reading reports.Report) → Parse
steps_then part k next ls = then_read (steps_from (step_in part) k ls) next

-- a step at the front, the next line being line k, or the end
abbrev pub step_then : Section → ℕ → (List Line → reports.Reading reports.Report) → Option code.Line → Parse
step_then part k next None ls = next []
step_then part k next (Some l) ls = steps_then part k (λ steps. next (line_of l ∷ steps)) ls

-- nothing comes behind line k
abbrev pub end_then : ℕ → (List Line → reports.Reading reports.Report) → Parse
end_then k next ls = then_read (last_at k ls) next

-- of a step the line is passed; behind the last line the source is at its end
abbrev pub PassesStep : Ahead → Ahead → Option code.Line → Type 0
PassesStep w w' None = w'.ended ≡ true
PassesStep w w' (Some l) = (w'.number ≡ w.number + 1) × (w.number ≤ most_report_lines)

-- all steps up to the end were read
abbrev pub ReadsSteps : {X : Type 0} → Section → (List Line → X → Type 0) → Reading → Reading → Ahead → Ahead → Result X ReadStop → Type 0
ReadsSteps part says old new w w' result =
    (steps : List Line) × ((next : List Line → reports.Reading reports.Report) → Reads (steps_then part w.number next) (λ x ls. next steps) old new w w' result)
    × IfOk result (λ x. says steps x)

-- values, and then all steps up to the end
abbrev pub map_then : Section → (List ℕ → List Line → reports.Reading reports.Report) → ℕ → Parse
map_then part next k = values_then (λ values. steps_then part (k + length values) (next values))

abbrev pub ReadsMap : {X : Type 0} → Section → (List ℕ → List Line → X → Type 0) → Reading → Reading → Ahead → Ahead → Result X ReadStop
    → Type 0
ReadsMap part says old new w w' result =
    (values : List ℕ) × (steps : List Line)
    × ((next : List ℕ → List Line → reports.Reading reports.Report) → Reads (map_then part next w.number) (λ x ls. next values steps) old new w w' result)
    × IfOk result (λ x. says values steps x)

-- the same for a body with this answer
abbrev pub ReadsBody : {X : Type 0} → AnswerKind → (reports.Body → X → Type 0) → Reading → Reading → Ahead → Ahead → Result X ReadStop → Type 0
ReadsBody answer says old new w w' result =
    (body : reports.Body) × ((next : reports.Body → reports.Reading reports.Report) → Reads (body_then next answer) (λ x ls. next body) old new w w' result)
    × IfOk result (λ x. says body x)

-- ---- whatever is read

-- any values and steps
abbrev pub AreAnyValues : {X : Type 0} → List ℕ → List Line → X → Type 0
AreAnyValues values steps x = Unit {0}

-- any steps
abbrev pub AreAny : {X : Type 0} → List Line → X → Type 0
AreAny steps x = Unit {0}

-- any body with this answer
abbrev pub IsAnyBody : {X : Type 0} → reports.Body → X → Type 0
IsAnyBody body x = Unit {0}
