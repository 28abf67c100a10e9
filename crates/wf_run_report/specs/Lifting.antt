-- A run over two sources, a task and a report about it, whose map is lifted to more rounds.
use Rattle.std.specs.Prelude.{◌≡◌, ◌<◌, ◌≤◌, ◌⊎◌, ℕ, ◌+◌, ◌-◌, List, Option, Some, None, Result, Ok, Err}
use Rattle.wf_model.specs.Limits.{most_bytes}
use Rattle.wf_model.specs.Task.{Task}
use Rattle.wf_model.specs.View.{View}
use Rattle.wf_model.specs.DecisionMap.{IsDecisionMap, listed}
use Rattle.wf_model.specs.Report.{Report, Body, a_map, none, least}
use Rattle.wf_base.specs.Streams.Seen.{Reading, Writing}
use Rattle.wf_complex.specs.Protocol.{Built}
use Rattle.wf_report_trim.specs.Lift.{lifted_by}
use Rattle.wf_run.specs.Run.{HasComplex, IsBeyondLimits, Next, Ran, Reads}
use Rattle.wf_run.specs.Sources.{AsksPair}
use Rattle.wf_run.specs.Texts.{text_of_report}
use Rattle.wf_run_verify.specs.Verify.{IsReportOf, Judges}
use Rattle.wf_run.specs.declared.fault.RunFault.{RunFault}
use Rattle.wf_run.specs.declared.fault.RunFault.TheVariants.{NoMap, OtherRounds}

-- the text that is made, or a refusal
abbrev pub Made : Type 0
Made = Result (Unit {0} × List ℕ) RunFault

-- the rounds that the map is lifted to: where none are asked for, one more than those of the report
abbrev pub rounds_asked : Option ℕ → ℕ → ℕ
rounds_asked None r = r + 1
rounds_asked (Some rounds) r = rounds

-- the report of the decision map with these values after r rounds, lifted to
-- more rounds; or these are beyond the limits
abbrev pub LiftsMap : Task → ℕ → ℕ → List ℕ → Made → Type 0
LiftsMap t r more values (Ok answer) =
    HasComplex t more × (m : View → ℕ) × IsDecisionMap t r m × (listed t r m ≡ values)
    × (answer.1 ≡ text_of_report t more (a_map (listed t more (lifted_by t (more - r) m))))
LiftsMap t r more values (Err e) = IsBeyondLimits t more e

-- a map is lifted, and the least one too, as a map; where there is none, that is refused
abbrev pub LiftsBody : Task → ℕ → ℕ → Body → Made → Type 0
LiftsBody t r more (a_map m) made = LiftsMap t r more m made
LiftsBody t r more (none ls) made = made ≡ Err NoMap
LiftsBody t r more (least m ls) made = LiftsMap t r more m made

-- the report is checked first
abbrev pub LiftsChecked : ℕ → Task → Report → Made → Type 0
LiftsChecked more t r made =
    (built : Result Built RunFault) × Judges t r built × Next (λ b. LiftsBody t r.rounds more r.body) built made

-- before that, a report for more rounds than are asked for is refused
abbrev pub LiftsFor : Option ℕ → Task → Report → Made → Type 0
LiftsFor rounds t r made =
    ((r.rounds ≤ rounds_asked rounds r.rounds) × LiftsChecked (rounds_asked rounds r.rounds) t r made)
    ⊎ ((rounds_asked rounds r.rounds < r.rounds) × (made ≡ Err OtherRounds))

-- the report is read
abbrev pub ReadsToLift : Option ℕ → Task → Reading → Reading → Made → Type 0
ReadsToLift rounds t old new made =
    (r : Result Report RunFault) × Reads (IsReportOf most_bytes) old new r × Next (LiftsFor rounds t) r made

-- the task is read before that
abbrev pub AsksLift : Option ℕ → Reading → Reading → Reading → Reading → Made → Type 0
AsksLift rounds task task' reports reports' made =
    AsksPair (ReadsToLift rounds) task task' reports reports' made

-- The map of a source's report about another source's task was lifted to the rounds that are asked
-- for, or to one more, and the report of the lifted map was written.
abbrev pub Lifts : Option ℕ → Reading → Reading → Reading → Reading → Writing → Writing → Result (Unit {0}) RunFault → Type 0
Lifts rounds task task' reports reports' sink sink' result = Ran (AsksLift rounds task task' reports reports') sink sink' result
