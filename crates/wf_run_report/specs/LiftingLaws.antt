-- What is lifted, and what holds after every lifting: in the field's words.
use Rattle.std.specs.Prelude.{◌≡◌, ◌≤◌, ◌-◌, ℕ, List, length, Option, Some, Result, Ok}
use Rattle.wf_model.specs.Limits.{most_bytes}
use Rattle.wf_model.specs.Task.{Task}
use Rattle.wf_model.specs.View.{View}
use Rattle.wf_model.specs.DecisionMap.{IsDecisionMap, listed}
use Rattle.wf_model.specs.Report.{Body, a_map, body_values}
use Rattle.wf_base.specs.Streams.Seen.{Reading, Writing}
use Rattle.wf_base.specs.Streams.Texts.{Wrote}
use Rattle.wf_report_trim.specs.Lift.{lifted_by}
use Rattle.wf_run_verify.specs.Headline.{GaveTruth}
use Rattle.wf_run_verify.specs.Laws.{Accepts}
use Rattle.wf_run.specs.Laws.{IsChecked}
use Rattle.wf_run.specs.Texts.{text_of_report}
use Rattle.wf_run_verify.specs.Verify.{ChecksText}
use Rattle.wf_run.specs.declared.fault.RunFault.{RunFault}
use Rattle.wf_run_verify.specs.declared.outcome.Accepted.{Accepted}
use Rattle.wf_run_verify.specs.declared.outcome.Accepted.TheVariants as accepted
use Rattle.wf_run_report.specs.Lifting.{Lifts, rounds_asked}

-- The sources gave the bytes of a task and a true report about it and its r
-- rounds, with the values of a decision map; lifted, the map is a decision
-- map for the other rounds, and the sink took the report of that, whole.
pub record TookLifted (task task' reports reports' : Reading) (sink sink' : Writing) (t : Task) (r rounds : ℕ) : Type 0 where
  pub body : Body
  pub given : GaveTruth task task' reports reports' t r body
  pub m : View → ℕ
  pub listed_there : listed t r m ≡ body_values body
  pub decides : IsDecisionMap t r m
  pub no_fewer : r ≤ rounds
  pub lifted_decides : IsDecisionMap t rounds (lifted_by t (rounds - r) m)
  pub wrote : Wrote sink sink' (text_of_report t rounds (a_map (listed t rounds (lifted_by t (rounds - r) m))))

-- so it is where a lifting ends well, for the rounds that are asked for, or one more
abbrev pub LiftsAreTrue : Type 0
LiftsAreTrue =
    (rounds : Option ℕ) (task task' reports reports' : Reading) (sink sink' : Writing)
    → Lifts rounds task task' reports reports' sink sink' (Ok tt)
    → (t : Task) × (r : ℕ) × TookLifted task task' reports reports' sink sink' t r (rounds_asked rounds r)

-- What is written is the text of a report, of which a check that asks for these rounds says that it
-- is accepted, where it has at most as many bytes as a text may have.
abbrev pub LiftsAreAccepted : Type 0
LiftsAreAccepted =
    (rounds : Option ℕ) (task task' reports reports' : Reading) (sink sink' : Writing)
    → Lifts rounds task task' reports reports' sink sink' (Ok tt)
    → (t : Task) × (r : ℕ) × (body : Body) × (text : List ℕ) × GaveTruth task task' reports reports' t r body × Wrote sink sink' text
    × (length text ≤ most_bytes → (answer : Result (Accepted × List ℕ) RunFault)
    → ChecksText most_bytes (Some (rounds_asked rounds r)) t text answer → Accepts accepted.Map answer)

-- at most one byte more than a text may have is taken of each source, failed calls are told, and
-- nothing is written at a refusal
abbrev pub LiftingIsCounted : Type 0
LiftingIsCounted =
    (rounds : Option ℕ) (task task' reports reports' : Reading) (sink sink' : Writing) (result : Result (Unit {0}) RunFault)
    → Lifts rounds task task' reports reports' sink sink' result → IsChecked most_bytes task task' reports reports' sink sink' result
