-- What a check accepts, and of which bytes: in the field's words alone.
use Rattle.std.specs.Prelude.{◌≡◌, ℕ, [], Option, None, Some, Ok}
use Rattle.wf_model.specs.Task.{Task}
use Rattle.wf_model.specs.View.{View}
use Rattle.wf_model.specs.DecisionMap.{HasNoDecisionMap, IsDecisionMap, listed}
use Rattle.wf_model.specs.Report.{Body, a_map, body_values, none}
use Rattle.wf_model.specs.PointsText.{points_text}
use Rattle.wf_base.specs.Streams.Seen.{Reading, Writing}
use Rattle.wf_base.specs.Streams.Texts.{GaveAll, Wrote}
use Rattle.wf_report_check.specs.Truth.{HoldsOf}
use Rattle.wf_run_verify.specs.declared.outcome.Accepted.{Accepted}
use Rattle.wf_run_verify.specs.declared.outcome.Verified.TheVariants.{Obstruction}
use Rattle.wf_run.specs.Texts.{text_of_report}
use Rattle.wf_run_verify.specs.Models.{Models}
use Rattle.wf_run_verify.specs.Hints.{RefutesByHints}
use Rattle.wf_run_verify.specs.Proofs.{Refutes}
use Rattle.wf_run_verify.specs.Verify.{Decides, Verifies, accepted_of, accepted_text}
use Rattle.wf_run_verify.specs.Certificates.{VerifiesCertificate, never_text}
use Rattle.wf_run.specs.Given.{GaveTask}

-- ---- what a check accepts

-- The sources gave the bytes of a task, and the text of a report about it and these rounds with
-- this answer, which is true: a map is a decision map, the least one where lines say so, and where
-- there is none, no function on the views is one.
pub record GaveTruth (task task' reports reports' : Reading) (t : Task) (r : ℕ) (body : Body) : Type 0 where
  pub task_given : GaveTask task task' t
  pub report_given : GaveAll reports reports' (text_of_report t r body)
  pub holds : HoldsOf t r body

-- these are the rounds that are asked for, if any are
abbrev pub AreAsked : Option ℕ → ℕ → Type 0
AreAsked None r = Unit {0}
AreAsked (Some rounds) r = r ≡ rounds

-- where a check of reports of any length accepts, it was given such a report about the rounds that
-- were asked for, and the sink took the line that says what is accepted of it
abbrev pub AcceptancesAreTrue : Type 0
AcceptancesAreTrue =
    (most : ℕ) (rounds : Option ℕ) (task task' reports reports' : Reading) (sink sink' : Writing) (accepted : Accepted)
    → Verifies most rounds task task' reports reports' sink sink' (Ok accepted)
    → (t : Task) × (r : ℕ) × (body : Body) × GaveTruth task task' reports reports' t r body
    × AreAsked rounds r × (accepted ≡ accepted_of body) × Wrote sink sink' (accepted_text rounds body)

-- where decisions are told, such a report was given too, and the sink took
-- the points with the values of its map
abbrev pub DecisionsAreTrue : Type 0
DecisionsAreTrue =
    (task task' reports reports' : Reading) (sink sink' : Writing)
    → Decides task task' reports reports' sink sink' (Ok tt)
    → (t : Task) × (r : ℕ) × (body : Body) × GaveTruth task task' reports reports' t r body
    × Wrote sink sink' (points_text t r (body_values body))

-- ---- what is reported of a solver's model

-- where it is reported, the source of the task gave its bytes, and the sink
-- took the report of a decision map
abbrev pub ModelsAreTrue : Type 0
ModelsAreTrue =
    (rounds : ℕ) (task task' output output' : Reading) (sink sink' : Writing)
    → Models rounds task task' output output' sink sink' (Ok tt)
    → (t : Task) × (m : View → ℕ) × GaveTask task task' t × IsDecisionMap t rounds m
    × Wrote sink sink' (text_of_report t rounds (a_map (listed t rounds m)))

-- ---- what a solver's proof shows

-- where it is accepted, the source of the task gave its bytes, no function on the views is a
-- decision map, and the sink took the line that says so for these rounds
abbrev pub RefutationsAreTrue : Type 0
RefutationsAreTrue =
    (rounds : ℕ) (task task' proof proof' : Reading) (sink sink' : Writing)
    → Refutes rounds task task' proof proof' sink sink' (Ok tt)
    → (t : Task) × GaveTask task task' t × HasNoDecisionMap t rounds × Wrote sink sink' (accepted_text (Some rounds) (none []))

-- the same of a proof with hints
abbrev pub HintedRefutationsAreTrue : Type 0
HintedRefutationsAreTrue =
    (rounds : ℕ) (task task' proof proof' : Reading) (sink sink' : Writing)
    → RefutesByHints rounds task task' proof proof' sink sink' (Ok tt)
    → (t : Task) × GaveTask task task' t × HasNoDecisionMap t rounds × Wrote sink sink' (accepted_text (Some rounds) (none []))

-- ---- what an obstruction shows

-- If an obstruction is accepted, the source of the task gave its bytes. After every number of
-- rounds no function on the views is a decision map. The sink took the line that says so.
abbrev pub ObstructionsAreTrue : Type 0
ObstructionsAreTrue =
    (most : ℕ) (rounds : Option ℕ) (task task' source source' : Reading) (sink sink' : Writing)
    → VerifiesCertificate most rounds task task' source source' sink sink' (Ok Obstruction)
    → (t : Task) × GaveTask task task' t × ((r : ℕ) → HasNoDecisionMap t r) × Wrote sink sink' (never_text rounds)
