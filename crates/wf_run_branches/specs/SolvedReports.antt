-- What a check answers about the report of a search.
use Rattle.std.specs.Prelude.{◌≢◌, ◌≤◌, ℕ, List, length, None, Result}
use Rattle.wf_model.specs.Limits.{most_bytes}
use Rattle.wf_model.specs.Task.{Task, IsTask}
use Rattle.wf_run_solve.specs.declared.outcome.Outcome.{Outcome}
use Rattle.wf_run_solve.specs.declared.outcome.Outcome.TheVariants as outcome
use Rattle.wf_run_verify.specs.declared.outcome.Accepted.{Accepted}
use Rattle.wf_run_verify.specs.declared.outcome.Accepted.TheVariants as accepted
use Rattle.wf_base.specs.declared.lines.form.Form.{Form}
use Rattle.wf_base.specs.declared.lines.form.Form.TheVariants as form
use Rattle.wf_run.specs.declared.fault.RunFault.{RunFault}
use Rattle.wf_run.specs.declared.fault.RunFault.TheVariants.{Write}
use Rattle.wf_run.specs.Run.{HasComplex}
use Rattle.wf_run_solve.specs.Texts.{IsFound}
use Rattle.wf_run_verify.specs.Verify.{ChecksText}
use Rattle.wf_run_verify.specs.Laws.{Accepts}

-- what a check answers about a report in this form of what a search found
abbrev pub accepted_as : Form → Outcome → Accepted
accepted_as form.Full outcome.Map = accepted.Map
accepted_as form.Verdict outcome.Map = accepted.Map
accepted_as form.Least outcome.Map = accepted.Least
accepted_as f outcome.Nothing = accepted.Nothing

-- The report of a search in the full or the least form, of at most as many
-- bytes as a text may have, is accepted.
abbrev pub SolvedReportsAreAccepted : Type 0
SolvedReportsAreAccepted =
    (t : Task) (r : ℕ) (asked : Form) (found : Outcome) (text : List ℕ) (answer : Result (Accepted × List ℕ) RunFault)
    → IsTask t → HasComplex t r → asked ≢ form.Verdict → IsFound asked t r found text → length text ≤ most_bytes
    → ChecksText most_bytes None t text answer → Accepts (accepted_as asked found) answer
