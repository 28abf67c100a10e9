-- What is told below the line of a refusal: a note for whoever meets it for the first time.
use Rattle.std.specs.Prelude.{ℕ, List, [], ◌∷◌, ◌++◌, Option, Some, None, codes, ◌==◌, if◌then◌else◌}
use Rattle.wf_sat_cnf.specs.declared.solver.ModelFault.{ModelFault}
use Rattle.wf_sat_cnf.specs.declared.solver.ModelFault.TheVariants as model
use Rattle.wf_complex.specs.declared.fault.BuildFault.{BuildFault}
use Rattle.wf_complex.specs.declared.fault.BuildFault.TheVariants as build
use Rattle.wf_task_parse.specs.declared.fault.Key.TheVariants as key
use Rattle.wf_task_parse.specs.declared.fault.TaskFault.{TaskFault}
use Rattle.wf_task_parse.specs.declared.fault.TaskFault.TheVariants as task
use Rattle.wf_cli.specs.declared.service.files.FileState.{FileState}
use Rattle.wf_cli.specs.declared.service.files.FileState.TheVariants.{Unopened, Unread, Sound}
use Rattle.wf_sat_check.specs.declared.lrat.proof.LratFault.{LratFault}
use Rattle.wf_sat_check.specs.declared.lrat.proof.LratFault.TheVariants as hints
use Rattle.wf_report.specs.declared.fault.CertFault.{CertFault}
use Rattle.wf_report.specs.declared.fault.CertFault.TheVariants as amiss
use Rattle.wf_run.specs.declared.fault.RunFault.{RunFault}
use Rattle.wf_run.specs.declared.fault.RunFault.TheVariants as run
use Rattle.wf_sat_check.specs.declared.rup.proof.ProofFault.{ProofFault}
use Rattle.wf_sat_check.specs.declared.rup.proof.ProofFault.TheVariants as proof

-- a note is a line of its own
abbrev pub note_line : Option (List ℕ) → List ℕ
note_line None = []
note_line (Some note) = codes "  note: " ++ (note ++ 10 ∷ [])

-- ---- by the two texts of a run

-- which of two texts a refusal is about: the task in a file, or that on standard input
abbrev pub file_note : RunFault → FileState → Option (List ℕ)
file_note run.Read Unopened = Some (codes "the file that --task names can't be opened")
file_note run.Read Unread = Some (codes "the file that --task names can't be read")
file_note run.Read Sound = Some (codes "standard input can't be read")
file_note (run.Task task.NotJson) file = Some (codes "this is about the file that --task names")
file_note e file = None

-- ---- by the refusal

-- who says more of a text that is no task
abbrev pub lint_note : List ℕ
lint_note = codes "`wfcheck-lint FILE` (in the repository tools/lint.py) says in words why a file is no task"

-- a text that is no task; a preset may have too many processes or values too, or be too large
abbrev pub task_note : TaskFault → Option (List ℕ)
task_note task.NotJson = Some (codes "a task file is JSON text; " ++ lint_note)
task_note (task.Shape key.Version place) = Some (codes "a task file has the key \"version\", which is 1 or 2; " ++ lint_note)
task_note task.TooLong = None
task_note task.Processes = Some (codes "a task has 1 to 4 processes")
task_note task.Value = None
task_note (task.TooMany limit) = None
task_note task.OutOfMemory = None
task_note e = Some lint_note

abbrev pub build_note : BuildFault → Option (List ℕ)
build_note build.Rounds = Some (codes "the number of rounds is 0 to 8")
build_note build.TooManyExecutions = Some (codes "after so many rounds the task has more than 500000 executions")
build_note build.OutOfMemory = None

-- no report at all, a report of something else, a wrong map, or a report without its lines
abbrev pub report_note : CertFault → Option (List ℕ)
report_note (amiss.Syntax line) =
    if line == 1 then Some (codes "standard input has no report; a task goes behind --task, a solver's proof to `wfcheck proof` or `wfverify --proof`, an obstruction to verify or explain") else None
report_note (amiss.Header line) =
    Some (codes "the number in this line is not that of the task: the text may be about another task or other rounds")
report_note (amiss.Violates execution) = Some (codes "the map breaks the task's rule in this execution: the report may be about another task")
report_note amiss.Unfinished = Some (codes "the lines of the report end too soon; `wfcheck solve --verdict` leaves them out")
report_note e = None

abbrev pub model_note : ModelFault → Option (List ℕ)
model_note model.OutOfMemory = None
model_note (model.NoModel line) = Some (codes "the text has no model; `wfcheck proof` checks a solver's proof that there is none")
model_note e = Some (codes "a model is what a SAT solver prints of the question that `wfcheck cnf` writes for the same task and rounds")

-- what a solver's proof has to be about
abbrev pub proof_note : List ℕ
proof_note = codes "a proof is about what `wfcheck cnf` writes for the same task, rounds and branch; --lrat is for proofs with hints alone"

abbrev pub clausal_note : ProofFault → Option (List ℕ)
clausal_note proof.Binary = None
clausal_note proof.OutOfMemory = None
clausal_note e = Some proof_note

abbrev pub hinted_note : LratFault → Option (List ℕ)
hinted_note hints.Binary = None
hinted_note hints.OutOfMemory = None
hinted_note e = Some proof_note

abbrev pub note_of : RunFault → Option (List ℕ)
note_of (run.Task e) = task_note e
note_of (run.Build e) = build_note e
note_of (run.Cert e) = report_note e
note_of (run.Model e) = model_note e
note_of (run.Proof e) = clausal_note e
note_of (run.Hints e) = hinted_note e
note_of run.OtherRounds = Some (codes "the third line of a report tells its rounds, and a map is lifted to as many rounds or more")
note_of (run.NoBranch branches) = Some (codes "branches are numbered from 0, and `wfcheck branches` lists them")
note_of e = None
