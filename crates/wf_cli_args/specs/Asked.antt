-- Which words of a command line make which job.
--
-- How words are read is said by definitions of the crate that reads them: `fault_of` has the kinds
-- of error that the words may get, which is none where they are taken; `subcommand_of` has the
-- subcommand that they name, with a row for each of its options.
use Rattle.std.specs.Prelude.{ℕ, Bool, true, false, List, [], ◌∷◌, Option, Some, None, Result, Ok, Err, codes, find, option_and_then, unwrap_or, nat_le, nat_lt, ◌&&◌, if◌then◌else◌}
use Rattle.std.specs.List.{list_any}
use Rattle.std.specs.Str.{bytes_eq}
use Rattle.clap.specs.Words.{Row, Text, fault_of, first_of, subcommand_of}
use Rattle.wf_model.specs.Limits.{most_workers}
use Rattle.wf_task_presets.specs.declared.named.Preset.{Preset}
use Rattle.wf_base.specs.declared.lines.form.Form.{Form}
use Rattle.wf_cli.specs.Words.Asked.{Asked, is_negative, judged, needed, no_job, on_task, this_job}
use Rattle.wf_cli.specs.Words.Given.{has_flag, number_of, rounds_of, task_of}
use Rattle.wf_cli.specs.declared.words.mistake.ArgName.TheVariants as piece
use Rattle.wf_cli.specs.declared.words.mistake.UsageError.{UsageError}
use Rattle.wf_cli.specs.declared.words.mistake.UsageError.TheVariants as mistake
use Rattle.wf_cli_args.specs.CommandLine.{command_line}
use Rattle.wf_cli_args.specs.Forms.{form_asked}
use Rattle.wf_cli_args.specs.Presets.{preset_asked}
use Rattle.wf_cli_args.specs.declared.asked.Job.{Job}
use Rattle.wf_cli_args.specs.declared.asked.Job.TheVariants.{WithFile, Alone}
use Rattle.wf_cli_args.specs.declared.asked.TaskFileJob.{TaskFileJob}
use Rattle.wf_cli_args.specs.declared.asked.TaskFileJob.TheVariants as filed
use Rattle.wf_cli_args.specs.declared.asked.StdinJob.{StdinJob}
use Rattle.wf_cli_args.specs.declared.asked.StdinJob.TheVariants as lone
use Rattle.wf_cli_args.specs.declared.asked.SolveJob.{SolveJob}
use Rattle.wf_cli_args.specs.declared.asked.TextJob.{TextJob}
use Rattle.wf_cli_args.specs.declared.asked.TextJob.TheVariants as text
use Rattle.wf_cli_args.specs.declared.presets.Options.{Options}

-- ---- what is made of options

-- what is made of something that is to be given; if it is not, that is the mistake
abbrev pub or_mistake : {X J : Type 0} → UsageError → Option X → (X → Result J UsageError) → Result J UsageError
or_mistake mistake (Some x) make = make x
or_mistake mistake None make = Err mistake

-- with the number of rounds
abbrev pub for_rounds : {J : Type 0} → List Row → (ℕ → Result J UsageError) → Result J UsageError
for_rounds rows = or_mistake (mistake.Missing piece.Rounds) (rounds_of rows)

-- a job without a file, or the mistake by which there is none
abbrev pub alone : Result StdinJob UsageError → Asked Job
alone (Ok what) = this_job (Alone what)
alone (Err s) = no_job s

-- the writing of a text
abbrev pub writing : Result TextJob UsageError → Asked Job
writing (Ok what) = this_job (Alone (lone.Text what))
writing (Err s) = no_job s

-- a job with the task in the file that is named
abbrev pub with_file : Result TaskFileJob UsageError → List Row → Asked Job
with_file asked rows = on_task (λ what task. WithFile task what) asked (task_of rows)

-- ---- the job of each subcommand

abbrev pub branch_of : List Row → Option ℕ
branch_of = number_of (codes "branch")

-- one worker at least, and no more than a run may have
abbrev pub within_limits : ℕ → Option ℕ
within_limits workers = if nat_lt 0 workers && nat_le workers most_workers then Some workers else None

abbrev pub workers_of : List Row → Option ℕ
workers_of rows = option_and_then within_limits (number_of (codes "workers") rows)

-- by `--verdict` and `--least`, of which one at most may be given
abbrev pub form_of : List Row → Option Form
form_of rows = form_asked (has_flag (codes "verdict") rows) (has_flag (codes "least") rows)

-- the search of one branch, of which there is no account
abbrev pub branch_job : SolveJob → ℕ → Result StdinJob UsageError
branch_job asked branch =
    if asked.account then Err (mistake.Conflict piece.Branch piece.Account)
    else Ok (lone.SolveBranch asked.rounds branch asked.form asked.progress)

-- the search of all branches, or of one where it is named
abbrev pub solve_in : Option ℕ → SolveJob → Result StdinJob UsageError
solve_in None asked = Ok (lone.Solve asked)
solve_in (Some branch) asked = branch_job asked branch

abbrev pub solve_asked : List Row → Result StdinJob UsageError
solve_asked rows =
    for_rounds rows (λ rounds. or_mistake mistake.Workers (workers_of rows) (λ workers.
    or_mistake (mistake.Conflict piece.Verdict piece.Least) (form_of rows) (λ form. solve_in (branch_of rows) (record {
      rounds = rounds;
      workers = workers;
      form = form;
      account = has_flag (codes "account") rows;
      progress = has_flag (codes "progress") rows;
    }))))

-- by `--branch` and `--long`, of which one at most may be given; a part is checked for the rounds
-- that are given with it
abbrev pub verify_in : Option ℕ → Bool → Option ℕ → Result TaskFileJob UsageError
verify_in None long rounds = Ok (filed.Verify rounds long)
verify_in (Some branch) false rounds =
    or_mistake (mistake.Needs piece.Branch piece.Rounds) rounds (λ rounds. Ok (filed.VerifyBranch rounds branch))
verify_in (Some branch) true rounds = Err (mistake.Conflict piece.Long piece.Branch)

abbrev pub verify_asked : List Row → Result TaskFileJob UsageError
verify_asked rows = verify_in (branch_of rows) (has_flag (codes "long") rows) (rounds_of rows)

abbrev pub views_asked : List Row → Result TextJob UsageError
views_asked rows = for_rounds rows (λ rounds. Ok (text.Views rounds))

-- one of `--rounds` and `--task` is given
abbrev pub points_for : Option ℕ → Option Text → List Row → Asked Job
points_for (Some rounds) None rows = writing (Ok (text.Points rounds))
points_for None (Some path) rows = with_file (Ok filed.Decisions) rows
points_for (Some rounds) (Some path) rows = no_job (mistake.Conflict piece.Rounds piece.Task)
points_for None None rows = no_job (mistake.Neither piece.Rounds piece.Task)

abbrev pub points_asked : List Row → Asked Job
points_asked rows = points_for (rounds_of rows) (task_of rows) rows

abbrev pub branches_asked : List Row → Result TextJob UsageError
branches_asked rows = for_rounds rows (λ rounds. Ok (text.Branches rounds))

abbrev pub join_asked : List Row → Result TaskFileJob UsageError
join_asked rows = for_rounds rows (λ rounds. Ok (filed.Join rounds))

abbrev pub cnf_asked : List Row → Result TextJob UsageError
cnf_asked rows = for_rounds rows (λ rounds. Ok (text.Cnf rounds (branch_of rows)))

abbrev pub model_asked : List Row → Result TaskFileJob UsageError
model_asked rows = for_rounds rows (λ rounds. Ok (filed.Model rounds))

abbrev pub proof_asked : List Row → Result TaskFileJob UsageError
proof_asked rows = for_rounds rows (λ rounds. Ok (filed.Proof (record {
  rounds = rounds;
  branch = branch_of rows;
  hints = has_flag (codes "lrat") rows;
  progress = has_flag (codes "progress") rows;
})))

abbrev pub lift_asked : List Row → TaskFileJob
lift_asked rows = filed.Lift (rounds_of rows)

abbrev pub executions_asked : List Row → Result TextJob UsageError
executions_asked rows = for_rounds rows (λ rounds. Ok (text.Executions rounds))

abbrev pub obstruction_asked : List Row → StdinJob
obstruction_asked rows =
    lone.Obstruction (number_of (codes "modulus") rows) (unwrap_or (number_of (codes "covers") rows) 0) (has_flag (codes "progress") rows)

-- the options of a preset
abbrev pub options_of : List Row → ℕ → Options
options_of rows processes = record {
  processes = processes;
  k = number_of (codes "k") rows;
  values = number_of (codes "values") rows;
  names = number_of (codes "names") rows;
}

-- the writing of a preset, or the mistake by which there is none
abbrev pub this_preset : Result Preset UsageError → Result TextJob UsageError
this_preset (Ok preset) = Ok (text.Preset preset)
this_preset (Err s) = Err s

abbrev pub preset_job_asked : List Row → Result TextJob UsageError
preset_job_asked rows =
    or_mistake (mistake.Missing piece.Kind) (first_of (codes "kind") rows) (λ kind.
    or_mistake (mistake.Missing piece.Processes) (number_of (codes "processes") rows) (λ processes.
    this_preset (preset_asked kind (options_of rows processes))))

-- ---- the subcommands

-- what each of them asks for, by its options
abbrev pub jobs : List (Text × (List Row → Asked Job))
jobs = (codes "solve", λ rows. alone (solve_asked rows))
    ∷ (codes "verify", λ rows. with_file (verify_asked rows) rows)
    ∷ (codes "views", λ rows. writing (views_asked rows))
    ∷ (codes "points", points_asked)
    ∷ (codes "branches", λ rows. writing (branches_asked rows))
    ∷ (codes "join", λ rows. with_file (join_asked rows) rows)
    ∷ (codes "cnf", λ rows. writing (cnf_asked rows))
    ∷ (codes "model", λ rows. with_file (model_asked rows) rows)
    ∷ (codes "proof", λ rows. with_file (proof_asked rows) rows)
    ∷ (codes "trim", λ rows. with_file (Ok filed.Trim) rows)
    ∷ (codes "explain", λ rows. with_file (Ok filed.Explain) rows)
    ∷ (codes "lift", λ rows. with_file (Ok (lift_asked rows)) rows)
    ∷ (codes "executions", λ rows. writing (executions_asked rows))
    ∷ (codes "obstruction", λ rows. alone (Ok (obstruction_asked rows)))
    ∷ (codes "preset", λ rows. writing (preset_job_asked rows)) ∷ []

-- what the subcommand of this name asks for, by its options
abbrev pub asked_of : Text → List Row → Asked Job
asked_of name rows = needed piece.Command (find (λ entry. bytes_eq name entry.0) jobs) (λ entry. entry.1 rows)

-- ---- the words

-- what the subcommand that is found asks for, where words are taken
abbrev pub asked_in : Option (Text × List Row) → Asked Job
asked_in (Some (name, rows)) = asked_of name rows
asked_in None = no_job (mistake.Missing piece.Command)

-- what the words ask for, of which the first is the program's own name
abbrev pub job_asked : List Text → Asked Job
job_asked words = judged (fault_of command_line words) (list_any is_negative words) (asked_in (subcommand_of command_line words))
