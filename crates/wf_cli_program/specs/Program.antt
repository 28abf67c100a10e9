-- What a run of the program reads, writes, tells and answers.
use Rattle.std.specs.Prelude.{◌≡◌, ℕ, Bool, true, false, List, [], ◌∷◌, ◌++◌, Option, Some, None, Result, Ok, Err, codes, string_bytes}
use Rattle.wf_core.specs.declared.Account as core
use Rattle.wf_base.specs.declared.lines.form.Form.{Form}
use Rattle.wf_task_presets.specs.declared.named.Preset.{Preset}
use Rattle.wf_model.specs.ViewsText.{views_text}
use Rattle.wf_sat_formula.specs.Dimacs.{question_text}
use Rattle.wf_base.specs.Streams.Seen.{Reading, Writing}
use Rattle.wf_base.specs.Streams.Ends.{CanCount, CanWrite}
use Rattle.wf_base.specs.Streams.Texts.{Told}
use Rattle.wf_run_solve.specs.declared.outcome.Outcome.{Outcome}
use Rattle.wf_run_solve.specs.declared.outcome.Outcome.TheVariants.{Map, Nothing}
use Rattle.wf_run.specs.declared.fault.RunFault.{RunFault}
use Rattle.wf_run_solve.specs.Texts.{Finds, Solves, SearchesInOrder}
use Rattle.wf_run_verify.specs.Verify.{Decides, most_of}
use Rattle.wf_run_verify.specs.Certificates.{VerifiesCertificate}
use Rattle.wf_run_verify.specs.Models.{Models}
use Rattle.wf_run_verify.specs.Proofs.{Refutes}
use Rattle.wf_run_verify.specs.Hints.{RefutesByHints}
use Rattle.wf_report_explain.specs.Words.Listing.{executions_text}
use Rattle.wf_run_report.specs.Trimming.{Trims}
use Rattle.wf_run_report.specs.Explaining.{Explains}
use Rattle.wf_run_report.specs.Lifting.{Lifts}
use Rattle.wf_sat_formula.specs.Branches.{branch_text}
use Rattle.wf_run_branches.specs.Branches.{ListsBranch}
use Rattle.wf_run_branches.specs.Listing.{branches_text}
use Rattle.wf_run_branches.specs.Joining.{Joins}
use Rattle.wf_run_branches.specs.Refuting.{RefutesBranch}
use Rattle.wf_run_branches.specs.Hints.{RefutesBranchByHints}
use Rattle.wf_run_branches.specs.Solving.{SolvesBranch}
use Rattle.wf_run_branches.specs.Verifying.{VerifiesBranch}
use Rattle.wf_run_obstruction.specs.Finding.{FindsObstruction, gave_up_text, tried_text}
use Rattle.wf_run_obstruction.specs.declared.finding.Finding.{Finding}
use Rattle.wf_run_obstruction.specs.declared.finding.Finding.TheVariants.{Found, NotFound, GaveUp}
use Rattle.wf_cli.specs.Words.Asked.{GivenWords, IsAsked}
use Rattle.wf_cli.specs.declared.words.fault.WordsFault.{WordsFault}
use Rattle.wf_cli_args.specs.Asked.{job_asked}
use Rattle.wf_cli_args.specs.declared.asked.Job.{Job}
use Rattle.wf_cli_args.specs.declared.asked.Job.TheVariants as job
use Rattle.wf_cli_args.specs.declared.asked.TaskFileJob.{TaskFileJob}
use Rattle.wf_cli_args.specs.declared.asked.TaskFileJob.TheVariants as filed
use Rattle.wf_cli_args.specs.declared.asked.ProofJob.{ProofJob}
use Rattle.wf_cli_args.specs.declared.asked.StdinJob.{StdinJob}
use Rattle.wf_cli_args.specs.declared.asked.StdinJob.TheVariants as lone
use Rattle.wf_cli_args.specs.declared.asked.TextJob.{TextJob}
use Rattle.wf_cli_args.specs.declared.asked.TextJob.TheVariants as text
use Rattle.wf_cli.specs.Service.Files.{Opening, Opens, Filing, CanAsk, state_of}
use Rattle.wf_cli.specs.Service.FileRuns.{Did, DoesBoth, WithFile}
use Rattle.wf_cli.specs.Service.Refusals.{Refuses, as_file_refusal, refusal_line}
use Rattle.wf_cli.specs.Service.Showing.{DeclinesAs}
use Rattle.wf_cli.specs.declared.service.refusal.Refusal.{Refusal}
use Rattle.wf_cli.specs.declared.service.refusal.Refusal.TheVariants.{Run}
use Rattle.wf_cli_program.specs.AccountText.{account_line}
use Rattle.wf_cli_program.specs.Presets.{WritesPreset}
use Rattle.wf_cli_program.specs.Texts.{Lists, undecided_points}
use Rattle.wf_cli_program.specs.declared.done.Done.{Done}
use Rattle.wf_cli_program.specs.declared.done.Note.{Note}
use Rattle.wf_cli_program.specs.declared.done.Note.TheVariants as note
use Rattle.wf_cli_program.specs.declared.done.Note.TheVariants.{Account, NoObstruction}

-- ---- notes

-- the account of a search, what was tried without an obstruction, or where a search gave up
abbrev pub note_line : Note → List ℕ
note_line (Account a) = account_line a
note_line (NoObstruction tried) = tried_text tried ++ 10 ∷ []
note_line (note.GaveUp at) = refusal_line (codes "wfcheck") (gave_up_text at)

-- a note is told, or nothing
abbrev pub TellsNote : Writing → Writing → Option Note → Type 0
TellsNote old new (Some note) = Told old new (note_line note)
TellsNote old new None = new ≡ old

-- ---- what is done, or why it is refused

abbrev pub outcome_status : Outcome → ℕ
outcome_status Map = 0
outcome_status Nothing = 1

-- a search whose account is told, and one without an account
abbrev pub solved : Result (Outcome × core.Account) RunFault → Result Done Refusal
solved (Ok (outcome, a)) = Ok (record { status = outcome_status outcome; note = Some (Account a) })
solved (Err e) = Err (Run e)

abbrev pub searched : Result Outcome RunFault → Result Done Refusal
searched (Ok outcome) = Ok (record { status = outcome_status outcome; note = None })
searched (Err e) = Err (Run e)

-- a search for an obstruction
abbrev pub sought : Result Finding RunFault → Result Done Refusal
sought (Ok Found) = Ok (record { status = 0; note = None })
sought (Ok (NotFound tried)) = Ok (record { status = 1; note = Some (NoObstruction tried) })
sought (Ok (GaveUp at)) = Ok (record { status = 2; note = Some (note.GaveUp at) })
sought (Err e) = Err (Run e)

abbrev pub written : Result (Unit {0}) RunFault → Result Done Refusal
written (Ok done) = Ok (record { status = 0; note = None })
written (Err e) = Err (Run e)

-- something was done that answers nothing of its own
abbrev pub finished : Result (Unit {0}) Refusal → Result Done Refusal
finished (Ok done) = Ok (record { status = 0; note = None })
finished (Err e) = Err e

-- what is read of a task and written, and what is answered
abbrev pub DoesOne : Type 0 → Type 1
DoesOne X = Reading → Reading → Writing → Writing → Result X RunFault → Type 0

-- this was done, and what is answered says how it ended
abbrev pub Ending : {X : Type 0} → (Result X RunFault → Result Done Refusal) → DoesOne X → Reading → Reading → Writing → Writing
    → Result Done Refusal → Type 0
Ending {X = X} end does source source' sink sink' done =
    (result : Result X RunFault) × does source source' sink sink' result × (done ≡ end result)

-- ---- what is done with the task in a file

-- a proof was checked: by its hints or without, about the whole task or about one branch
abbrev pub ChecksProofBy : ℕ → Option ℕ → Bool → DoesBoth (Unit {0})
ChecksProofBy rounds None false = Refutes rounds
ChecksProofBy rounds (Some branch) false = RefutesBranch rounds branch
ChecksProofBy rounds None true = RefutesByHints rounds
ChecksProofBy rounds (Some branch) true = RefutesBranchByHints rounds branch

abbrev pub ChecksProof : ProofJob → DoesBoth (Unit {0})
ChecksProof asked = ChecksProofBy asked.rounds asked.branch asked.hints

abbrev pub DoesWithFile : TaskFileJob → DoesBoth (Unit {0})
DoesWithFile (filed.Verify rounds long) = Did (VerifiesCertificate (most_of long) rounds)
DoesWithFile (filed.VerifyBranch rounds branch) = VerifiesBranch rounds branch
DoesWithFile (filed.Join rounds) = Joins rounds
DoesWithFile (filed.Model rounds) = Models rounds
DoesWithFile (filed.Proof asked) = ChecksProof asked
DoesWithFile filed.Decisions = Decides
DoesWithFile filed.Trim = Trims
DoesWithFile filed.Explain = Explains
DoesWithFile (filed.Lift rounds) = Lifts rounds

-- what a job does with the task in a file was done
abbrev pub DoesFile : {F : Type 0} → (Opening → Type 0) → TaskFileJob → Filing F → Filing F → Reading → Reading → Writing → Writing
    → Result Done Refusal → Type 0
DoesFile comes what opener opener' source source' sink sink' done =
    (result : Result (Unit {0}) RunFault) × WithFile comes (DoesWithFile what) opener opener' source source' sink sink' result
    × (done ≡ finished (as_file_refusal (state_of opener'.kept) result))

-- ---- what is done without a file

-- the question of the source's task after so many rounds was written, or that
-- of one of its branches
abbrev pub ListsQuestion : Option ℕ → ℕ → DoesOne (Unit {0})
ListsQuestion None rounds = Lists question_text rounds
ListsQuestion (Some branch) rounds = ListsBranch branch_text rounds branch

-- the text of a preset was written, and nothing was read
abbrev pub WritesPresetAlone : Preset → DoesOne (Unit {0})
WritesPresetAlone preset source source' sink sink' result = WritesPreset preset sink sink' result × (source' ≡ source)

abbrev pub WritesTextOf : TextJob → DoesOne (Unit {0})
WritesTextOf (text.Views rounds) = Lists views_text rounds
WritesTextOf (text.Points rounds) = Lists undecided_points rounds
WritesTextOf (text.Branches rounds) = Lists branches_text rounds
WritesTextOf (text.Cnf rounds branch) = ListsQuestion branch rounds
WritesTextOf (text.Executions rounds) = Lists executions_text rounds
WritesTextOf (text.Preset preset) = WritesPresetAlone preset

-- by one worker the branches are searched in their order
abbrev pub SolvesBy : ℕ → ℕ → Form → DoesOne (Outcome × core.Account)
SolvesBy workers rounds form source source' sink sink' result =
    Solves rounds form source source' sink sink' result × (workers ≡ 1 → SearchesInOrder result)

-- the source's task was decided, with an account or without one
abbrev pub DecidesTask : Bool → ℕ → ℕ → Form → Reading → Reading → Writing → Writing → Result Done Refusal → Type 0
DecidesTask true workers rounds form = Ending solved (SolvesBy workers rounds form)
DecidesTask false workers rounds form = Ending searched (Finds rounds form)

abbrev pub DoesAlone : StdinJob → Reading → Reading → Writing → Writing → Result Done Refusal → Type 0
DoesAlone (lone.Solve asked) = DecidesTask asked.account asked.workers asked.rounds asked.form
DoesAlone (lone.SolveBranch rounds branch form progress) = Ending searched (SolvesBranch rounds branch form)
DoesAlone (lone.Obstruction modulus covers progress) = Ending sought (FindsObstruction (record { modulus = modulus; covers = covers }))
DoesAlone (lone.Text what) = Ending written (WritesTextOf what)

-- ---- what words ask for

-- what a job asks for was done: with the task in the file, which is among those that may be opened
-- under its path; or without a file, and none was asked for
abbrev pub Does : {F : Type 0} → Opens → Job → Filing F → Filing F → Reading → Reading → Writing → Writing → Result Done Refusal → Type 0
Does opens (job.WithFile task what) opener opener' source source' sink sink' done =
    DoesFile (opens (string_bytes task)) what opener opener' source source' sink sink' done
Does opens (job.Alone what) opener opener' source source' sink sink' done =
    (opener' ≡ opener) × DoesAlone what source source' sink sink' done

-- there is no job in the words: a help or the version was shown, or they are refused
abbrev pub DeclinesWords : WordsFault → Writing → Writing → Result Done Refusal → Type 0
DeclinesWords e sink sink' done =
    (result : Result (Unit {0}) Refusal) × DeclinesAs (codes "wfcheck") e sink sink' result × (done ≡ finished result)

-- the job was done; or there is none, and nothing was read, and no file was asked for
abbrev pub DoesAsked : {F : Type 0} → Opens → Result Job WordsFault → Filing F → Filing F → Reading → Reading → Writing → Writing
    → Result Done Refusal → Type 0
DoesAsked opens (Ok asked) opener opener' source source' sink sink' done = Does opens asked opener opener' source source' sink sink' done
DoesAsked opens (Err e) opener opener' source source' sink sink' done =
    (opener' ≡ opener) × (source' ≡ source) × DeclinesWords e sink sink' done

-- ---- a whole run

-- the exit status; a note is told, and so is a refusal, and nothing else
abbrev pub Ends : Writing → Writing → Result Done Refusal → ℕ → Type 0
Ends errors errors' (Ok done) result = (result ≡ done.status) × TellsNote errors errors' done.note
Ends errors errors' (Err e) result = Refuses (codes "wfcheck") errors errors' e result

-- the words were judged, what they ask for was done, and it was told how that ended
abbrev pub Serves : {F : Type 0} → Opens → GivenWords → Filing F → Filing F → Reading → Reading → Writing → Writing → Writing → Writing
    → ℕ → Type 0
Serves opens words opener opener' source source' sink sink' errors errors' status =
    (asked : Result Job WordsFault) × (done : Result Done Refusal) × IsAsked job_asked words asked
    × DoesAsked opens asked opener opener' source source' sink sink' done × Ends errors errors' done status

-- the opener and all three ends can count what a run asks of them
abbrev pub CanServe : {F : Type 0} → Filing F → Reading → Writing → Writing → Type 0
CanServe opener source sink errors = CanAsk opener × CanCount source sink × CanWrite errors
