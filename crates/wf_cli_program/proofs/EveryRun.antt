-- What holds after every run of the program.
use Rattle.std.proofs.Common.{◌≡◌, ◌≢◌, ℕ, Bool, true, false, ◌+◌, ◌≤◌, inl, inr, Option, Some, None, Result, Ok, Err, IfOk, IfErr, refl, sym, ap, subst, ◌∙◌, arith}
use Rattle.std.specs.Prelude.{string_bytes}
use Rattle.wf_model.specs.Limits.{most_bytes}
use Rattle.wf_model.specs.ViewsText.{views_text}
use Rattle.wf_sat_formula.specs.Dimacs.{question_text}
use Rattle.wf_sat_formula.specs.Branches.{branch_text}
use Rattle.wf_core.specs.declared.Account.{Account}
use Rattle.wf_base.specs.declared.lines.form.Form.{Form}
use Rattle.wf_base.specs.Streams.Seen.{Reading, Writing}
use Rattle.wf_report_explain.specs.Words.Listing.{executions_text}
use Rattle.wf_cli.specs.declared.words.fault.WordsFault.{WordsFault}
use Rattle.wf_cli_args.specs.declared.asked.Job.{Job}
use Rattle.wf_cli_args.specs.declared.asked.Job.TheVariants as job
use Rattle.wf_cli_args.specs.declared.asked.TaskFileJob.{TaskFileJob}
use Rattle.wf_cli_args.specs.declared.asked.TaskFileJob.TheVariants as filed
use Rattle.wf_cli_args.specs.declared.asked.StdinJob.{StdinJob}
use Rattle.wf_cli_args.specs.declared.asked.StdinJob.TheVariants as lone
use Rattle.wf_cli_args.specs.declared.asked.TextJob.{TextJob}
use Rattle.wf_cli_args.specs.declared.asked.TextJob.TheVariants as text
use Rattle.wf_run_solve.specs.declared.outcome.Outcome.{Outcome}
use Rattle.wf_run_solve.specs.declared.outcome.Outcome.TheVariants.{Map, Nothing}
use Rattle.wf_run_solve.specs.Texts.{IsFound, IsSolved}
use Rattle.wf_run.specs.declared.fault.RunFault.{RunFault}
use Rattle.wf_run.specs.Texts.{IsTextOf}
use Rattle.wf_run.specs.Laws.{IsCounted}
use Rattle.wf_run.proofs.Lemmas.{counted}
use Rattle.wf_run_verify.specs.Proofs.{most_proof_bytes}
use Rattle.wf_run_verify.specs.Verify.{AreDecisions, most_of}
use Rattle.wf_run_verify.proofs.Lemmas.{certified, checked, least_most, modelled, proved, proved_by_hints}
use Rattle.wf_run_branches.specs.Branches.{IsBranchTextOf}
use Rattle.wf_run_branches.specs.Listing.{branches_text}
use Rattle.wf_run_branches.specs.Solving.{IsSolvedIn}
use Rattle.wf_run_branches.proofs.Lemmas.{branch_counted, branch_proved, branch_proved_by_hints, part_checked, joining_counted}
use Rattle.wf_run_report.specs.Trimming.{AreTrimmed}
use Rattle.wf_run_report.proofs.Lemmas.{explained_counted, lifting_counted}
use Rattle.wf_run_obstruction.specs.Laws.{IsSeekingCounted}
use Rattle.wf_run_obstruction.specs.declared.finding.Finding.{Finding}
use Rattle.wf_run_obstruction.specs.declared.finding.Finding.TheVariants as finding
use Rattle.wf_run_obstruction.proofs.Lemmas.{seeking_counted}
use Rattle.wf_cli.specs.Service.Files.{Filing, Opening, Opens, state_of}
use Rattle.wf_cli.specs.Service.FileRuns.{WithFile}
use Rattle.wf_cli.specs.Service.FileLaws.{Checked, IsFiled, IsFileRun}
use Rattle.wf_cli.specs.Service.Refusals.{as_file_refusal, fault_status, refusal_status}
use Rattle.wf_cli.specs.Service.Laws.{IsDeclined, calls_by, calls_by_status}
use Rattle.wf_cli.specs.declared.service.refusal.Refusal.{Refusal}
use Rattle.wf_cli.specs.declared.service.refusal.Refusal.TheVariants as refusal
use Rattle.wf_cli.proofs.OfService.Lemmas as service
use Rattle.wf_cli.proofs.OfService.Lemmas.{calls_of_fault, has_status, none_failed, two_or_three}
use Rattle.wf_cli_program.specs.declared.done.Done.{Done}
use Rattle.wf_cli_program.specs.Program.{ChecksProofBy, DecidesTask, DoesAlone, DoesAsked, DoesWithFile, Ends, ListsQuestion, WritesTextOf, finished, searched, solved, sought, written}
use Rattle.wf_cli_program.proofs.PresetCounts.{preset_counted}
use Rattle.wf_cli_program.specs.Texts.{undecided_points}
use Rattle.wf_cli_program.specs.Laws.{IsServed, IsWritten, file_count, most_beside, most_read}

-- what is answered has status 2 at most, and nothing was written at 2
IsAnswered : Writing → Writing → Done → Type 0
IsAnswered sink sink' d = (d.status ≤ 2) × (d.status ≡ 2 → sink' ≡ sink)

-- what holds of the files, the source and the sink after something was done that reads a text of at
-- most so many bytes, where so many files were opened
record IsDone {F : Type 0} (files limit : ℕ) (opener opener' : Filing F) (source source' : Reading) (sink sink' : Writing) (done : Result Done Refusal) : Type 0 where
  failed : ℕ
  filed : IsFiled files opener opener' failed
  answered : IfOk done (IsAnswered sink sink')
  failures : source'.failures + sink'.failures + failed ≡ (source.failures + sink.failures) + calls_by done
  taken : source'.taken ≤ source.taken + (limit + 1)
  unwritten : IfErr done (λ e. refusal_status e ≢ 4 → sink' ≡ sink)

-- what is answered at status 0 or 1
quiet : (sink sink' : Writing) (d : Done) → d.status ≤ 1 → IsAnswered sink sink' d
unfolding IsAnswered
quiet sink sink' d most = (omega arith, λ two. absurd (omega (arith, most, two)))

-- what is answered at status 2, where nothing was written
unwritten_at_2 : (sink sink' : Writing) (d : Done) → d.status ≡ 2 → sink' ≡ sink → IsAnswered sink sink' d
unfolding IsAnswered
unwritten_at_2 sink sink' d two same = (omega (arith, two), λ is. same)

module _ {F : Type 0} (opener opener' : Filing F) (same : opener' ≡ opener) (source source' : Reading) (sink sink' : Writing) where
  Alone : Result Done Refusal → Type 0
  Alone done = IsDone 0 most_bytes opener opener' source source' sink sink' done

  accepted : {X : Type 0} (x : X) (d : Done) → IsAnswered sink sink' d → IsCounted source source' sink sink' (Ok x) → Alone (Ok d)
  unfolding Alone
  accepted x d most h =
      record { failed = 0; filed = service.unasked opener opener' same; answered = most; failures = omega (arith, h.reads, h.writes); taken = h.taken; unwritten = tt }

  refused : {X : Type 0} (e : RunFault) → IsCounted {X = X} source source' sink sink' (Err e) → Alone (Err (refusal.Run e))
  unfolding Alone
  refused e h =
      let calls = calls_of_fault e in
      record {
        failed = 0;
        filed = service.unasked opener opener' same;
        answered = tt;
        failures = omega (arith, h.reads, h.writes, calls);
        taken = h.taken;
        unwritten = λ other. h.unwritten (λ is. other (ap fault_status is));
      }

  after_solving : (result : Result (Outcome × Account) RunFault) → IsCounted source source' sink sink' result → Alone (solved result)
  after_solving (Ok (Map, a)) h = accepted (Map, a) _ (quiet sink sink' _ (omega arith)) h
  after_solving (Ok (Nothing, a)) h = accepted (Nothing, a) _ (quiet sink sink' _ (omega arith)) h
  after_solving (Err e) h = refused e h

  after_searching : (result : Result Outcome RunFault) → IsCounted source source' sink sink' result → Alone (searched result)
  after_searching (Ok Map) h = accepted Map _ (quiet sink sink' _ (omega arith)) h
  after_searching (Ok Nothing) h = accepted Nothing _ (quiet sink sink' _ (omega arith)) h
  after_searching (Err e) h = refused e h

  after_seeking : (result : Result Finding RunFault) → IsSeekingCounted source source' sink sink' result → Alone (sought result)
  after_seeking (Ok finding.Found) h = accepted finding.Found _ (quiet sink sink' _ (omega arith)) h.counted
  after_seeking (Ok (finding.NotFound tried)) h = accepted (finding.NotFound tried) _ (quiet sink sink' _ (omega arith)) h.counted
  after_seeking (Ok (finding.GaveUp at)) h = accepted (finding.GaveUp at) _ (unwritten_at_2 sink sink' _ refl (h.untouched at refl)) h.counted
  after_seeking (Err e) h = refused e h.counted

  after_writing : (result : Result (Unit {0}) RunFault) → IsCounted source source' sink sink' result → Alone (written result)
  after_writing (Ok x) h = accepted x _ (quiet sink sink' _ (omega arith)) h
  after_writing (Err e) h = refused e h

  -- a text was written and nothing was read
  after_preset : (result : Result (Unit {0}) RunFault) → source' ≡ source → IsWritten sink sink' result → IsCounted source source' sink sink' result
  after_preset result read h =
      let reads : source'.failures ≡ source.failures = ap (λ s. s.failures) read in
      let takes : source'.taken ≡ source.taken = ap (λ s. s.taken) read in
      let none = h.reads in
      record { taken = omega (arith, takes); reads = omega (arith, reads, none); writes = h.writes; unwritten = h.unwritten }

  -- what is counted where a question was written, of the whole task or of a branch
  question_counted : (branch : Option ℕ) (rounds : ℕ) (result : Result (Unit {0}) RunFault) → ListsQuestion branch rounds source source' sink sink' result → IsCounted source source' sink sink' result
  question_counted None rounds result lists = counted (IsTextOf question_text) rounds source source' sink sink' result lists
  question_counted (Some branch) rounds result lists = branch_counted (IsBranchTextOf branch_text) rounds branch source source' sink sink' result lists

  text_counted : (what : TextJob) (result : Result (Unit {0}) RunFault) → WritesTextOf what source source' sink sink' result → IsCounted source source' sink sink' result
  text_counted (text.Views rounds) result lists = counted (IsTextOf views_text) rounds source source' sink sink' result lists
  text_counted (text.Points rounds) result lists = counted (IsTextOf undecided_points) rounds source source' sink sink' result lists
  text_counted (text.Branches rounds) result lists = counted (IsTextOf branches_text) rounds source source' sink sink' result lists
  text_counted (text.Executions rounds) result lists = counted (IsTextOf executions_text) rounds source source' sink sink' result lists
  text_counted (text.Cnf rounds branch) result lists = question_counted branch rounds result lists
  text_counted (text.Preset preset) result (writes, read) = after_preset result read (preset_counted preset sink sink' result writes)

  -- a search, with an account or without one
  decided : (account : Bool) (workers rounds : ℕ) (form : Form) (done : Result Done Refusal) → DecidesTask account workers rounds form source source' sink sink' done → Alone done
  decided true workers rounds form done (result, (solves, ordered), is) = subst Alone (sym is) (after_solving result (counted (IsSolved form) rounds source source' sink sink' result solves))
  decided false workers rounds form done (result, finds, is) = subst Alone (sym is) (after_searching result (counted (IsFound form) rounds source source' sink sink' result finds))

  declined_as : (result : Result (Unit {0}) Refusal) → source' ≡ source → IsDeclined sink sink' result → Alone (finished result)
  unfolding Alone
  declined_as (Ok u) read h =
      let reads : source'.failures ≡ source.failures = ap (λ s. s.failures) read in
      let takes : source'.taken ≡ source.taken = ap (λ s. s.taken) read in
      let failures = h.failures in
      record { failed = 0; filed = service.unasked opener opener' same; answered = quiet sink sink' _ (omega arith); failures = omega (arith, reads, failures); taken = omega (arith, takes); unwritten = tt }
  declined_as (Err e) read h =
      let reads : source'.failures ≡ source.failures = ap (λ s. s.failures) read in
      let takes : source'.taken ≡ source.taken = ap (λ s. s.taken) read in
      let failures = h.failures in
      record { failed = 0; filed = service.unasked opener opener' same; answered = tt; failures = omega (arith, reads, failures); taken = omega (arith, takes); unwritten = h.unwritten }

-- what is counted of a check of a proof
proof_counted : (rounds : ℕ) (branch : Option ℕ) (hints : Bool) → Checked most_proof_bytes (ChecksProofBy rounds branch hints)
proof_counted rounds None false file file' source source' sink sink' result does = proved rounds file file' source source' sink sink' result does
proof_counted rounds (Some branch) false file file' source source' sink sink' result does = branch_proved rounds branch file file' source source' sink sink' result does
proof_counted rounds None true file file' source source' sink sink' result does = proved_by_hints rounds file file' source source' sink sink' result does
proof_counted rounds (Some branch) true file file' source source' sink sink' result does = branch_proved_by_hints rounds branch file file' source source' sink sink' result does

-- what is counted of each job with the task in a file
did_with : (f : TaskFileJob) → Checked (most_beside f) (DoesWithFile f)
did_with (filed.Verify rounds long) file file' source source' sink sink' result (answer, does, is) =
    let most = most_of long in
    service.without most file file' source source' sink sink' answer result is (certified most rounds file file' source source' sink sink' answer (least_most long) does)
did_with (filed.VerifyBranch rounds branch) file file' source source' sink sink' result does = part_checked rounds branch file file' source source' sink sink' result does
did_with (filed.Join rounds) file file' source source' sink sink' result does = joining_counted rounds file file' source source' sink sink' result does
did_with (filed.Model rounds) file file' source source' sink sink' result does = modelled rounds file file' source source' sink sink' result does
did_with (filed.Proof asked) file file' source source' sink sink' result does =
    proof_counted asked.rounds asked.branch asked.hints file file' source source' sink sink' result does
did_with filed.Decisions file file' source source' sink sink' result does = checked None AreDecisions file file' source source' sink sink' result does
did_with filed.Trim file file' source source' sink sink' result does = checked None AreTrimmed file file' source source' sink sink' result does
did_with filed.Explain file file' source source' sink sink' result does = explained_counted file file' source source' sink sink' result does
did_with (filed.Lift rounds) file file' source source' sink sink' result does = lifting_counted rounds file file' source source' sink sink' result does

-- what holds after something was done with the task in a file
of_file : {F : Type 0} (most : ℕ) (opener opener' : Filing F) (source source' : Reading) (sink sink' : Writing) (result : Result (Unit {0}) RunFault)
    → IsFileRun most opener opener' source source' sink sink' result → IsDone 1 most opener opener' source source' sink sink' (finished (as_file_refusal (state_of opener'.kept) result))
of_file most opener opener' source source' sink sink' (Ok u) h =
    record { failed = h.of_file; filed = h.filed; answered = quiet sink sink' _ (omega arith); failures = h.failures; taken = h.taken; unwritten = tt }
of_file most opener opener' source source' sink sink' (Err e) h =
    let calls = calls_of_fault e in
    record {
      failed = h.of_file;
      filed = h.filed;
      answered = tt;
      failures = h.failures ∙ ap (λ n. (source.failures + sink.failures) + n) calls;
      taken = h.taken;
      unwritten = λ other. h.unwritten (λ same. other (ap fault_status same));
    }

with_file : {F : Type 0} (f : TaskFileJob) (comes : Opening → Type 0) (opener opener' : Filing F) (source source' : Reading) (sink sink' : Writing) (done : Result Done Refusal)
    → (result : Result (Unit {0}) RunFault) × WithFile comes (DoesWithFile f) opener opener' source source' sink sink' result × (done ≡ finished (as_file_refusal (state_of opener'.kept) result))
    → IsDone 1 (most_beside f) opener opener' source source' sink sink' done
with_file f comes opener opener' source source' sink sink' done (result, does, is) =
    subst (IsDone 1 (most_beside f) opener opener' source source' sink sink') (sym is)
    (of_file (most_beside f) opener opener' source source' sink sink' result
    (service.counted (most_beside f) (DoesWithFile f) comes opener opener' source source' sink sink' result (did_with f) does))

-- what holds after each job
Holds : {F : Type 0} → Result Job WordsFault → Result Done Refusal → Filing F → Filing F → Reading → Reading → Writing → Writing → Type 0
Holds asked done opener opener' source source' sink sink' = IsDone (file_count asked) (most_read asked) opener opener' source source' sink sink' done

-- what holds after a job without a file
did_alone : {F : Type 0} (what : StdinJob) (opener opener' : Filing F) (same : opener' ≡ opener) (source source' : Reading) (sink sink' : Writing) (done : Result Done Refusal)
    → DoesAlone what source source' sink sink' done → Alone opener opener' same source source' sink sink' done
did_alone (lone.Solve asked) opener opener' same source source' sink sink' done does = decided opener opener' same source source' sink sink' asked.account asked.workers asked.rounds asked.form done does
did_alone (lone.SolveBranch rounds branch form progress) opener opener' same source source' sink sink' done (result, solves, is) =
    subst (Alone opener opener' same source source' sink sink') (sym is)
    (after_searching opener opener' same source source' sink sink' result (branch_counted (IsSolvedIn form) rounds branch source source' sink sink' result solves))
did_alone (lone.Obstruction modulus covers progress) opener opener' same source source' sink sink' done (result, finds, is) =
    subst (Alone opener opener' same source source' sink sink') (sym is)
    (after_seeking opener opener' same source source' sink sink' result (seeking_counted (record { modulus = modulus; covers = covers }) source source' sink sink' result finds))
did_alone (lone.Text what) opener opener' same source source' sink sink' done (result, writes, is) =
    subst (Alone opener opener' same source source' sink sink') (sym is)
    (after_writing opener opener' same source source' sink sink' result (text_counted opener opener' same source source' sink sink' what result writes))

did : {F : Type 0} (opens : Opens) (opener opener' : Filing F) (source source' : Reading) (sink sink' : Writing) (asked : Result Job WordsFault) (done : Result Done Refusal)
    → DoesAsked opens asked opener opener' source source' sink sink' done → Holds asked done opener opener' source source' sink sink'
unfolding Holds Alone
did opens opener opener' source source' sink sink' (Ok (job.WithFile task what)) done does = with_file what (opens (string_bytes task)) opener opener' source source' sink sink' done does
did opens opener opener' source source' sink sink' (Ok (job.Alone what)) done (same, does) = did_alone what opener opener' same source source' sink sink' done does
did opens opener opener' source source' sink sink' (Err e) done (same, read, (result, (program, named, declines), is)) =
    subst (Alone opener opener' same source source' sink sink') (sym is)
    (declined_as opener opener' same source source' sink sink' result read (service.declined sink sink' program e result declines))

pub served : {F : Type 0} (opens : Opens) (opener opener' : Filing F) (source source' : Reading) (sink sink' errors errors' : Writing) (asked : Result Job WordsFault) (done : Result Done Refusal) (status : ℕ)
    → DoesAsked opens asked opener opener' source source' sink sink' done → Ends errors errors' done status → IsServed asked opener opener' source source' sink sink' errors errors' status
unfolding Holds IsAnswered
served opens opener opener' source source' sink sink' errors errors' asked (Ok d) status does (is, told) =
    let h = did opens opener opener' source source' sink sink' asked (Ok d) does in
    let most : d.status ≤ 2 = h.answered.0 in
    let none : calls_by_status status ≡ 0 = none_failed status (omega (arith, is, most)) in
    record {
      most = omega (arith, is, most);
      files = (h.failed, h.filed, h.failures ∙ ap (λ n. (source.failures + sink.failures) + n) (sym none));
      taken = h.taken;
      quiet = λ few. (d.note, told);
      unwritten = λ bad. elim bad [
        | inl two ↦ h.answered.1 (sym is ∙ two)
        | inr three ↦ absurd (omega (arith, is, most))
      ];
    }
served opens opener opener' source source' sink sink' errors errors' asked (Err e) status does (is, told) =
    let h = did opens opener opener' source source' sink sink' asked (Err e) does in
    let range = has_status e in
    record {
      most = omega (arith, is, range.1);
      files = (h.failed, h.filed, h.failures ∙ ap (λ n. (source.failures + sink.failures) + calls_by_status n) (sym is));
      taken = h.taken;
      quiet = λ few. absurd (omega (arith, is, range.0, few));
      unwritten = λ other. h.unwritten (two_or_three status (refusal_status e) is other);
    }
