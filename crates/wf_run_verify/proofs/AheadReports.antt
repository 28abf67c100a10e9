-- What is found of a report, from what is found of its header and its body.
use Rattle.std.proofs.Common.{◌≡◌, ℕ, [], Option, Some, None, Result, Ok, Err, IsErr, IsErrAnd, inl, refl, sym, ap, ◌∙◌, subst}
use Rattle.wf_model.specs.Check.{body_fault, header_fault, report_fault, unless_fault}
use Rattle.wf_model.specs.Problem.{problem_of}
use Rattle.wf_model.specs.Report as reports
use Rattle.wf_model.specs.Task.{Task}
use Rattle.wf_complex.specs.Protocol.{Built, Builds}
use Rattle.wf_base.specs.Streams.Seen.{Reading}
use Rattle.wf_report.specs.Reports.{with_header}
use Rattle.wf_report.specs.declared.fault.CertFault.{CertFault}
use Rattle.wf_report.specs.declared.fault.CertFault.TheVariants as amiss
use Rattle.wf_report.specs.declared.report.Header.{Header}
use Rattle.wf_report_check.specs.Faults.{Fails}
use Rattle.wf_report_check.proofs.Lemmas.{fails_first, faultless_is_true}
use Rattle.wf_report_check.specs.Judged.{IsBodyFault, kind_of}
use Rattle.wf_report.specs.Parts.{ReadsBody, body_then, report_from, report_with, whole_report}
use Rattle.wf_report.specs.Reads.{Parse, Reads}
use Rattle.wf_report.specs.Windows.{Ahead}
use Rattle.wf_report.specs.declared.front.AnswerKind.{AnswerKind}
use Rattle.wf_report.specs.declared.halt.ReadStop.{ReadStop}
use Rattle.wf_report.proofs.Lemmas.{refused_as, then_reads}
use Rattle.wf_run.specs.Faults.{of_report_fault}
use Rattle.wf_run.specs.Run.{HasComplex}
use Rattle.wf_run.specs.declared.fault.RunFault.{RunFault}
use Rattle.wf_run_verify.specs.AsRead.{IsForRounds, IsPrepared, IsReported, ReadsReport, accepted_as, accepted_if}
use Rattle.wf_run_verify.specs.Verify.{IsAccepted, IsFaultOf, IsVerifiedFor, accepted_of}
use Rattle.wf_run_verify.specs.declared.outcome.Accepted.{Accepted}

-- ---- reports

-- a fault of a report
pub fault_of : (t : Task) (r : reports.Report) (e : CertFault) → HasComplex t r.rounds → Fails e (report_fault t r.rounds r) → IsFaultOf t r (of_report_fault e)
fault_of t r amiss.TooLong has fails = absurd fails
fault_of t r (amiss.Syntax k) has fails = absurd fails
fault_of t r (amiss.Header k) has fails = (has, fails)
fault_of t r amiss.MapLength has fails = (has, fails)
fault_of t r (amiss.Violates k) has fails = (has, fails)
fault_of t r (amiss.NoSuch k) has fails = (has, fails)
fault_of t r (amiss.Unsound k) has fails = (has, fails)
fault_of t r (amiss.NotEmpty k) has fails = (has, fails)
fault_of t r (amiss.NotOpen k) has fails = (has, fails)
fault_of t r amiss.Unfinished has fails = (has, fails)
fault_of t r (amiss.Trailing k) has fails = (has, fails)
fault_of t r (amiss.NotFirst k) has fails = (has, fails)
fault_of t r (amiss.NotTheMap k) has fails = (has, fails)
fault_of t r amiss.OutOfMemory has fails = tt

-- a refusal, for the rounds that are asked for
pub refused_for : (rounds : Option ℕ) (t : Task) (r : reports.Report) (e : RunFault) → IsForRounds rounds r.rounds → IsFaultOf t r e → IsVerifiedFor rounds (IsAccepted rounds) t r (Err e)
refused_for None t r e for_these is = is
refused_for (Some wanted) t r e for_these is = inl (for_these, is)

-- the answer of a body
kinds : (body : reports.Body) → accepted_as (kind_of body) ≡ accepted_of body
kinds (reports.a_map m) = refl
kinds (reports.none ls) = refl
kinds (reports.least m ls) = refl

module _ (rounds : Option ℕ) (t : Task) (h : Header) (b : Built) (for_these : IsForRounds rounds h.rounds) (built : Builds t h.rounds (Ok b)) (clear : (body : reports.Body) → header_fault t h.rounds (problem_of t h.rounds) (with_header h body) ≡ None)
    (answer : AnswerKind) (body : reports.Body) where
  whole_fault : report_fault t h.rounds (with_header h body) ≡ body_fault (problem_of t h.rounds) body
  whole_fault = ap (λ f. unless_fault f (body_fault (problem_of t h.rounds) body)) (clear body)

  has : HasComplex t h.rounds
  has = (b, built)

  -- the verdict on its body is that on the report
  pub reported : {X : Type 0} (verdict : Result X CertFault) → IsBodyFault (problem_of t h.rounds) answer body verdict → IsReported rounds t (with_header h body) (accepted_if verdict answer)
  reported (Ok x) (judged, same) = (
    for_these,
    record { within = has; faultless = whole_fault ∙ judged; holds = faultless_is_true t h.rounds (with_header h body) built.2.task (whole_fault ∙ judged) },
    ap accepted_as same ∙ kinds body,
  )
  reported (Err e) (judged, same) =
      refused_for rounds t (with_header h body) (of_report_fault e) for_these (fault_of t (with_header h body) e has (subst (Fails e) (sym whole_fault) judged))

-- ---- headers

module _ (t : Task) (h : Header) (b : Built) (built : Builds t h.rounds (Ok b)) where
  -- a header with a fault
  pub header_refused : (e : CertFault) (result : Result Built RunFault) → IsErr result × IsErrAnd result (λ found. found ≡ of_report_fault e)
      → ((body : reports.Body) → Fails e (header_fault t b.rounds (problem_of t b.rounds) (with_header h body))) → IsPrepared t h result
  header_refused e (Ok x) is fails = absurd (let ended = is.0 in let bad : ⊥ = cc in bad)
  header_refused e (Err found) is fails =
      subst (λ e. IsPrepared t h (Err e)) (sym is.1)
      (λ body.
      fault_of t (with_header h body) e (b, built)
      (fails_first e (header_fault t h.rounds (problem_of t h.rounds) (with_header h body)) (body_fault (problem_of t h.rounds) body)
      (subst (λ n. Fails e (header_fault t n (problem_of t n) (with_header h body))) built.2.rounds_are (fails body))))

  -- a header without one
  pub header_clear : ((body : reports.Body) → header_fault t b.rounds (problem_of t b.rounds) (with_header h body) ≡ None) → IsPrepared t h (Ok b)
  header_clear clear = (built, λ body. subst (λ n. header_fault t n (problem_of t n) (with_header h body) ≡ None) built.2.rounds_are (clear body))

-- ---- from a header and a body to a report

-- what is read behind a header
abbrev pub behind_header : Header → Parse
behind_header h = report_from (report_with h)

-- some report
abbrev any_report : reports.Report
any_report = record { processes = 0; rounds = 0; points = 0; executions = 0; body = reports.none [] }

module _ (rounds : Option ℕ) (t : Task) where
  -- the text is not read on
  pub report_stop : {X : Type 0} (g : X → Parse) (a b : Reading) (w w' : Ahead) (e : ReadStop) (result : Result (Result Accepted RunFault) ReadStop) → IsErr result × IsErrAnd result (λ found. found ≡ e) → Reads whole_report g a b w w' (Err e)
      → ReadsReport rounds t a b w w' result
  report_stop g a b w w' e (Ok x) is read = absurd (let ended = is.0 in let bad : ⊥ = cc in bad)
  report_stop g a b w w' e (Err found) is read =
      subst (λ s. ReadsReport rounds t a b w w' (Err s)) (sym is.1)
      (any_report, refused_as whole_report g (λ (x : Result Accepted RunFault) ls. Ok any_report) a b w w' e read, tt)

  module _ (h : Header) (answer : AnswerKind) (a b c : Reading) (w w1 w2 : Ahead) (front : Reads whole_report (body_then (report_with h)) a b w w1 (Ok answer)) {Y : Type 0} (says : reports.Body → Y → Type 0) where
    pub report_read : (y : Y) (x : Result Accepted RunFault) → ReadsBody answer says b c w1 w2 (Ok y) → ((body : reports.Body) → says body y → IsReported rounds t (with_header h body) x) → ReadsReport rounds t a c w w2 (Ok x)
    report_read y x (body, reads, is) turn = (
      with_header h body,
      then_reads whole_report (body_then (report_with h)) (λ (x : Result Accepted RunFault) ls. Ok (with_header h body)) a b c w w1 w2 answer (Ok x) front (reads (report_with h)),
      turn body is,
    )

    pub body_stop : (e : ReadStop) (result : Result (Result Accepted RunFault) ReadStop) → IsErr result × IsErrAnd result (λ found. found ≡ e) → ReadsBody answer says b c w1 w2 (Err e) → ReadsReport rounds t a c w w2 result
    body_stop e result is (body, reads, said) =
        report_stop (λ (y : Y) ls. Ok (with_header h body)) a c w w2 e result is
        (then_reads whole_report (body_then (report_with h)) (λ (y : Y) ls. Ok (with_header h body)) a b c w w1 w2 answer (Err e) front (reads (report_with h)))
