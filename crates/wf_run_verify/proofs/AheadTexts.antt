-- From what was read of a window to the text of a source.
use Rattle.std.proofs.Common.{◌≡◌, ℕ, ◌++◌, true, List, [], Option, Some, None, Vec, Result, Ok, Err, IsErr, IsErrAnd, inl, inr, refl, sym, ap, ◌∙◌, subst, arith, append-nil, length-append}
use Rattle.std.proofs.KnownBytes.{Consumes-nil, Consumes-trans}
use Rattle.wf_model.specs.Limits.{most_bytes}
use Rattle.wf_model.specs.Report as reports
use Rattle.wf_model.specs.Report.{lines_of, report_of}
use Rattle.wf_model.specs.Task.{Task}
use Rattle.wf_base.specs.Streams.Seen.{Reading}
use Rattle.wf_base.specs.Streams.Ends.{CanRead}
use Rattle.wf_base.specs.Streams.Texts.{Gave}
use Rattle.wf_base.specs.declared.streams.source.ReadFault.{ReadFault}
use Rattle.wf_base.specs.declared.streams.source.ReadFault.TheVariants as read
use Rattle.wf_report.specs.declared.fault.CertFault.{CertFault}
use Rattle.wf_report.specs.declared.fault.CertFault.TheVariants as amiss
use Rattle.wf_report.specs.Parts.{whole_report}
use Rattle.wf_report.specs.Reads.{Parse, Reads}
use Rattle.wf_report.specs.Windows.{Ahead, CanGive, Drains, Gives, IsCutOff, failed_by, untouched}
use Rattle.wf_report.specs.declared.halt.ReadStop.TheVariants.{BadReport, SourceFailed}
use Rattle.wf_report.proofs.Lemmas.{can_on, gives_on}
use Rattle.wf_run.specs.Faults.{of_read, of_report_fault}
use Rattle.wf_run.specs.Run.{answered}
use Rattle.wf_run.specs.declared.fault.RunFault.{RunFault}
use Rattle.wf_run.specs.declared.fault.RunFault.TheVariants as run
use Rattle.wf_run_verify.specs.AsRead.{ChecksOn, IsFirst, IsForRounds, IsReported, IsTold, ReadsOn, ReadsReport}
use Rattle.wf_run_verify.specs.Verify.{ChecksReport, IsAccepted, IsFaultless, IsReportOf, IsVerifiedFor, text_of}
use Rattle.wf_run_verify.specs.declared.outcome.Accepted.{Accepted}
use Rattle.wf_run_verify.proofs.AheadReports.{refused_for}

-- ---- the text

module _ (old new : Reading) (w w' : Ahead) (first : IsFirst w) (bytes : List ℕ) where
  -- a text that was not read to its end
  pub cut_off : (e : ReadFault) → Gives old new w w' bytes (failed_by e) → IsCutOff e w' → ReadsOn old new w (Err e)
  cut_off read.TooLong gives cut =
      let size = length-append w.pending bytes in
      (bytes, gives.gave, (λ e. (gives.still e).0), omega (arith, gives.given, gives.most, first.given, size, cut))
  cut_off read.OutOfMemory gives cut =
      let size = length-append w.pending bytes in
      (bytes, gives.gave, (λ e. (gives.still e).0), omega (arith, gives.given, gives.most, first.given, size, cut))
  cut_off read.Read gives cut =
      let size = length-append w.pending bytes in
      (bytes, gives.gave, (λ e. (gives.still e).0), omega (arith, gives.given, gives.most, first.given, size, cut))

  -- a text that was
  pub read_whole : Gives old new w w' bytes 0 → CanGive new w' → w'.ended ≡ true → ReadsOn old new w (Ok (w.pending ++ bytes))
  read_whole gives can end =
      let size = length-append w.pending bytes in
      let at_end = can.end end in
      let few = at_end.1 in
      (bytes, gives.gave, (λ e. (gives.still e).0), (refl, omega (arith, gives.given, gives.most, first.given, size, few), at_end.0))

module _ (rounds : Option ℕ) (t : Task) (old : Reading) (w : Ahead) (first : IsFirst w) where
  -- the text was not read to its end
  unread : (new : Reading) (e : ReadFault) → ReadsOn old new w (Err e) → ChecksOn rounds t old new w (Err (of_read e))
  unread new e text = (Err (of_read e), (Err e, text, refl), refl)

  -- the text is no report
  no_report : (new : Reading) (text : List ℕ) (e : RunFault) → ReadsOn old new w (Ok text) → IsReportOf w.most text (Err e) → ChecksOn rounds t old new w (Err e)
  no_report new text e reads is = (Err e, (Ok text, reads, is), refl)

  -- a line was bad, or there were too many, and the rest was read
  module _ {X : Type 0} (g : X → Parse) (mid new : Reading) (w1 w2 : Ahead) (can : CanGive new w2) (end : w2.ended ≡ true) (more : List ℕ) (rest : Gives mid new w1 w2 more 0) where
    whole : (bytes : List ℕ) → Gives old mid w w1 bytes 0 → ReadsOn old new w (Ok (w.pending ++ (bytes ++ more)))
    whole bytes gives = read_whole old new w w2 first (bytes ++ more) (gives_on old mid new w w1 w2 bytes more 0 gives rest) can end

    amiss_is : (e : CertFault) → Reads whole_report g old mid w w1 (Err (BadReport e)) → ChecksOn rounds t old new w (Err (of_report_fault e))
    amiss_is (amiss.Syntax k) (bytes, gives, bad) =
        no_report new (w.pending ++ (bytes ++ more)) (run.Cert (amiss.Syntax k)) (whole bytes gives) (bad more (λ e. (rest.still e).0))
    amiss_is amiss.TooLong (bytes, gives, many) =
        no_report new (w.pending ++ (bytes ++ more)) run.TooLong (whole bytes gives)
        (inr (let count = many more (λ e. (rest.still e).0) in omega (arith, count, first.number)))
    amiss_is (amiss.Header k) (bytes, gives, bad) = absurd bad
    amiss_is amiss.MapLength (bytes, gives, bad) = absurd bad
    amiss_is (amiss.Violates k) (bytes, gives, bad) = absurd bad
    amiss_is (amiss.NoSuch k) (bytes, gives, bad) = absurd bad
    amiss_is (amiss.Unsound k) (bytes, gives, bad) = absurd bad
    amiss_is (amiss.NotEmpty k) (bytes, gives, bad) = absurd bad
    amiss_is (amiss.NotOpen k) (bytes, gives, bad) = absurd bad
    amiss_is amiss.Unfinished (bytes, gives, bad) = absurd bad
    amiss_is (amiss.Trailing k) (bytes, gives, bad) = absurd bad
    amiss_is (amiss.NotFirst k) (bytes, gives, bad) = absurd bad
    amiss_is (amiss.NotTheMap k) (bytes, gives, bad) = absurd bad
    amiss_is amiss.OutOfMemory (bytes, gives, bad) = absurd bad

  -- the text is a report
  whole_is : {X : Type 0} (new : Reading) (w' : Ahead) (r : reports.Report) (x : X) → CanGive new w' → w'.ended ≡ true → Reads whole_report (λ (x : X) ls. Ok r) old new w w' (Ok x)
      → (result : Result (Accepted × List ℕ) RunFault) → IsVerifiedFor rounds (IsAccepted rounds) t r result → ChecksOn rounds t old new w result
  whole_is new w' r x can end (bytes, gives, (one, count)) result verified =
      let text : report_of (w.pending ++ bytes) ≡ Ok r = ap (λ t. whole_report (lines_of (w.pending ++ t))) (sym (append-nil bytes)) ∙ one [] (λ e. refl) in
      (Ok r, (Ok (w.pending ++ bytes), read_whole old new w w' first bytes gives can end, text), verified)

  -- ---- from the report that was read to the answer

  -- the text was not read to its end
  pub report_unread : (new : Reading) (w' : Ahead) (e : ReadFault) → ReadsReport rounds t old new w w' (Err (SourceFailed e)) → ChecksOn rounds t old new w (Err (of_read e))
  report_unread new w' e (r, (bytes, gives, cut), is) = unread new e (cut_off old new w w' first bytes e gives cut)

  -- the text is none of a report, and the rest of it was read, or not
  pub report_amiss : (mid new : Reading) (w1 w2 : Ahead) (e : CertFault) → ReadsReport rounds t old mid w w1 (Err (BadReport e)) → Drains mid new w1 w2 (Ok tt) → ChecksOn rounds t old new w (Err (of_report_fault e))
  report_amiss mid new w1 w2 e (r, reads, is) (more, rest, end, can) = amiss_is (λ (x : Result Accepted RunFault) ls. Ok r) mid new w1 w2 can end more rest e reads

  pub report_cut : (mid new : Reading) (w1 w2 : Ahead) (e : CertFault) (f : ReadFault) → ReadsReport rounds t old mid w w1 (Err (BadReport e)) → Drains mid new w1 w2 (Err f) → ChecksOn rounds t old new w (Err (of_read f))
  report_cut mid new w1 w2 e f (r, (bytes, gives, bad), is) (more, rest, cut, can) =
      unread new f (cut_off old new w w2 first (bytes ++ more) f (gives_on old mid new w w1 w2 bytes more (failed_by f) gives rest) cut)

-- ---- what is told

accepted_for : (rounds : Option ℕ) (t : Task) (r : reports.Report) (answer : Accepted × List ℕ) → IsForRounds rounds r.rounds → IsFaultless t r → IsAccepted rounds t r answer.0 answer.1 → IsVerifiedFor rounds (IsAccepted rounds) t r (Ok answer)
accepted_for None t r answer for_these faultless is = (faultless, is)
accepted_for (Some wanted) t r answer for_these faultless is = inl (for_these, (faultless, is))

-- what was found of a report is told
told_is : (rounds : Option ℕ) (t : Task) (r : reports.Report) (reported : Result Accepted RunFault) (result : Result (Accepted × List ℕ) RunFault) → IsReported rounds t r reported → IsTold rounds reported result → IsVerifiedFor rounds (IsAccepted rounds) t r result
told_is rounds t r (Ok accepted) (Ok answer) (for_these, faultless, same) (is, text) =
    accepted_for rounds t r answer for_these faultless (is ∙ same, text ∙ ap (text_of rounds) same)
told_is rounds t r (Ok accepted) (Err e) (for_these, faultless, same) is =
    subst (λ e. IsVerifiedFor rounds (IsAccepted rounds) t r (Err e)) (sym is) (refused_for rounds t r run.OutOfMemory for_these tt)
told_is rounds t r (Err e) result reported is = subst (IsVerifiedFor rounds (IsAccepted rounds) t r) (sym is) reported

-- the report was read
pub report_told : (rounds : Option ℕ) (t : Task) (old new : Reading) (w w' : Ahead) (first : IsFirst w) (found : Result Accepted RunFault) (result : Result (Accepted × List ℕ) RunFault)
    → ReadsReport rounds t old new w w' (Ok found) → w'.ended ≡ true → CanGive new w' → IsTold rounds found result → ChecksOn rounds t old new w result
report_told rounds t old new w w' first found result (r, reads, is) end can told = whole_is rounds t old w first new w' r found can end reads result (told_is rounds t r found result is told)

-- ---- the source

-- what may be asked of the source where a line was bad
pub can_drain : (rounds : Option ℕ) (t : Task) (old new : Reading) (w w' : Ahead) (e : CertFault) → CanGive old w → ReadsReport rounds t old new w w' (Err (BadReport e)) → CanGive new w'
can_drain rounds t old new w w' e can (r, (bytes, gives, bad), is) = can_on old new w w' bytes can gives

-- what may be asked of it at first
pub can_begin : (s : Reading) (w : Ahead) → w ≡ untouched most_bytes → CanRead s → CanGive s w
can_begin s w start can = subst (CanGive s) (sym start) (record {
  failures = can.0;
  taken = (let few = can.1 in omega (arith, few));
  bounded = omega arith;
  few = omega arith;
  end = λ e. absurd (let bad : ⊥ = cc in bad);
})

-- nothing was passed at first
pub first_begin : (w : Ahead) (most : ℕ) → w ≡ untouched most → IsFirst w
first_begin w most start = subst IsFirst (sym start) (record { number = refl; given = refl })

-- no memory for a window
pub no_window : {A : Type 0} (rounds : Option ℕ) (t : Task) (s : Reading) (result : Result (Accepted × Vec ℕ A) RunFault) → IsErr result × IsErrAnd result (λ found. found ≡ run.OutOfMemory)
    → ChecksReport most_bytes rounds (IsAccepted rounds) t s s (answered result)
no_window rounds t s (Ok x) is = absurd (let ended = is.0 in let bad : ⊥ = cc in bad)
no_window rounds t s (Err found) is =
    subst (λ e. ChecksReport most_bytes rounds (IsAccepted rounds) t s s (Err e)) (sym is.1)
    (Err run.OutOfMemory, (Err read.OutOfMemory, ([], record { bytes_are = Consumes-nil s.left; taken = omega arith; failures = omega arith }, omega arith), refl), refl)

-- a window that has given nothing is at the text's begin
pub from_begin : (rounds : Option ℕ) (t : Task) (old new : Reading) (w : Ahead) (result : Result (Accepted × List ℕ) RunFault) → w ≡ untouched most_bytes → ChecksOn rounds t old new w result
    → ChecksReport most_bytes rounds (IsAccepted rounds) t old new result
from_begin rounds t old new w result start checks = at_first (subst (λ w. ChecksOn rounds t old new w result) start checks)
  where
    at_first : ChecksOn rounds t old new (untouched most_bytes) result → ChecksReport most_bytes rounds (IsAccepted rounds) t old new result
    at_first (r, (text, (rest, gave, may, is), judged), next) = (r, (text, (rest, gave, is), judged), next)

-- bytes, and then more
pub gave_on : (a b c : Reading) (bs cs : List ℕ) (failed : ℕ) → Gave a b bs 0 → Gave b c cs failed → Gave a c (bs ++ cs) failed
gave_on a b c bs cs failed one two =
    let all = length-append bs cs in
    record {
      bytes_are = Consumes-trans _ _ _ _ _ one.bytes_are two.bytes_are;
      taken = omega (arith, one.taken, two.taken, all);
      failures = omega (arith, one.failures, two.failures);
    }
