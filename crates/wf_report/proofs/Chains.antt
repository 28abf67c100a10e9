-- What is read in steps, one after the other.
use Rattle.std.proofs.Common.{◌≡◌, ◌<◌, ℕ, ◌+◌, List, [], ◌++◌, Result, Ok, Err, IsErr, IsErrAnd, refl, sym, ap, ◌∙◌, subst, arith, append_assoc, length-append}
use Rattle.std.proofs.KnownBytes.{Consumes-nil, Consumes-trans}
use Rattle.wf_base.specs.Streams.Seen.{Reading}
use Rattle.wf_report.specs.declared.fault.CertFault.TheVariants as amiss
use Rattle.wf_report.specs.Limits.{most_report_lines}
use Rattle.wf_report.specs.Reads.{Answers, Continues, Counts, MayFollow, Parse, Reads, last_number, lines_ahead}
use Rattle.wf_report.specs.Windows.{Ahead, CanGive, Gives, failed_calls}
use Rattle.wf_report.specs.declared.halt.ReadStop.{ReadStop}
use Rattle.wf_report.specs.declared.halt.ReadStop.TheVariants.{BadReport, SourceFailed}

-- nothing was given
pub gives_nothing : (s : Reading) (w w' : Ahead) → w'.given ≡ w.given → w'.most ≡ w.most → w'.ended ≡ w.ended → Gives s s w w' [] 0
gives_nothing s w w' given most ended = record {
  gave = record { bytes_are = Consumes-nil s.left; taken = omega arith; failures = omega arith };
  given = omega (arith, given);
  most = most;
  still = λ e. (refl, ended ∙ e);
  few = λ h. omega (arith, given, most, h);
  end = λ h e.
      let was = h (sym ended ∙ e) in
      let few = was.1 in
      (was.0, omega (arith, given, most, few));
}

module _ (a b c : Reading) (w w1 w2 : Ahead) (bs cs : List ℕ) (failed : ℕ) (first : Gives a b w w1 bs 0) (second : Gives b c w1 w2 cs failed) where
  pub gives_on : Gives a c w w2 (bs ++ cs) failed
  gives_on =
      let g1 = first.gave in
      let g2 = second.gave in
      let all = length-append bs cs in
      record {
        gave = record {
          bytes_are = Consumes-trans _ _ _ _ _ g1.bytes_are g2.bytes_are;
          taken = omega (arith, g1.taken, g2.taken, all);
          failures = omega (arith, g1.failures, g2.failures);
        };
        given = omega (arith, first.given, second.given, all);
        most = second.most ∙ first.most;
        still = λ e.
            let x = first.still e in
            let y = second.still x.1 in
            ((λ i. x.0 i ++ y.0 i), y.1);
        few = λ h. second.few (first.few h);
        end = λ h. second.end (first.end h);
      }

  -- what may follow the second may, behind the bytes in between, follow the first
  pub follows : (more : List ℕ) → MayFollow w2 more → MayFollow w1 (cs ++ more)
  follows more may e =
      let y = second.still e in
      λ i. y.0 i ++ may y.1 i

  pub continues_on : {A : Type 0} (f g h : List (List ℕ) → A) → Continues f g w w1 bs → Continues g h w1 w2 cs → Continues f h w w2 (bs ++ cs)
  continues_on f g h one two more may =
      ap (λ bytes. f (lines_ahead w bytes)) (append_assoc bs cs more) ∙ one (cs ++ more) (follows more may) ∙ two more may

  pub answers_on : {Y : Type 0} (f g : Parse) (h : Y → Parse) (result : Result Y ReadStop) → Continues f g w w1 bs → Counts w w1 bs → Answers g h w1 w2 cs result → Answers f h w w2 (bs ++ cs) result
  answers_on f g h (Ok y) one count two = (continues_on f g (h y) one two.0, continues_on (last_number w) (last_number w1) (last_number w2) count two.1)
  answers_on f g h (Err (BadReport (amiss.Syntax k))) one count two = continues_on f g (λ ls. Err k) one two
  answers_on f g h (Err (BadReport amiss.TooLong)) one count two = λ more may.
      subst (λ n. most_report_lines + 1 < n) (sym (ap (λ bytes. last_number w (lines_ahead w bytes)) (append_assoc bs cs more) ∙ count (cs ++ more) (follows more may))) (two more may)
  answers_on f g h (Err (BadReport (amiss.Header k))) one count two = absurd two
  answers_on f g h (Err (BadReport amiss.MapLength)) one count two = absurd two
  answers_on f g h (Err (BadReport (amiss.Violates k))) one count two = absurd two
  answers_on f g h (Err (BadReport (amiss.NoSuch k))) one count two = absurd two
  answers_on f g h (Err (BadReport (amiss.Unsound k))) one count two = absurd two
  answers_on f g h (Err (BadReport (amiss.NotEmpty k))) one count two = absurd two
  answers_on f g h (Err (BadReport (amiss.NotOpen k))) one count two = absurd two
  answers_on f g h (Err (BadReport amiss.Unfinished)) one count two = absurd two
  answers_on f g h (Err (BadReport (amiss.Trailing k))) one count two = absurd two
  answers_on f g h (Err (BadReport (amiss.NotFirst k))) one count two = absurd two
  answers_on f g h (Err (BadReport (amiss.NotTheMap k))) one count two = absurd two
  answers_on f g h (Err (BadReport amiss.OutOfMemory)) one count two = absurd two
  answers_on f g h (Err (SourceFailed e)) one count two = two

-- one step, and then another
pub then_reads : {X Y : Type 0} (f : Parse) (g : X → Parse) (h : Y → Parse) (a b c : Reading) (w w1 w2 : Ahead) (x : X) (result : Result Y ReadStop)
    → Reads f g a b w w1 (Ok x) → Reads (g x) h b c w1 w2 result → Reads f h a c w w2 result
then_reads f g h a b c w w1 w2 x result (bs, gives, answers) (cs, gives', answers') = (
  bs ++ cs,
  gives_on a b c w w1 w2 bs cs (failed_calls result) gives gives',
  answers_on a b c w w1 w2 bs cs (failed_calls result) gives gives' f (g x) h result answers.0 answers.1 answers',
)

-- ---- refusals

module _ {X Y : Type 0} (f : Parse) (g : X → Parse) (h : Y → Parse) (a b : Reading) (w w' : Ahead) where
  same_refusal : (bs : List ℕ) (e : ReadStop) → Answers f g w w' bs (Err e) → Answers f h w w' bs (Err e)
  same_refusal bs (BadReport (amiss.Syntax k)) is = is
  same_refusal bs (BadReport amiss.TooLong) is = is
  same_refusal bs (BadReport (amiss.Header k)) is = is
  same_refusal bs (BadReport amiss.MapLength) is = is
  same_refusal bs (BadReport (amiss.Violates k)) is = is
  same_refusal bs (BadReport (amiss.NoSuch k)) is = is
  same_refusal bs (BadReport (amiss.Unsound k)) is = is
  same_refusal bs (BadReport (amiss.NotEmpty k)) is = is
  same_refusal bs (BadReport (amiss.NotOpen k)) is = is
  same_refusal bs (BadReport amiss.Unfinished) is = is
  same_refusal bs (BadReport (amiss.Trailing k)) is = is
  same_refusal bs (BadReport (amiss.NotFirst k)) is = is
  same_refusal bs (BadReport (amiss.NotTheMap k)) is = is
  same_refusal bs (BadReport amiss.OutOfMemory) is = is
  same_refusal bs (SourceFailed e) is = is

  same_failures : (e : ReadStop) → failed_calls {X = X} (Err e) ≡ failed_calls {X = Y} (Err e)
  same_failures (BadReport e) = refl
  same_failures (SourceFailed e) = refl

  -- what is refused is refused, whatever would have come of it
  pub refused_as : (e : ReadStop) → Reads f g a b w w' (Err e) → Reads f h a b w w' (Err e)
  refused_as e (bs, gives, answers) = (bs, subst (Gives a b w w' bs) (same_failures e) gives, same_refusal bs e answers)

  pub stopped : (e : ReadStop) (result : Result Y ReadStop) → IsErr result × IsErrAnd result (λ found. found ≡ e) → Reads f g a b w w' (Err e) → Reads f h a b w w' result
  stopped e (Ok y) is read = absurd (let ended = is.0 in let bad : ⊥ = cc in bad)
  stopped e (Err found) is read = subst (λ s. Reads f h a b w w' (Err s)) (sym is.1) (refused_as e read)

-- ---- what can be asked of the source

pub can_on : (a b : Reading) (w w' : Ahead) (bs : List ℕ) → CanGive a w → Gives a b w w' bs 0 → CanGive b w'
can_on a b w w' bs can gives =
    let gave = gives.gave in
    record {
      failures = omega (arith, can.failures, gave.failures);
      taken = omega (arith, can.taken, gave.taken, gives.given);
      bounded = (let same = gives.most in let bound = can.bounded in omega (arith, same, bound));
      few = gives.few can.few;
      end = gives.end can.end;
    }

-- one step, and then a refusal
pub then_stops : {X Y Z : Type 0} (f : Parse) (g : X → Parse) (k : Y → Parse) (h : Z → Parse) (a b c : Reading) (w w1 w2 : Ahead) (x : X) (e : ReadStop) (result : Result Z ReadStop)
    → IsErr result × IsErrAnd result (λ found. found ≡ e) → Reads f g a b w w1 (Ok x) → Reads (g x) k b c w1 w2 (Err e) → Reads f h a c w w2 result
then_stops f g k h a b c w w1 w2 x e result is first second = then_reads f g h a b c w w1 w2 x result first (stopped (g x) k h b c w1 w2 e result is second)
