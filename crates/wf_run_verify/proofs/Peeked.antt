-- A certificate, by its first line.
use Rattle.std.proofs.Common.{◌≡◌, ◌≤◌, ℕ, ◌++◌, Bool, true, false, cond, List, [], codes, length, Option, Vec, Result, Ok, Err, IsErr, IsErrAnd, inl, inr, refl, sym, ap, ◌∙◌, subst, arith, append-nil, length-append}
use Rattle.std.proofs.KnownBytes.{Consumes-nil}
use Rattle.wf_model.specs.Limits.{most_bytes}
use Rattle.wf_model.specs.Report.{Report, line}
use Rattle.wf_model.specs.Task.{Task}
use Rattle.wf_base.specs.Streams.Seen.{Reading}
use Rattle.wf_base.specs.Streams.Texts.{Gave, IsText, failed_reads}
use Rattle.wf_base.specs.declared.streams.source.ReadFault.{ReadFault}
use Rattle.wf_base.specs.declared.streams.source.ReadFault.TheVariants as read
use Rattle.wf_report.specs.Limits.{most_report_bytes}
use Rattle.wf_report.specs.Reads.{MayFollow}
use Rattle.wf_report.specs.Windows.{Ahead, CanGive, Collects, Gives, IsCutOff, IsFront, Seeks, failed_by, untouched, with_most}
use Rattle.wf_report.specs.declared.window.AtFront.{AtFront}
use Rattle.wf_report.specs.declared.window.AtFront.TheVariants as found
use Rattle.wf_report.proofs.Lemmas.{bad_ahead, line_first, not_fixed}
use Rattle.wf_tree_text.specs.Text.{begins_as_obstruction, begins_with}
use Rattle.wf_run.specs.Faults.{of_read}
use Rattle.wf_run.specs.Run.{Next, answered}
use Rattle.wf_run.specs.declared.fault.RunFault.{RunFault}
use Rattle.wf_run.specs.declared.fault.RunFault.TheVariants as run
use Rattle.wf_run_verify.specs.AsRead.{ChecksOn, IsFirst}
use Rattle.wf_run_verify.specs.Certificates.{BeginsAs, ChecksObstruction, ChecksSource, Peeks, ReadsCertificate, as_verified, most_behind}
use Rattle.wf_run_verify.specs.Verify.{IsAccepted, IsVerifiedFor, most_of}
use Rattle.wf_run_verify.specs.declared.outcome.Accepted.{Accepted}
use Rattle.wf_run_verify.specs.declared.outcome.Verified.{Verified}
use Rattle.wf_run_verify.proofs.AheadTexts.{gave_on}

-- ---- the first line

abbrev wanted : List ℕ
wanted = line (codes "wfcheck obstruction 1") []

-- a first line that is bad is none of an obstruction
bad_begins : (w : Ahead) → IsFront found.Bad w → (more : List ℕ) → MayFollow w more → begins_as_obstruction (w.pending ++ more) ≡ false
bad_begins w front more may =
    let first = bad_ahead w front more may in
    ap (begins_with wanted) first.lines_are ∙ not_fixed (codes "wfcheck obstruction 1") first.first (omega arith) first.bad

-- what follows changes nothing
begins_so : (at : AtFront) (w : Ahead) → IsFront at w → (more : List ℕ) → MayFollow w more → begins_as_obstruction (w.pending ++ more) ≡ begins_as_obstruction (w.pending ++ [])
begins_so (found.Line size) w front more may = ap (begins_with wanted) (line_first w size front more) ∙ sym (ap (begins_with wanted) (line_first w size front []))
begins_so found.Bad w front more may = bad_begins w front more may ∙ sym (bad_begins w front [] (λ e. refl))
begins_so found.End w (end, none) more may = ap (λ t. begins_as_obstruction (w.pending ++ t)) (may end)

pub begins_as : (at : AtFront) (w : Ahead) (is_one : Bool) → IsFront at w → is_one ≡ begins_as_obstruction w.pending → BeginsAs is_one w
begins_as at w is_one front is more may = begins_so at w front more may ∙ ap begins_as_obstruction (append-nil w.pending) ∙ sym is

module _ (a b : Reading) (w w' : Ahead) where
  pub peeked : (at : AtFront) (is_one : Bool) → Seeks a b w w' (Ok at) → is_one ≡ begins_as_obstruction w'.pending → Peeks a b w w' (Ok is_one)
  peeked at is_one (bytes, gives, (pending, number, front)) is = (bytes, gives, (pending, number, begins_as at w' is_one front is))

  pub unpeeked : (e : ReadFault) (result : Result Bool ReadFault) → IsErr result × IsErrAnd result (λ found. found ≡ e) → Seeks a b w w' (Err e) → Peeks a b w w' result
  unpeeked e (Ok x) is seeks = absurd (let ended = is.0 in let bad : ⊥ = cc in bad)
  unpeeked e (Err found) is (bytes, gives, cut) = subst (λ e. Peeks a b w w' (Err e)) (sym is.1) (bytes, gives, cut)

-- ---- how long a certificate may be

pub least_most : (is_long : Bool) → most_bytes ≤ most_of is_long
least_most false = omega arith
least_most true = omega arith

pub most_most : (is_long : Bool) → most_of is_long ≤ most_report_bytes
most_most false = omega arith
most_most true = omega arith

-- by whether the text is one of an obstruction
abbrev most_by : ℕ → Bool → ℕ
most_by most is_one = cond is_one most_bytes most

pub behind_least : (most : ℕ) (given : List ℕ) → most_bytes ≤ most → most_bytes ≤ most_behind most given
behind_least most given few = by_test (begins_as_obstruction given)
  where
    by_test : (t : Bool) → most_bytes ≤ most_by most t
    by_test true = omega arith
    by_test false = omega (arith, few)

pub behind_most : (most : ℕ) (given : List ℕ) → most_bytes ≤ most → most_behind most given ≤ most
behind_most most given few = by_test (begins_as_obstruction given)
  where
    by_test : (t : Bool) → most_by most t ≤ most
    by_test true = omega (arith, few)
    by_test false = omega arith

-- the first line of a text was read
pub record IsBegun (begun mid : Reading) (w1 : Ahead) (is_one : Bool) : Type 0 where
  pub gave : Gave begun mid w1.pending 0
  pub first : IsFirst w1
  pub most_is : w1.most ≡ most_bytes
  pub begins : BeginsAs is_one w1

-- what was refused is refused, as of a certificate
refused : (rounds : Option ℕ) (t : Task) (e : RunFault) (answer : Result (Accepted × List ℕ) RunFault) (r : Result Report RunFault) → r ≡ Err e → Next (IsVerifiedFor rounds (IsAccepted rounds) t) r answer → as_verified answer ≡ Err e
refused rounds t e answer r is next = ap as_verified (subst (λ r. Next (IsVerifiedFor rounds (IsAccepted rounds) t) r answer) is next)

module _ (most : ℕ) (rounds : Option ℕ) (t : Task) where
  unread : (old new : Reading) (e : ReadFault) → ReadsCertificate most old new (Err e) → ChecksSource most rounds t old new (Err (of_read e))
  unread old new e text = (Err e, text, refl)

  -- no memory for a window
  pub no_window : {A : Type 0} (s : Reading) (result : Result (Verified × Vec ℕ A) RunFault) → IsErr result × IsErrAnd result (λ found. found ≡ run.OutOfMemory) → ChecksSource most rounds t s s (answered result)
  no_window s (Ok x) is = absurd (let ended = is.0 in let bad : ⊥ = cc in bad)
  no_window s (Err found) is = subst (λ e. ChecksSource most rounds t s s (Err e)) (sym is.1)
      (unread s s read.OutOfMemory ([], record { bytes_are = Consumes-nil s.left; taken = omega arith; failures = omega arith }, omega arith))

  module _ (begun : Reading) (w : Ahead) (start : w ≡ untouched most_bytes) (least : most_bytes ≤ most) where
    -- the first line was not read
    first_unread : (mid : Reading) (w1 : Ahead) (bytes : List ℕ) (e : ReadFault) → Gives begun mid (untouched most_bytes) w1 bytes (failed_by e) → IsCutOff e w1 → length bytes ≤ 21 → ReadsCertificate most begun mid (Err e)
    first_unread mid w1 bytes read.TooLong gives cut few = absurd (omega (arith, gives.given, gives.most, cut, few))
    first_unread mid w1 bytes read.OutOfMemory gives cut few =
        let bound = behind_least most bytes least in
        (bytes, gives.gave, omega (arith, bound, few))
    first_unread mid w1 bytes read.Read gives cut few =
        let bound = behind_least most bytes least in
        (bytes, gives.gave, omega (arith, bound, few))

    pub peek_cut : (mid : Reading) (w1 : Ahead) (e : ReadFault) → Peeks begun mid w w1 (Err e) → ChecksSource most rounds t begun mid (Err (of_read e))
    peek_cut mid w1 e peeks = at_first (subst (λ w. Peeks begun mid w w1 (Err e)) start peeks)
      where
        at_first : Peeks begun mid (untouched most_bytes) w1 (Err e) → ChecksSource most rounds t begun mid (Err (of_read e))
        at_first (bytes, gives, (cut, few)) = unread begun mid e (first_unread mid w1 bytes e gives cut few)

    -- it was
    pub begun_by : (mid : Reading) (w1 : Ahead) (is_one : Bool) → Peeks begun mid w w1 (Ok is_one) → IsBegun begun mid w1 is_one
    begun_by mid w1 is_one peeks = at_first (subst (λ w. Peeks begun mid w w1 (Ok is_one)) start peeks)
      where
        at_first : Peeks begun mid (untouched most_bytes) w1 (Ok is_one) → IsBegun begun mid w1 is_one
        at_first (bytes, gives, (pending, number, begins)) =
            let size = ap length pending in
            record {
              gave = subst (λ bytes. Gave begun mid bytes 0) (sym pending) gives.gave;
              first = record { number = number; given = omega (arith, gives.given, size) };
              most_is = gives.most;
              begins = begins;
            }

    -- ---- an obstruction

    module _ (mid new : Reading) (w1 w2 : Ahead) (is_one : Bool) (yes : is_one ≡ true) (is : IsBegun begun mid w1 is_one) where
      limit : (more : List ℕ) → MayFollow w1 more → most_behind most (w1.pending ++ more) ≡ most_bytes
      limit more may = ap (most_by most) (is.begins more may ∙ yes)

      rest_cut : (more : List ℕ) (e : ReadFault) → Gives mid new w1 w2 more (failed_by e) → IsCutOff e w2 → ReadsCertificate most begun new (Err e)
      rest_cut more read.TooLong gives cut =
          let bound = limit more (λ e. (gives.still e).0) in
          let same = is.most_is in
          let before = is.first.given in
          let size = length-append w1.pending more in
          (w1.pending ++ more, gave_on begun mid new w1.pending more 0 is.gave gives.gave, omega (arith, bound, gives.given, gives.most, cut, same, before, size))
      rest_cut more read.OutOfMemory gives cut =
          let bound = limit more (λ e. (gives.still e).0) in
          let same = is.most_is in
          let before = is.first.given in
          let size = length-append w1.pending more in
          (w1.pending ++ more, gave_on begun mid new w1.pending more 0 is.gave gives.gave, omega (arith, bound, gives.given, gives.most, cut, same, before, size))
      rest_cut more read.Read gives cut =
          let bound = limit more (λ e. (gives.still e).0) in
          let same = is.most_is in
          let before = is.first.given in
          let size = length-append w1.pending more in
          (w1.pending ++ more, gave_on begun mid new w1.pending more 1 is.gave gives.gave, omega (arith, bound, gives.given, gives.most, cut, same, before, size))

      pub rest_unread : (e : ReadFault) → Collects mid new w1 w2 (Err e) → ChecksSource most rounds t begun new (Err (of_read e))
      rest_unread e (more, gives, cut, can) = unread begun new e (rest_cut more e gives cut)

      pub obstruction_read : (text : List ℕ) (answer : Result (Verified × List ℕ) RunFault) → Collects mid new w1 w2 (Ok text) → ChecksObstruction rounds t text answer → ChecksSource most rounds t begun new answer
      obstruction_read text answer (more, gives, (text_is, end), can) checks =
          let may : MayFollow w1 more = λ e. (gives.still e).0 in
          let bound = limit more may in
          let at_end = can.end end in
          let few = at_end.1 in
          let same = is.most_is in
          let before = is.first.given in
          let size = length-append w1.pending more in (
            Ok text,
            (w1.pending ++ more, gave_on begun mid new w1.pending more 0 is.gave gives.gave, (text_is, omega (arith, bound, gives.given, gives.most, few, same, before, size), at_end.0)),
            inl (ap begins_as_obstruction text_is ∙ is.begins more may ∙ yes, checks),
          )

    -- ---- a report

    module _ (mid new : Reading) (w1 w2 : Ahead) (is_one : Bool) (no : is_one ≡ false) (is : IsBegun begun mid w1 is_one) (allowed : w2 ≡ with_most most w1) where
      pub report_read : (answer : Result (Accepted × List ℕ) RunFault) → ChecksOn rounds t mid new w2 answer → ChecksSource most rounds t begun new (as_verified answer)
      report_read answer checks = at_most (subst (λ w. ChecksOn rounds t mid new w answer) allowed checks)
        where
          limit : (more : List ℕ) → MayFollow w1 more → most_behind most (w1.pending ++ more) ≡ most
          limit more may = ap (most_by most) (is.begins more may ∙ no)

          at_most : ChecksOn rounds t mid new (with_most most w1) answer → ChecksSource most rounds t begun new (as_verified answer)
          at_most (r, (Ok text, (rest, gave, may, (text_is, few, end)), judged), next) = (
            Ok text,
            (w1.pending ++ rest, gave_on begun mid new w1.pending rest 0 is.gave gave, subst (λ m. IsText m (w1.pending ++ rest) new.left (Ok text)) (sym (limit rest may)) (text_is, few, end)),
            inr (ap begins_as_obstruction text_is ∙ is.begins rest may ∙ no, (answer, (r, judged, next), refl)),
          )
          at_most (r, (Err e, (rest, gave, may, cut), judged), next) = (
            Err e,
            (w1.pending ++ rest, gave_on begun mid new w1.pending rest (failed_reads (Err e)) is.gave gave, subst (λ m. IsText m (w1.pending ++ rest) new.left (Err e)) (sym (limit rest may)) cut),
            refused rounds t (of_read e) answer r judged next,
          )

-- ---- what may be asked of the source

pub can_peeked : (s : Reading) (w w' : Ahead) (most : ℕ) → w' ≡ with_most most w → CanGive s w → w.most ≤ most → most ≤ most_report_bytes → CanGive s w'
can_peeked s w w' most allowed can more few = subst (CanGive s) (sym allowed) (record {
  failures = can.failures;
  taken = can.taken;
  bounded = few;
  few = (let was = can.few in omega (arith, was, more));
  end = λ e. let was = can.end e in let given = was.1 in (was.0, omega (arith, given, more));
})

pub first_peeked : (w w' : Ahead) (most : ℕ) → w' ≡ with_most most w → IsFirst w → IsFirst w'
first_peeked w w' most allowed first = subst IsFirst (sym allowed) (record { number = first.number; given = first.given })
