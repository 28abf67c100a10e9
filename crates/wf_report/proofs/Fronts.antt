-- What stands at the front of a window, and what comes of the line there.
use Rattle.std.proofs.Common.{◌≡◌, ◌≤◌, ℕ, suc, ◌+◌, ◌++◌, Bool, true, false, cond, List, [], ◌∷◌, take, drop, length, inl, inr, Option, Some, None, Ok, Err, codes, refl, sym, ap, ◌∙◌, subst, arith, append_assoc, append-nil, length-append, length-take}
use Rattle.std.proofs.lemmas.List.{take-append-drop}
use Rattle.wf_model.specs.Report as reports
use Rattle.wf_model.specs.Report.{least_body, line, lines_of, map_body, none_body, number_of_line, same_text, then_read, value_of_line}
use Rattle.wf_model.specs.Refutation.{Line}
use Rattle.wf_base.specs.Streams.Seen.{Reading}
use Rattle.wf_base.specs.Lines.Lines.{line_of}
use Rattle.wf_base.specs.declared.lines.line.Line as code
use Rattle.wf_report.specs.declared.fault.CertFault.TheVariants as amiss
use Rattle.wf_report.specs.declared.reading.Section.{Section}
use Rattle.wf_report.specs.Steps.{step_in}
use Rattle.wf_report.proofs.BodyLemmas.{ended, front_by, front_is, items_from, onto, steps_are}
use Rattle.wf_report.proofs.ReadLemmas.{lines_cut, number_at_line, number_step, same_ended}
use Rattle.wf_report.specs.declared.front.AnswerKind.{AnswerKind}
use Rattle.wf_report.specs.declared.front.AnswerKind.TheVariants.{Map, Nothing, Least}
use Rattle.wf_report.specs.Fronts.{FailsAt, answer_of}
use Rattle.wf_report.specs.Parts.{body_then, end_then, fixed_then, number_then, report_from, step_then, steps_then, values_then}
use Rattle.wf_report.specs.Reads.{Continues, Counts, MayFollow, Parse, Reads, lines_ahead}
use Rattle.wf_report.specs.Windows.{Ahead, CanGive, Finds, IsCutAt, IsFront, IsLineAt, passed}
use Rattle.wf_report.specs.declared.halt.ReadStop.{ReadStop}
use Rattle.wf_report.specs.declared.halt.ReadStop.TheVariants.{BadReport, SourceFailed}
use Rattle.wf_report.specs.declared.window.AtFront.{AtFront}
use Rattle.wf_report.specs.declared.window.AtFront.TheVariants as found
use Rattle.wf_report.proofs.BadLines.{BeginsBadly, has_lines, long_first, not_fixed, not_number, not_step, not_value, one_bad}
use Rattle.wf_report.proofs.Chains.{gives_nothing, then_reads}

-- ---- more bytes

-- a window that only took more bytes
pub ahead_grown : (w w' : Ahead) (bytes more : List ℕ) → w'.pending ≡ w.pending ++ bytes → lines_ahead w (bytes ++ more) ≡ lines_ahead w' more
ahead_grown w w' bytes more pending = ap lines_of (sym (append_assoc w.pending bytes more) ∙ ap (λ bs. bs ++ more) (sym pending))

module _ (a b : Reading) (w w' : Ahead) where
  -- what was found leaves the lines as they were
  pub found_reads : {X : Type 0} (parse : Parse) (x : X) (at : AtFront) → Finds a b w w' (Ok at) → Reads parse (λ x. parse) a b w w' (Ok x)
  found_reads parse x at (bytes, gives, (pending, number, front, numbered)) = (
    bytes,
    gives,
    ((λ more may. ap parse (ahead_grown w w' bytes more pending)), (λ more may. λ i. sym number i + length (ahead_grown w w' bytes more pending i))),
  )

  -- nothing was found
  pub find_stops : {X : Type 0} (f : Parse) (g : X → Parse) (e : ReadStop) → Finds a b w w' (Err e) → Reads f g a b w w' (Err e)
  find_stops f g (BadReport amiss.TooLong) (bytes, gives, (pending, number, past, some)) = (
    bytes,
    gives,
    λ more may.
        let grown = ap length (ahead_grown w w' bytes more pending) in
        let size = length-append w'.pending more in
        let has = has_lines (w'.pending ++ more) (omega (arith, size, some)) in
        omega (arith, grown, has, past),
  )
  find_stops f g (BadReport (amiss.Syntax k)) (bytes, gives, is) = absurd is
  find_stops f g (BadReport (amiss.Header k)) (bytes, gives, is) = absurd is
  find_stops f g (BadReport amiss.MapLength) (bytes, gives, is) = absurd is
  find_stops f g (BadReport (amiss.Violates k)) (bytes, gives, is) = absurd is
  find_stops f g (BadReport (amiss.NoSuch k)) (bytes, gives, is) = absurd is
  find_stops f g (BadReport (amiss.Unsound k)) (bytes, gives, is) = absurd is
  find_stops f g (BadReport (amiss.NotEmpty k)) (bytes, gives, is) = absurd is
  find_stops f g (BadReport (amiss.NotOpen k)) (bytes, gives, is) = absurd is
  find_stops f g (BadReport amiss.Unfinished) (bytes, gives, is) = absurd is
  find_stops f g (BadReport (amiss.Trailing k)) (bytes, gives, is) = absurd is
  find_stops f g (BadReport (amiss.NotFirst k)) (bytes, gives, is) = absurd is
  find_stops f g (BadReport (amiss.NotTheMap k)) (bytes, gives, is) = absurd is
  find_stops f g (BadReport amiss.OutOfMemory) (bytes, gives, is) = absurd is
  find_stops f g (SourceFailed e) (bytes, gives, is) = (bytes, gives, is.0)

-- ---- a front that is no line of a report

pub bad_ahead : (w : Ahead) → IsFront found.Bad w → (more : List ℕ) → MayFollow w more → BeginsBadly (w.pending ++ more)
bad_ahead w (inl (long, whole)) more may =
    let size = length-take 22 w.pending in
    subst BeginsBadly
    (sym (append_assoc (take 22 w.pending) (drop 22 w.pending) more) ∙ ap (λ t. t ++ more) (take-append-drop 22 w.pending))
    (long_first (take 22 w.pending) (drop 22 w.pending ++ more) (omega (arith, size, long)) whole)
bad_ahead w (inr (end, whole, some)) more may =
    subst BeginsBadly
    (sym (ap (λ t. w.pending ++ t) (may end) ∙ append-nil w.pending))
    (record { first = w.pending; more = []; lines_are = one_bad w.pending some whole; bad = inl whole })

module _ (k : ℕ) (parse : Parse) (fails : FailsAt k parse) (w : Ahead) where
  pub bad_continues : IsFront found.Bad w → Continues parse (λ ls. Err k) w w []
  bad_continues front more may =
      let first = bad_ahead w front more may in
      ap parse first.lines_are ∙ fails.bad first.first first.more first.bad

  pub end_continues : IsFront found.End w → Continues parse (λ ls. Err k) w w []
  end_continues (end, none) more may = ap (λ t. parse (lines_of t)) (λ i. none i ++ may end i) ∙ fails.nothing

-- ---- the line at the front

module _ (w : Ahead) (size : ℕ) (at : IsCutAt size w) where
  -- the line with its line feed
  abbrev pub front_line : List ℕ
  front_line = take size w.pending ++ 10 ∷ []

  pub line_first : (more : List ℕ) → lines_ahead w more ≡ front_line ∷ lines_ahead (passed size w) more
  line_first more =
      ap (λ t. lines_of (t ++ more)) at.cut
      ∙ ap lines_of (append_assoc (take size w.pending) (10 ∷ drop (size + 1) w.pending) more)
      ∙ lines_cut (take size w.pending) (drop (size + 1) w.pending ++ more) at.whole

  -- it is passed, or refused
  pub passes : (f g : Parse) → ((ls : List (List ℕ)) → f (front_line ∷ ls) ≡ g ls) → Continues f g w (passed size w) [] × Counts w (passed size w) []
  passes f g step = (
    (λ more may. ap f (line_first more) ∙ step (lines_ahead (passed size w) more)),
    (λ more may.
        let one = ap length (line_first more) in
        omega (arith, one)),
  )

  pub refuses : (f : Parse) (k : ℕ) → ((ls : List (List ℕ)) → f (front_line ∷ ls) ≡ Err k) → Continues f (λ ls. Err k) w w []
  refuses f k step more may = ap f (line_first more) ∙ step (lines_ahead (passed size w) more)

module _ {X Y : Type 0} (f : Parse) (g : Y → Parse) (a b : Reading) (w w1 : Ahead) (x : X) (read : Reads f (λ (x : X). f) a b w w1 (Ok x)) where
  -- a line was found, and is passed
  pub read_passing : (size : ℕ) (y : Y) → IsCutAt size w1 → ((ls : List (List ℕ)) → f ((take size w1.pending ++ 10 ∷ []) ∷ ls) ≡ g y ls) → Reads f g a b w (passed size w1) (Ok y)
  read_passing size y at step =
      then_reads f (λ x. f) g a b b w w1 (passed size w1) x (Ok y) read ([], gives_nothing b w1 (passed size w1) refl refl refl, passes w1 size at f (g y) step)

  -- a line was found, and is bad
  pub read_refusing : (size k : ℕ) → IsCutAt size w1 → ((ls : List (List ℕ)) → f ((take size w1.pending ++ 10 ∷ []) ∷ ls) ≡ Err k) → Reads f g a b w w1 (Err (BadReport (amiss.Syntax k)))
  read_refusing size k at step =
      then_reads f (λ x. f) g a b b w w1 w1 x (Err (BadReport (amiss.Syntax k))) read ([], gives_nothing b w1 w1 refl refl refl, refuses w1 size at f k step)

  -- what is there is bad
  pub read_failing : (k : ℕ) → Continues f (λ ls. Err k) w1 w1 [] → Reads f g a b w w1 (Err (BadReport (amiss.Syntax k)))
  read_failing k is = then_reads f (λ x. f) g a b b w w1 w1 x (Err (BadReport (amiss.Syntax k))) read ([], gives_nothing b w1 w1 refl refl refl, is)

  -- what is there stays
  pub read_staying : (y : Y) → Continues f (g y) w1 w1 [] → Reads f g a b w w1 (Ok y)
  read_staying y is = then_reads f (λ x. f) g a b b w w1 w1 x (Ok y) read ([], gives_nothing b w1 w1 refl refl refl, (is, λ more may. refl))

-- ---- what reads a line

pub fixed_fails : (k : ℕ) (wanted : List ℕ) (next : Parse) → length wanted ≤ 21 → FailsAt k (fixed_then k wanted next)
fixed_fails k wanted next short = record {
  nothing = refl;
  bad = λ l ls is. ap (λ t. then_read (cond t (Ok ls) (Err k)) next) (not_fixed wanted l short is);
}

pub number_fails : (k : ℕ) (name : List ℕ) (next : ℕ → Parse) → length name ≤ 10 → FailsAt k (number_then k name next)
number_fails k name next short = record {
  nothing = refl;
  bad = λ l ls is. ap (λ r. then_read r (λ n. next n.0 n.1)) (number_at_line k name l ls ∙ ap (number_step k ls) (not_number name l short is));
}

-- the body, by which answer line 6 says
abbrev by_answers : (is_map is_none is_least : Bool) → List (List ℕ) → reports.Reading reports.Body
by_answers is_map is_none is_least ls = cond is_map (map_body ls) (cond is_none (none_body ls) (cond is_least (least_body ls) (Err 6)))

pub answer_fails : (next : reports.Body → reports.Reading reports.Report) → FailsAt 6 (report_from next)
answer_fails next = record {
  nothing = refl;
  bad = λ l ls is. ap (λ r. then_read r next)
      (λ i. by_answers (not_fixed (codes "answer map") l (omega arith) is i) (not_fixed (codes "answer none") l (omega arith) is i) (not_fixed (codes "answer least") l (omega arith) is i) ls);
}

-- the steps at the front, by the line there
abbrev pub steps_by : Section → ℕ → (List Line → reports.Reading reports.Report) → List (List ℕ) → Bool → Option Line → reports.Reading reports.Report
steps_by part k next ls t o = then_read (cond t (ended k ls) (onto o k (items_from (step_in part) (suc k) ls))) next

pub steps_at : (part : Section) (k : ℕ) (next : List Line → reports.Reading reports.Report) (l : List ℕ) (ls : List (List ℕ))
    → steps_then part k next (l ∷ ls) ≡ steps_by part k next ls (same_text l (line (codes "end") [])) (step_in part l)
steps_at part k next l ls = ap (λ r. then_read r next) (steps_are (step_in part) k (l ∷ ls))

pub steps_fail : (part : Section) (k : ℕ) (next : List Line → reports.Reading reports.Report) → FailsAt k (steps_then part k next)
steps_fail part k next = record {
  nothing = refl;
  bad = λ l ls is. steps_at part k next l ls ∙ (λ i. steps_by part k next ls (not_fixed (codes "end") l (omega arith) is i) (not_step part l is i));
}

-- ---- what was found

module _ (a b : Reading) (w w' : Ahead) where
  pub found_front : (at : AtFront) → Finds a b w w' (Ok at) → IsFront at w'
  found_front at (bytes, gives, (pending, number, front, numbered)) = front

  pub found_number : (at : AtFront) → Finds a b w w' (Ok at) → w'.number ≡ w.number
  found_number at (bytes, gives, (pending, number, front, numbered)) = number

  pub line_at : (size : ℕ) → Finds a b w w' (Ok (found.Line size)) → IsLineAt size w'
  line_at size (bytes, gives, (pending, number, front, numbered)) = record { line = front; numbered = numbered }

-- the source is as before
pub can_passed : (s : Reading) (w : Ahead) (size : ℕ) → CanGive s w → CanGive s (passed size w)
can_passed s w size can = record { failures = can.failures; taken = can.taken; bounded = can.bounded; few = can.few; end = can.end }

-- ---- a line that is read

pub fixed_step : (k : ℕ) (wanted l : List ℕ) (next : Parse) (t : Bool) → same_text l wanted ≡ t → (ls : List (List ℕ)) → fixed_then k wanted next ((l ++ 10 ∷ []) ∷ ls) ≡ then_read (cond t (Ok ls) (Err k)) next
fixed_step k wanted l next t is ls = ap (λ t. then_read (cond t (Ok ls) (Err k)) next) (same_ended l wanted ∙ is)

pub number_read : (k : ℕ) (name l : List ℕ) (next : ℕ → Parse) (o : Option ℕ) → number_of_line name (l ++ 10 ∷ []) ≡ o → (ls : List (List ℕ)) → number_then k name next ((l ++ 10 ∷ []) ∷ ls) ≡ then_read (number_step k ls o) (λ n. next n.0 n.1)
number_read k name l next o is ls = ap (λ r. then_read r (λ n. next n.0 n.1)) (number_at_line k name (l ++ 10 ∷ []) ls ∙ ap (number_step k ls) is)

-- line 6, by which answer it says
abbrev pub answered_by : (reports.Body → reports.Reading reports.Report) → List (List ℕ) → Option AnswerKind → reports.Reading reports.Report
answered_by next ls None = Err 6
answered_by next ls (Some answer) = body_then next answer ls

pub answer_read : (l : List ℕ) (next : reports.Body → reports.Reading reports.Report) (o : Option AnswerKind) → answer_of l ≡ o → (ls : List (List ℕ)) → report_from next ((l ++ 10 ∷ []) ∷ ls) ≡ answered_by next ls o
answer_read l next o is ls =
    (λ i. then_read (by_answers (same_ended l (codes "answer map") i) (same_ended l (codes "answer none") i) (same_ended l (codes "answer least") i) ls) next)
    ∙ by_tests (same_text l (codes "answer map")) (same_text l (codes "answer none")) (same_text l (codes "answer least"))
    ∙ ap (answered_by next ls) is
  where
    by_tests : (m n t : Bool) → then_read (by_answers m n t ls) next ≡ answered_by next ls (cond m (Some Map) (cond n (Some Nothing) (cond t (Some Least) None)))
    by_tests true n t = refl
    by_tests false true t = refl
    by_tests false false true = refl
    by_tests false false false = refl

-- values at the front, by the line there
abbrev pub values_by : (List ℕ → Parse) → List ℕ → List (List ℕ) → Option ℕ → reports.Reading reports.Report
values_by next l ls None = next [] (l ∷ ls)
values_by next l ls (Some a) = values_then (λ values. next (a ∷ values)) ls

pub values_at : (next : List ℕ → Parse) (l : List ℕ) (ls : List (List ℕ)) (o : Option ℕ) → value_of_line l ≡ o → values_then next (l ∷ ls) ≡ values_by next l ls o
values_at next l ls o is = ap (λ m. next m.0 m.1) (front_is l ls ∙ ap (λ o. front_by o l ls) is) ∙ by_value o
  where
    by_value : (o : Option ℕ) → next (front_by o l ls).0 (front_by o l ls).1 ≡ values_by next l ls o
    by_value None = refl
    by_value (Some a) = refl

-- a front without a value
pub no_value_ahead : (w : Ahead) (next : List ℕ → Parse) → IsFront found.Bad w → Continues (values_then next) (next []) w w []
no_value_ahead w next front more may =
    let first = bad_ahead w front more may in
    ap (values_then next) first.lines_are ∙ values_at next first.first first.more None (not_value first.first first.bad) ∙ sym (ap (next []) first.lines_are)

pub nothing_ahead : (w : Ahead) (next : List ℕ → Parse) → IsFront found.End w → Continues (values_then next) (next []) w w []
nothing_ahead w next (end, none) more may =
    let empty : lines_ahead w more ≡ [] = ap lines_of (λ i. none i ++ may end i) in
    ap (values_then next) empty ∙ sym (ap (next []) empty)

pub other_ahead : (w : Ahead) (size : ℕ) (at : IsCutAt size w) (next : List ℕ → Parse) → value_of_line (take size w.pending ++ 10 ∷ []) ≡ None → Continues (values_then next) (next []) w w []
other_ahead w size at next none more may =
    let first = line_first w size at more in
    ap (values_then next) first ∙ values_at next (take size w.pending ++ 10 ∷ []) (lines_ahead (passed size w) more) None none ∙ sym (ap (next []) first)

-- steps, by the line at the front
pub step_read : (part : Section) (k : ℕ) (next : List Line → reports.Reading reports.Report) (l : List ℕ) (t : Bool) (o : Option Line) → same_text l (codes "end") ≡ t → step_in part (l ++ 10 ∷ []) ≡ o
    → (ls : List (List ℕ)) → steps_then part k next ((l ++ 10 ∷ []) ∷ ls) ≡ steps_by part k next ls t o
step_read part k next l t o end step ls = steps_at part k next (l ++ 10 ∷ []) ls ∙ (λ i. steps_by part k next ls ((same_ended l (codes "end") ∙ end) i) (step i))

-- a step is onto those behind it
pub step_onto : (part : Section) (k : ℕ) (next : List Line → reports.Reading reports.Report) (x : Line) (ls : List (List ℕ)) → steps_by part k next ls false (Some x) ≡ steps_then part (k + 1) (λ steps. next (x ∷ steps)) ls
step_onto part k next x ls =
    let after : suc k ≡ k + 1 = omega arith in
    by_rest (items_from (step_in part) (suc k) ls) ∙ ap (λ r. then_read r (λ steps. next (x ∷ steps))) (sym (steps_are (step_in part) (suc k) ls)) ∙ ap (λ n. steps_then part n (λ steps. next (x ∷ steps)) ls) after
  where
    by_rest : (r : reports.Reading (List Line)) → then_read (onto (Some x) k r) next ≡ then_read r (λ steps. next (x ∷ steps))
    by_rest (Ok xs) = refl
    by_rest (Err e) = refl

-- the end is onto what is behind it
pub end_onto : (part : Section) (k : ℕ) (next : List Line → reports.Reading reports.Report) (o : Option Line) (ls : List (List ℕ)) → steps_by part k next ls true o ≡ end_then k next ls
end_onto part k next o [] = refl
end_onto part k next o (l ∷ ls) = refl

-- behind the last line there is none
pub end_fails : (k : ℕ) (next : List Line → reports.Reading reports.Report) (w : Ahead) → IsFront found.Bad w → Continues (end_then k next) (λ ls. Err (k + 1)) w w []
end_fails k next w front more may =
    let first = bad_ahead w front more may in
    let after : suc k ≡ k + 1 = omega arith in
    ap (end_then k next) first.lines_are ∙ ap Err after

pub end_follows : (k : ℕ) (next : List Line → reports.Reading reports.Report) (w : Ahead) (size : ℕ) → IsCutAt size w → Continues (end_then k next) (λ ls. Err (k + 1)) w w []
end_follows k next w size at more may =
    let after : suc k ≡ k + 1 = omega arith in
    ap (end_then k next) (line_first w size at more) ∙ ap Err after

pub end_there : (k : ℕ) (next : List Line → reports.Reading reports.Report) (w : Ahead) → IsFront found.End w → Continues (end_then k next) (λ ls. next []) w w []
end_there k next w (end, none) more may = ap (λ t. end_then k next (lines_of t)) (λ i. none i ++ may end i)

-- ---- the step at the front

module _ (part : Section) (a b : Reading) (w w1 : Ahead) (at size : ℕ) (same : at ≡ w.number) (cut : IsCutAt size w1)
    (line_found : (parse : Parse) → FailsAt at parse → Reads parse (λ (size : ℕ). parse) a b w w1 (Ok size)) (next : List Line → reports.Reading reports.Report) where
  abbrev pub steps_here : Parse
  steps_here = steps_then part w.number next

  pub steps_fail_here : FailsAt at steps_here
  steps_fail_here = subst (λ k. FailsAt k steps_here) (sym same) (steps_fail part w.number next)

  pub end_read : same_text (take size w1.pending) (codes "end") ≡ true → Reads steps_here (λ (x : Unit {0}). end_then at next) a b w (passed size w1) (Ok tt)
  end_read end =
      read_passing steps_here (λ (x : Unit {0}). end_then at next) a b w w1 size (line_found steps_here steps_fail_here) size tt cut
      (λ ls.
      let o = step_in part (take size w1.pending ++ 10 ∷ []) in
      step_read part w.number next (take size w1.pending) true o end refl ls ∙ end_onto part w.number next o ls ∙ ap (λ k. end_then k next ls) (sym same))

  pub step_taken : (l : code.Line) → w1.number ≡ w.number → same_text (take size w1.pending) (codes "end") ≡ false → step_in part (take size w1.pending ++ 10 ∷ []) ≡ Some (line_of l)
      → Reads steps_here (step_then part (w1.number + 1) next) a b w (passed size w1) (Ok (Some l))
  step_taken l number end step =
      read_passing steps_here (step_then part (w1.number + 1) next) a b w w1 size (line_found steps_here steps_fail_here) size (Some l) cut
      (λ ls.
      step_read part w.number next (take size w1.pending) false (Some (line_of l)) end step ls
      ∙ step_onto part w.number next (line_of l) ls
      ∙ ap (λ k. steps_then part (k + 1) (λ steps. next (line_of l ∷ steps)) ls) (sym number))

  pub step_refused : {Y : Type 0} (g : Y → Parse) → same_text (take size w1.pending) (codes "end") ≡ false → step_in part (take size w1.pending ++ 10 ∷ []) ≡ None
      → Reads steps_here g a b w w1 (Err (BadReport (amiss.Syntax at)))
  step_refused g end step =
      read_refusing steps_here g a b w w1 size (line_found steps_here steps_fail_here) size at cut
      (λ ls. step_read part w.number next (take size w1.pending) false None end step ls ∙ ap Err (sym same))
