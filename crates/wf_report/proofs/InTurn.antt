-- Values and steps, read one after the other.
use Rattle.std.proofs.Common.{◌≡◌, ℕ, ◌+◌, ◌++◌, List, [], ◌∷◌, length, take, Some, None, Vec, Result, Ok, Err, IsErr, IsErrAnd, refl, sym, ap, subst, append_assoc, append-nil}
use Rattle.wf_model.specs.Refutation.{Line}
use Rattle.wf_model.specs.Report as reports
use Rattle.wf_base.specs.Streams.Seen.{Reading}
use Rattle.wf_base.specs.declared.streams.source.ReadFault.TheVariants as unread
use Rattle.wf_base.specs.Lines.Lines.{line_of}
use Rattle.wf_base.specs.declared.lines.line.Line as code
use Rattle.wf_report.specs.declared.reading.Section.{Section}
use Rattle.wf_report.specs.Parts.{ReadsSteps, ReadsValues, step_then, steps_then, value_then, values_then}
use Rattle.wf_report.specs.Reads.{Parse, Reads}
use Rattle.wf_report.specs.Windows.{Ahead, CanGive}
use Rattle.wf_report.specs.declared.halt.ReadStop.{ReadStop}
use Rattle.wf_report.specs.declared.halt.ReadStop.TheVariants.{SourceFailed}
use Rattle.wf_report.proofs.Chains.{gives_nothing, refused_as, then_reads}

-- nothing was read
pub reads_nothing : {X : Type 0} (f : Parse) (x : X) (s : Reading) (w : Ahead) → Reads f (λ (x : X). f) s s w w (Ok x)
reads_nothing f x s w = ([], gives_nothing s w w refl refl refl, ((λ more may. refl), (λ more may. refl)))

-- what comes of it, written otherwise
pub reads_as : {X : Type 0} (f g g' : Parse) (x : X) (a b : Reading) (w w' : Ahead) → g ≡ g' → Reads f (λ (x : X). g) a b w w' (Ok x) → Reads f (λ (x : X). g') a b w w' (Ok x)
reads_as {X = X} f g g' x a b w w' same read = subst (λ h. Reads f (λ (x : X). h) a b w w' (Ok x)) same read

-- ---- values

-- these values were read so far
pub record HasValues (old new : Reading) (w w' : Ahead) (done : List ℕ) : Type 0 where
  pub reads : (next : List ℕ → Parse) → Reads (values_then next) (λ (x : Unit {0}). values_then (λ values. next (done ++ values))) old new w w' (Ok (tt {0}))

pub no_values : (s : Reading) (w : Ahead) → HasValues s s w w []
no_values s w = record { reads = λ next. reads_nothing (values_then next) (tt {0}) s w }

module _ (a b c : Reading) (w w1 w2 : Ahead) (done : List ℕ) (before : HasValues a b w w1 done) where
  -- one value more
  pub one_value : (v : ℕ) → ((next : List ℕ → Parse) → Reads (values_then next) (value_then next) b c w1 w2 (Ok (Some v))) → HasValues a c w w2 (done ++ v ∷ [])
  one_value v read = record {
    reads = λ next.
        let one = λ (values : List ℕ). next (done ++ values) in
        reads_as (values_then next) (values_then (λ values. next (done ++ v ∷ values))) (values_then (λ values. next ((done ++ v ∷ []) ++ values))) (tt {0}) a c w w2
        (λ i. values_then (λ values. next (sym (append_assoc done (v ∷ []) values) i)))
        (then_reads (values_then next) (λ (x : Unit {0}). values_then one) (λ (x : Unit {0}). values_then (λ values. next (done ++ v ∷ values))) a b c w w1 w2 (tt {0}) (Ok (tt {0})) (before.reads next) (read one));
  }

  -- no value more
  pub last_value : {X : Type 0} (x : X) → ((next : List ℕ → Parse) → Reads (values_then next) (value_then next) b c w1 w2 (Ok None)) → (next : List ℕ → Parse) → Reads (values_then next) (λ (x : X). next done) a c w w2 (Ok x)
  last_value {X = X} x read next =
      let one = λ (values : List ℕ). next (done ++ values) in
      reads_as (values_then next) (next (done ++ [])) (next done) x a c w w2 (ap next (append-nil done))
      (then_reads (values_then next) (λ (x : Unit {0}). values_then one) (λ (x : X). next (done ++ [])) a b c w w1 w2 (tt {0}) (Ok x) (before.reads next) (read one))

-- ---- steps

-- these steps were read so far
pub record HasSteps (part : Section) (old new : Reading) (w w' : Ahead) (done : List Line) : Type 0 where
  pub reads : (next : List Line → reports.Reading reports.Report) → Reads (steps_then part w.number next) (λ (x : Unit {0}). steps_then part w'.number (λ steps. next (done ++ steps))) old new w w' (Ok (tt {0}))

pub no_steps : (part : Section) (s : Reading) (w : Ahead) → HasSteps part s s w w []
no_steps part s w = record { reads = λ next. reads_nothing (steps_then part w.number next) (tt {0}) s w }

module _ (part : Section) (a b c : Reading) (w w1 w2 : Ahead) (done : List Line) (before : HasSteps part a b w w1 done) where
  -- one step more
  pub one_step : (l : code.Line) → ((next : List Line → reports.Reading reports.Report) → Reads (steps_then part w1.number next) (step_then part w2.number next) b c w1 w2 (Ok (Some l)))
      → HasSteps part a c w w2 (done ++ line_of l ∷ [])
  one_step l read = record {
    reads = λ next.
        let one = λ (steps : List Line). next (done ++ steps) in
        reads_as (steps_then part w.number next) (steps_then part w2.number (λ steps. next (done ++ line_of l ∷ steps))) (steps_then part w2.number (λ steps. next ((done ++ line_of l ∷ []) ++ steps))) (tt {0}) a c w w2
        (λ i. steps_then part w2.number (λ steps. next (sym (append_assoc done (line_of l ∷ []) steps) i)))
        (then_reads (steps_then part w.number next) (λ (x : Unit {0}). steps_then part w1.number one) (λ (x : Unit {0}). steps_then part w2.number (λ steps. next (done ++ line_of l ∷ steps))) a b c w w1 w2 (tt {0}) (Ok (tt {0})) (before.reads next) (read one));
  }

  -- no step more
  pub last_step : {X : Type 0} (x : X) → ((next : List Line → reports.Reading reports.Report) → Reads (steps_then part w1.number next) (step_then part w2.number next) b c w1 w2 (Ok None))
      → (next : List Line → reports.Reading reports.Report) → Reads (steps_then part w.number next) (λ (x : X) ls. next done) a c w w2 (Ok x)
  last_step {X = X} x read next =
      let one = λ (steps : List Line). next (done ++ steps) in
      reads_as (steps_then part w.number next) (λ ls. next (done ++ [])) (λ ls. next done) x a c w w2 (λ i ls. next (append-nil done i))
      (then_reads (steps_then part w.number next) (λ (x : Unit {0}). steps_then part w1.number one) (λ (x : X) ls. next (done ++ [])) a b c w w1 w2 (tt {0}) (Ok x) (before.reads next) (read one))

  -- all others
  pub other_steps : {X Y : Type 0} (x : X) (y : Y) (rest : List Line) → ((next : List Line → reports.Reading reports.Report) → Reads (steps_then part w1.number next) (λ (y : Y) ls. next rest) b c w1 w2 (Ok y))
      → (next : List Line → reports.Reading reports.Report) → Reads (steps_then part w.number next) (λ (x : X) ls. next (done ++ rest)) a c w w2 (Ok x)
  other_steps {X = X} x y rest read next =
      let one = λ (steps : List Line). next (done ++ steps) in
      then_reads (steps_then part w.number next) (λ (x : Unit {0}). steps_then part w1.number one) (λ (x : X) ls. next (done ++ rest)) a b c w w1 w2 (tt {0}) (Ok x) (before.reads next) (read one)

-- ---- what loops know

-- values were read so far, and of these the first ones kept
pub record AreKeptSoFar (most : ℕ) (old new : Reading) (w w' : Ahead) (kept : List ℕ) : Type 0 where
  pub done : List ℕ
  pub read : HasValues old new w w' done
  pub first : kept ≡ take most done
  pub number : w'.number ≡ w.number + length done
  pub can : CanGive new w'

-- steps were read so far
pub record AreSkimmed (part : Section) (old new : Reading) (w w' : Ahead) : Type 0 where
  pub done : List Line
  pub read : HasSteps part old new w w' done
  pub can : CanGive new w'

-- ---- refusals

pub no_memory : {X Y : Type 0} (f : Parse) (g : X → Parse) (h : Y → Parse) (a b : Reading) (w w' : Ahead) (x : X) → Reads f g a b w w' (Ok x) → CanGive b w' → Reads f h a b w w' (Err (SourceFailed unread.OutOfMemory))
no_memory f g h a b w w' x (bytes, gives, answers) can = (bytes, gives, can.few)

module _ (a b c : Reading) (w w1 w2 : Ahead) (e : ReadStop) where
  pub values_stop : {A X : Type 0} (most : ℕ) (done : List ℕ) (g : (List ℕ → Parse) → X → Parse) (result : Result (Vec ℕ A) ReadStop) → IsErr result × IsErrAnd result (λ found. found ≡ e) → HasValues a b w w1 done
      → ((next : List ℕ → Parse) → Reads (values_then next) (g next) b c w1 w2 (Err e)) → ReadsValues most a c w w2 result
  values_stop most done g (Ok x) is before stop = absurd (let ended = is.0 in let bad : ⊥ = cc in bad)
  values_stop {A = A} {X = X} most done g (Err found) is before stop = subst (λ s. ReadsValues {A = A} most a c w w2 (Err s)) (sym is.1) ([], reads, (tt {0}))
    where
      reads : (next : List ℕ → Parse) → Reads (values_then next) (λ (kept : Vec ℕ A). next []) a c w w2 (Err e)
      reads next =
          let one = λ (values : List ℕ). next (done ++ values) in
          then_reads (values_then next) (λ (x : Unit {0}). values_then one) (λ (kept : Vec ℕ A). next []) a b c w w1 w2 (tt {0}) (Err e) (before.reads next)
          (refused_as (values_then one) (g one) (λ (kept : Vec ℕ A). next []) b c w1 w2 e (stop one))

  pub steps_stop : {X Y : Type 0} (part : Section) (says : List Line → Y → Type 0) (done : List Line) (g : (List Line → reports.Reading reports.Report) → X → Parse) (result : Result Y ReadStop) → IsErr result × IsErrAnd result (λ found. found ≡ e)
      → HasSteps part a b w w1 done → ((next : List Line → reports.Reading reports.Report) → Reads (steps_then part w1.number next) (g next) b c w1 w2 (Err e)) → ReadsSteps part says a c w w2 result
  steps_stop part says done g (Ok y) is before stop = absurd (let ended = is.0 in let bad : ⊥ = cc in bad)
  steps_stop {X = X} {Y = Y} part says done g (Err found) is before stop = subst (λ s. ReadsSteps part says a c w w2 (Err s)) (sym is.1) ([], reads, (tt {0}))
    where
      reads : (next : List Line → reports.Reading reports.Report) → Reads (steps_then part w.number next) (λ (y : Y) ls. next []) a c w w2 (Err e)
      reads next =
          let one = λ (steps : List Line). next (done ++ steps) in
          then_reads (steps_then part w.number next) (λ (x : Unit {0}). steps_then part w1.number one) (λ (y : Y) ls. next []) a b c w w1 w2 (tt {0}) (Err e) (before.reads next)
          (refused_as (steps_then part w1.number one) (g one) (λ (y : Y) ls. next []) b c w1 w2 e (stop one))

module _ (part : Section) (a b c : Reading) (w w1 w2 : Ahead) (done : List Line) (before : HasSteps part a b w w1 done) where
  -- the others are read to the end
  pub rest_read : {X Y : Type 0} (x : X) (y : Y) (says : List Line → X → Type 0) (of_steps : List Line → Y → Type 0) → ReadsSteps part of_steps b c w1 w2 (Ok y) → ((rest : List Line) → says (done ++ rest) x) → ReadsSteps part says a c w w2 (Ok x)
  rest_read x y says of_steps (rest, reads, is) turn = (done ++ rest, other_steps part a b c w w1 w2 done before x y rest reads, turn rest)

  -- or they are not
  pub rest_stop : {X Y : Type 0} (e : ReadStop) (says : List Line → X → Type 0) (of_steps : List Line → Y → Type 0) (result : Result X ReadStop) → IsErr result × IsErrAnd result (λ found. found ≡ e) → ReadsSteps part of_steps b c w1 w2 (Err e)
      → ReadsSteps part says a c w w2 result
  rest_stop {Y = Y} e says of_steps result is (rest, reads, said) = steps_stop a b c w w1 w2 e part says done (λ next (y : Y) ls. next rest) result is before reads
