-- From values and steps to a body, and to a report.
use Rattle.std.proofs.Common.{◌≡◌, ℕ, ◌+◌, List, [], length, take, Vec, Result, Ok, Err, IsErr, IsErrAnd, refl, sym, ap, ◌∙◌, subst}
use Rattle.std.proofs.lemmas.Result.{IfOk-weaker}
use Rattle.wf_model.specs.Refutation.{Line}
use Rattle.wf_model.specs.Report as reports
use Rattle.wf_model.specs.Report.{steps_from, then_read, values_at_front}
use Rattle.wf_base.specs.Streams.Seen.{Reading}
use Rattle.wf_base.specs.declared.streams.source.ReadFault.TheVariants as unread
use Rattle.wf_report.specs.Steps.{step_in}
use Rattle.wf_report.specs.declared.reading.Section.{Section}
use Rattle.wf_report.specs.declared.reading.Section.TheVariants.{Values, Refutation, Search}
use Rattle.wf_report.specs.declared.front.AnswerKind.TheVariants.{Map, Nothing, Least}
use Rattle.wf_report.specs.Parts.{ReadsBody, ReadsMap, ReadsSteps, ReadsValues, body_then, map_then, steps_then, values_then}
use Rattle.wf_report.specs.Reads.{Parse, Reads}
use Rattle.wf_report.specs.Windows.{Ahead, CanGive}
use Rattle.wf_report.specs.declared.halt.ReadStop.{ReadStop}
use Rattle.wf_report.specs.declared.halt.ReadStop.TheVariants.{SourceFailed}
use Rattle.wf_report.proofs.Chains.{gives_nothing, refused_as, then_reads}

-- ---- from parts to a body

then_twice : {X Y Z : Type 0} (r : reports.Reading X) (f : X → Y) (next : Y → reports.Reading Z) → then_read (then_read r (λ x. Ok (f x))) next ≡ then_read r (λ x. next (f x))
then_twice (Ok x) f next = refl
then_twice (Err e) f next = refl

-- what a body with values and steps is, by its answer
abbrev pub of_map : (reports.Body → reports.Reading reports.Report) → List ℕ → List Line → reports.Reading reports.Report
of_map next values steps = next (reports.a_map values)

abbrev pub of_least : (reports.Body → reports.Reading reports.Report) → List ℕ → List Line → reports.Reading reports.Report
of_least next values steps = next (reports.least values steps)

pub map_is : (next : reports.Body → reports.Reading reports.Report) → map_then Values (of_map next) 7 ≡ body_then next Map
map_is next = λ i ls. sym (then_twice (steps_from (step_in Values) (7 + length (values_at_front ls).0) (values_at_front ls).1) (λ (steps : List Line). reports.a_map (values_at_front ls).0) next) i

pub least_is : (next : reports.Body → reports.Reading reports.Report) → map_then Search (of_least next) 7 ≡ body_then next Least
least_is next = λ i ls. sym (then_twice (steps_from (step_in Search) (7 + length (values_at_front ls).0) (values_at_front ls).1) (λ steps. reports.least (values_at_front ls).0 steps) next) i

pub none_is : (next : reports.Body → reports.Reading reports.Report) → steps_then Refutation 7 (λ steps. next (reports.none steps)) ≡ body_then next Nothing
none_is next = λ i ls. sym (then_twice (steps_from (step_in Refutation) 7 ls) reports.none next) i

-- a part read from the same lines, written otherwise
pub reads_from : {X : Type 0} (f f' : Parse) (g : X → Parse) (a b : Reading) (w w' : Ahead) (result : Result X ReadStop) → f ≡ f' → Reads f g a b w w' result → Reads f' g a b w w' result
reads_from f f' g a b w w' result same read = subst (λ h. Reads h g a b w w' result) same read

-- values and then steps
pub map_reads : {X K : Type 0} (part : Section) (a b c : Reading) (w w1 w2 : Ahead) (values : List ℕ) (steps : List Line) (kept : K) (result : Result X ReadStop)
    → ((next : List ℕ → Parse) → Reads (values_then next) (λ (kept : K). next values) a b w w1 (Ok kept)) → w1.number ≡ w.number + length values
    → ((next : List Line → reports.Reading reports.Report) → Reads (steps_then part w1.number next) (λ (x : X) ls. next steps) b c w1 w2 result)
    → (next : List ℕ → List Line → reports.Reading reports.Report) → Reads (map_then part next w.number) (λ (x : X) ls. next values steps) a c w w2 result
map_reads {X = X} {K = K} part a b c w w1 w2 values steps kept result first numbers second next =
    let one = λ (values : List ℕ). steps_then part (w.number + length values) (next values) in
    then_reads (map_then part next w.number) (λ (kept : K). one values) (λ (x : X) ls. next values steps) a b c w w1 w2 kept result (first one)
    (reads_from (steps_then part w1.number (next values)) (one values) (λ (x : X) ls. next values steps) b c w1 w2 result (ap (λ k. steps_then part k (next values)) numbers) (second (next values)))

-- ---- values and steps

module _ {A X : Type 0} (part : Section) (most : ℕ) (says : List ℕ → List Line → X → Type 0) (a b c : Reading) (w w1 w2 : Ahead) where
  -- values, and what is found of the steps behind them
  pub map_parts : (of_steps : List Line → X → Type 0) (kept : Vec ℕ A) (result : Result X ReadStop) → ReadsValues most a b w w1 (Ok kept) → ReadsSteps part of_steps b c w1 w2 result
      → ((values : List ℕ) (steps : List Line) (x : X) → kept.items ≡ take most values → w1.number ≡ w.number + length values → of_steps steps x → says values steps x) → ReadsMap part says a c w w2 result
  map_parts of_steps kept result (values, first, (same, numbers)) (steps, second, is) turn =
      (values, steps, map_reads part a b c w w1 w2 values steps kept result first numbers second, IfOk-weaker result (of_steps steps) (says values steps) (λ x h. turn values steps x same numbers h) is)

  -- values, and any steps behind them
  pub map_done : {Y : Type 0} (of_steps : List Line → Y → Type 0) (kept : Vec ℕ A) (y : Y) (x : X) → ReadsValues most a b w w1 (Ok kept) → ReadsSteps part of_steps b c w1 w2 (Ok y)
      → ((values : List ℕ) (steps : List Line) → kept.items ≡ take most values → says values steps x) → ReadsMap part says a c w w2 (Ok x)
  map_done of_steps kept y x (values, first, (same, numbers)) (steps, second, is) turn =
      (values, steps, map_reads part a b c w w1 w2 values steps kept (Ok x) first numbers second, turn values steps same)

  -- steps that are not read to their end
  pub map_cut : {Y : Type 0} (of_steps : List Line → Y → Type 0) (kept : Vec ℕ A) (e : ReadStop) (result : Result X ReadStop) → IsErr result × IsErrAnd result (λ found. found ≡ e) → ReadsValues most a b w w1 (Ok kept)
      → ReadsSteps part of_steps b c w1 w2 (Err e) → ReadsMap part says a c w w2 result
  map_cut of_steps kept e (Ok x) is first second = absurd (let ended = is.0 in let bad : ⊥ = cc in bad)
  map_cut {Y = Y} of_steps kept e (Err found) is (values, first, (same, numbers)) (steps, second, said) =
      subst (λ s. ReadsMap part says a c w w2 (Err s)) (sym is.1) (
        values,
        steps,
        map_reads {X = X} part a b c w w1 w2 values steps kept (Err e) first numbers
            (λ n. refused_as (steps_then part w1.number n) (λ (y : Y) ls. n steps) (λ (x : X) ls. n steps) b c w1 w2 e (second n)),
        tt,
      )

-- values that are not read to their end
pub map_unread : {A X : Type 0} (given : Result (Vec ℕ A) ReadStop) (part : Section) (most : ℕ) (says : List ℕ → List Line → X → Type 0) (a b : Reading) (w w1 : Ahead) (e : ReadStop) (result : Result X ReadStop) → IsErr result × IsErrAnd result (λ found. found ≡ e)
    → ReadsValues {A = A} most a b w w1 (Err e) → ReadsMap part says a b w w1 result
map_unread given part most says a b w w1 e (Ok x) is first = absurd (let ended = is.0 in let bad : ⊥ = cc in bad)
map_unread {A = A} {X = X} given part most says a b w w1 e (Err found) is (values, first, none) =
    subst (λ s. ReadsMap part says a b w w1 (Err s)) (sym is.1) (
      [],
      [],
      (λ next.
          let one = λ (values : List ℕ). steps_then part (w.number + length values) (next values) in
          refused_as (map_then part next w.number) (λ (kept : Vec ℕ A). one values) (λ (x : X) ls. next [] []) a b w w1 e (first one)),
      tt,
    )

-- what is found of the steps, by more
pub steps_weaker : {X : Type 0} (part : Section) (says says' : List Line → X → Type 0) (a b : Reading) (w w' : Ahead) (result : Result X ReadStop) → ReadsSteps part says a b w w' result
    → ((steps : List Line) (x : X) → says steps x → says' steps x) → ReadsSteps part says' a b w w' result
steps_weaker part says says' a b w w' result (steps, reads, is) turn = (steps, reads, IfOk-weaker result (says steps) (says' steps) (turn steps) is)

-- no memory was left before any step was read
pub steps_unread : {X : Type 0} (part : Section) (says : List Line → X → Type 0) (s : Reading) (w : Ahead) (result : Result X ReadStop) → CanGive s w → IsErr result × IsErrAnd result (λ found. found ≡ SourceFailed unread.OutOfMemory)
    → ReadsSteps part says s s w w result
steps_unread part says s w (Ok x) can is = absurd (let ended = is.0 in let bad : ⊥ = cc in bad)
steps_unread part says s w (Err found) can is =
    subst (λ e. ReadsSteps part says s s w w (Err e)) (sym is.1) ([], (λ next. ([], gives_nothing s w w refl refl refl, can.few)), tt)

-- ---- bodies

module _ {X : Type 0} (a b : Reading) (w w' : Ahead) (result : Result X ReadStop) (says : reports.Body → X → Type 0) (number : w.number ≡ 7) where
  pub none_reads : (of_steps : List Line → X → Type 0) → ReadsSteps Refutation of_steps a b w w' result → ((steps : List Line) (x : X) → of_steps steps x → says (reports.none steps) x) → ReadsBody Nothing says a b w w' result
  none_reads of_steps (steps, reads, is) turn = (
    reports.none steps,
    (λ next.
        let none = λ (steps : List Line). next (reports.none steps) in
        reads_from (steps_then Refutation w.number none) (body_then next Nothing) (λ (x : X) ls. next (reports.none steps)) a b w w' result
        (ap (λ k. steps_then Refutation k none) number ∙ none_is next) (reads none)),
    IfOk-weaker result (of_steps steps) (says (reports.none steps)) (turn steps) is,
  )

  pub values_read : (of_map' : List ℕ → List Line → X → Type 0) → ReadsMap Values of_map' a b w w' result → ((values : List ℕ) (steps : List Line) (x : X) → of_map' values steps x → says (reports.a_map values) x) → ReadsBody Map says a b w w' result
  values_read of_map' (values, steps, reads, is) turn = (
    reports.a_map values,
    (λ next.
        reads_from (map_then Values (of_map next) w.number) (body_then next Map) (λ (x : X) ls. next (reports.a_map values)) a b w w' result
        (ap (map_then Values (of_map next)) number ∙ map_is next) (reads (of_map next))),
    IfOk-weaker result (of_map' values steps) (says (reports.a_map values)) (turn values steps) is,
  )

  pub search_read : (of_search : List ℕ → List Line → X → Type 0) → ReadsMap Search of_search a b w w' result → ((values : List ℕ) (steps : List Line) (x : X) → of_search values steps x → says (reports.least values steps) x) → ReadsBody Least says a b w w' result
  search_read of_search (values, steps, reads, is) turn = (
    reports.least values steps,
    (λ next.
        reads_from (map_then Search (of_least next) w.number) (body_then next Least) (λ (x : X) ls. next (reports.least values steps)) a b w w' result
        (ap (map_then Search (of_least next)) number ∙ least_is next) (reads (of_least next))),
    IfOk-weaker result (of_search values steps) (says (reports.least values steps)) (turn values steps) is,
  )
