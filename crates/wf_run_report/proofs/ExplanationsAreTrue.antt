-- What an explanation writes is true.
use Rattle.std.proofs.Common.{◌≡◌, ◌⊎◌, ℕ, List, inl, inr, None, Result, Ok, Err, refl, sym, subst}
use Rattle.wf_model.specs.Limits.{most_bytes}
use Rattle.wf_model.specs.Task.{Task}
use Rattle.wf_base.specs.Streams.Seen.{Reading, Writing}
use Rattle.wf_base.specs.Streams.Texts.{Gave, ReadsText, Wrote}
use Rattle.wf_base.specs.declared.streams.source.ReadFault.{ReadFault}
use Rattle.wf_report_check.specs.Truth.{HoldsOf}
use Rattle.wf_tree_text.specs.Text.{Obstruction}
use Rattle.wf_run.specs.declared.fault.RunFault.{RunFault}
use Rattle.wf_run.specs.Run.{Hands, IsTaskOf, Judged, Next, Reads}
use Rattle.wf_run.specs.Texts.{text_of_report}
use Rattle.wf_run_verify.specs.Verify.{Checks}
use Rattle.wf_run.specs.Given.{GaveTask}
use Rattle.wf_run.proofs.Lemmas.{task_read}
use Rattle.wf_run_report.specs.Explaining.{AreExplained, ExplainsBoth, ExplainsFor, ExplainsText, ExplanationsAreTrue, TellsObstruction, ToldObstruction, ToldReport, body_explained}
use Rattle.wf_run_report.proofs.TrimmedIsTrue.{same_rounds, text_about, told}

module _ (task task' source source' : Reading) (sink sink' : Writing) where
  -- ---- which of the two it is

  -- a report was checked and told, or an obstruction was told
  abbrev IsEither : List ℕ → Type 0
  IsEither text = Checks None AreExplained task task' source source' (Ok (tt, text)) ⊎ ToldObstruction task task' sink sink'

  of_obstruction : (text : List ℕ) (t : Task) (o : Result Obstruction RunFault) → GaveTask task task' t → Next (TellsObstruction t) o (Ok (tt, text)) → Wrote sink sink' text → ToldObstruction task task' sink sink'
  of_obstruction text t (Ok o) gave next wrote = (t, o, gave, next.0.no_map, subst (λ x. Wrote sink sink' x) next.1 wrote)
  of_obstruction text t (Err e) gave next wrote = absurd (let bad : ⊥ = cc in bad)

  of_text : (text : List ℕ) (t : Task) (given : List ℕ) → Reads IsTaskOf task task' (Ok t) → ReadsText most_bytes source source' (Ok given) → ExplainsText t given (Ok (tt, text)) → Wrote sink sink' text → IsEither text
  of_text text t given (read, reads, judged) came (inl (begins, (o, is, next))) wrote = inr (of_obstruction text t o (task_read task task' read t reads judged) next wrote)
  of_text text t given reads came (inr (begins, (r, is, next))) wrote = inl (Ok t, reads, (r, (Ok given, came, is), next))

  of_source : (text : List ℕ) (t : Task) (given : Result (List ℕ) ReadFault) → Reads IsTaskOf task task' (Ok t) → ReadsText most_bytes source source' given → Judged (ExplainsText t) given (Ok (tt, text)) → Wrote sink sink' text → IsEither text
  of_source text t (Ok given) reads came judged wrote = of_text text t given reads came judged wrote
  of_source text t (Err e) reads came judged wrote = absurd (let bad : ⊥ = cc in bad)

  of_task : (text : List ℕ) (t : Result Task RunFault) → Reads IsTaskOf task task' t → ExplainsFor source source' t (Ok (tt, text)) → Wrote sink sink' text → IsEither text
  of_task text (Ok t) reads (given, came, judged) wrote = of_source text t given reads came judged wrote
  of_task text (Err e) reads checks wrote = absurd (let bad : ⊥ = cc in bad)

  -- ---- a report

  told_report : (text : List ℕ) → Checks None AreExplained task task' source source' (Ok (tt, text)) → Wrote sink sink' text → ToldReport task task' source source' sink sink'
  told_report text checks wrote =
      let x = told (λ t r. body_explained t r.rounds r.body) task task' source source' sink sink' (Ok (tt, text)) checks (refl, wrote) in
      let given : Gave source source' (text_of_report x.t x.r.rounds x.r.body) 0 = subst (λ y. Gave source source' y 0) (text_about x.t x.r x.faultless) x.read in
      let same : x.shorter.rounds ≡ x.r.rounds = same_rounds x.t x.r x.shorter x.few x.grammar x.shortened in (
        x.t,
        x.r.rounds,
        x.r.body,
        x.shorter.body,
        record { task_given = x.given; report_given = given; holds = x.faultless.holds },
        x.shortened.shorter,
        subst (λ n. HoldsOf x.t n x.shorter.body) same x.shortened.faultless.holds,
        subst (λ n. Wrote sink sink' (body_explained x.t n x.shorter.body)) same x.wrote,
      )

  either_told : (text : List ℕ) → IsEither text → Wrote sink sink' text → ToldReport task task' source source' sink sink' ⊎ ToldObstruction task task' sink sink'
  either_told text (inl checks) wrote = inl (told_report text checks wrote)
  either_told text (inr done) wrote = inr done

  of_answer : (answer : Result (Unit {0} × List ℕ) RunFault) → ExplainsBoth task task' source source' answer → Hands sink sink' answer (Ok tt) → ToldReport task task' source source' sink sink' ⊎ ToldObstruction task task' sink sink'
  of_answer (Ok (x, text)) (t, reads, checks) (same, wrote) =
      either_told text (of_task text t reads (subst (λ z. ExplainsFor source source' t (Ok (z, text))) (sym same) checks) wrote) wrote
  of_answer (Err e) checks hands = absurd (let bad : ⊥ = cc in bad)

pub explained_true : ExplanationsAreTrue
explained_true task task' source source' sink sink' (answer, checks, hands) = of_answer task task' source source' sink sink' answer checks hands
