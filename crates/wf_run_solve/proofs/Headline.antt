-- What a search answers is true.
use Rattle.std.proofs.Common.{ℕ, List, Result, Ok, Err, sym, subst}
use Rattle.wf_model.specs.Task.{Task}
use Rattle.wf_base.specs.Streams.Seen.{Reading, Writing}
use Rattle.wf_base.specs.Streams.Texts.{Wrote}
use Rattle.wf_base.specs.declared.lines.form.Form.{Form}
use Rattle.wf_run_solve.specs.declared.outcome.Outcome.{Outcome}
use Rattle.wf_run_solve.specs.declared.outcome.Outcome.TheVariants as outcome
use Rattle.wf_run.specs.declared.fault.RunFault.{RunFault}
use Rattle.wf_run.specs.Run.{Answers, Asks, Hands, IsTaskOf, Next, Reads}
use Rattle.wf_run_solve.specs.Texts.{IsFound}
use Rattle.wf_run_solve.specs.Headline.{AnswersAreTrue, Says}
use Rattle.wf_run.specs.Given.{GaveTask}
use Rattle.wf_run.proofs.Lemmas.{task_read}

says : (form : Form) (t : Task) (r : ℕ) (found : Outcome) (text : List ℕ) → IsFound form t r found text → Says form t r found text
says form t r outcome.Map text (m, ls, least, leads, is) = (m, least, (ls, is))
says form t r outcome.Nothing text (ls, refutation, is) = (refutation.no_map, (ls, is))

module _ (rounds : ℕ) (form : Form) (source source' : Reading) (sink sink' : Writing) where
  abbrev Right : Outcome → Type 0
  Right found = (t : Task) × (text : List ℕ) × GaveTask source source' t × Says form t rounds found text × Wrote sink sink' text

  of_task : (found : Outcome) (text : List ℕ) (task : Result Task RunFault) → Reads IsTaskOf source source' task
      → Next (λ t. Answers (IsFound form) t rounds) task (Ok (found, text)) → Wrote sink sink' text → Right found
  of_task found text (Ok t) (read, reads, judged) next wrote = (t, text, task_read source source' read t reads judged, says form t rounds found text next.1, wrote)
  of_task found text (Err e) reads next wrote = absurd (let bad : ⊥ = cc in bad)

  of_answer : (found : Outcome) (answer : Result (Outcome × List ℕ) RunFault)
      → Asks (IsFound form) rounds source source' answer → Hands sink sink' answer (Ok found) → Right found
  of_answer found (Ok (x, text)) (task, reads, next) (same, wrote) =
      of_task found text task reads (subst (λ y. Next (λ t. Answers (IsFound form) t rounds) task (Ok (y, text))) (sym same) next) wrote
  of_answer found (Err e) asks hands = absurd (let bad : ⊥ = cc in bad)

pub answers_true : AnswersAreTrue
answers_true rounds form source source' sink sink' found (answer, asks, hands) = of_answer rounds form source source' sink sink' found answer asks hands
