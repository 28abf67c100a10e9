-- A run over two sources, a task and a certificate about it, that tells in words what the
-- certificate says. A certificate is an obstruction if its first line says so, and is a report
-- otherwise.
use Rattle.std.specs.Prelude.{◌≡◌, ◌⊎◌, ℕ, true, false, List, Result, Ok, Err}
use Rattle.wf_model.specs.Limits.{most_bytes}
use Rattle.wf_model.specs.Task.{Task}
use Rattle.wf_model.specs.Report.{Body, Report, a_map, none, least}
use Rattle.wf_model.specs.PointsText.{points_text}
use Rattle.wf_model.specs.DecisionMap.{HasNoDecisionMap}
use Rattle.wf_base.specs.Streams.Seen.{Reading, Writing}
use Rattle.wf_base.specs.Streams.Texts.{Wrote}
use Rattle.wf_report_check.specs.Truth.{HoldsOf}
use Rattle.wf_report_explain.specs.Argument.Text.{argument_text}
use Rattle.wf_tree_text.specs.Text.{Obstruction, begins_as_obstruction}
use Rattle.wf_tree_explain.specs.Words as obstruction
use Rattle.wf_run.specs.Run.{Next, Ran, Reads}
use Rattle.wf_run.specs.Sources.{AsksPair, NextReads}
use Rattle.wf_run_verify.specs.Verify.{IsReportOf, IsVerified}
use Rattle.wf_run_verify.specs.Obstructions.{IsObstructionOf, IsRefusalOf, IsSound}
use Rattle.wf_run.specs.Given.{GaveTask}
use Rattle.wf_run_verify.specs.Headline.{GaveTruth}
use Rattle.wf_run.specs.Laws.{IsChecked}
use Rattle.wf_run.specs.declared.fault.RunFault.{RunFault}
use Rattle.wf_run_report.specs.Trimming.{AreMade, IsShorter}

-- an answer in words: the points, each with the value of the map, or the
-- argument that there is none
abbrev pub body_explained : Task → ℕ → Body → List ℕ
body_explained t r (a_map m) = points_text t r m
body_explained t r (none ls) = argument_text t r ls
body_explained t r (least m ls) = points_text t r m

-- the report with the lines that are needed, in words
abbrev pub AreExplained : Task → Report → Unit {0} → List ℕ → Type 0
AreExplained = AreMade (λ t r. body_explained t r.rounds r.body)

-- ---- what is told of a text

-- the text is read as a report, which is checked and told
abbrev pub ExplainsReport : Task → List ℕ → Result (Unit {0} × List ℕ) RunFault → Type 0
ExplainsReport t text result = (r : Result Report RunFault) × IsReportOf most_bytes text r × Next (IsVerified AreExplained t) r result

-- an obstruction that is accepted is told; or it is refused
abbrev pub TellsObstruction : Task → Obstruction → Result (Unit {0} × List ℕ) RunFault → Type 0
TellsObstruction t o (Ok answer) = IsSound t o × (answer.1 ≡ obstruction.argument_text t o.nodes)
TellsObstruction t o (Err e) = IsRefusalOf t o e

-- the text is read as an obstruction, which is judged and told
abbrev pub ExplainsObstruction : Task → List ℕ → Result (Unit {0} × List ℕ) RunFault → Type 0
ExplainsObstruction t text result = (o : Result Obstruction RunFault) × IsObstructionOf text o × Next (TellsObstruction t) o result

-- the first line says what the text is told as
abbrev pub ExplainsText : Task → List ℕ → Result (Unit {0} × List ℕ) RunFault → Type 0
ExplainsText t text result =
    ((begins_as_obstruction text ≡ true) × ExplainsObstruction t text result)
    ⊎ ((begins_as_obstruction text ≡ false) × ExplainsReport t text result)

-- ---- a whole run

-- the certificate is read where there is a task, and is else left alone
abbrev pub ExplainsFor : Reading → Reading → Result Task RunFault → Result (Unit {0} × List ℕ) RunFault → Type 0
ExplainsFor source source' t result = NextReads (λ t. Reads (ExplainsText t)) source source' t result

abbrev pub ExplainsBoth : Reading → Reading → Reading → Reading → Result (Unit {0} × List ℕ) RunFault → Type 0
ExplainsBoth task task' source source' result = AsksPair (λ t. Reads (ExplainsText t)) task task' source source' result

-- The certificate of a source was checked against the task of another one, and it was explained.
abbrev pub Explains : Reading → Reading → Reading → Reading → Writing → Writing → Result (Unit {0}) RunFault → Type 0
Explains task task' source source' sink sink' result = Ran (ExplainsBoth task task' source source') sink sink' result

-- ---- laws

-- The run was given a report that is true, and the sink took the words for the same answer with
-- some of the lines, which is true as well: where it is that there is no map, no function on the
-- views is a decision map.
abbrev pub ToldReport : Reading → Reading → Reading → Reading → Writing → Writing → Type 0
ToldReport task task' reports reports' sink sink' =
    (t : Task) × (r : ℕ) × (body shorter : Body) × GaveTruth task task' reports reports' t r body
    × IsShorter body shorter × HoldsOf t r shorter × Wrote sink sink' (body_explained t r shorter)

-- The source of the task gave its bytes. After every number of rounds no function on the views is a
-- decision map. The sink took the words for an obstruction of the task.
abbrev pub ToldObstruction : Reading → Reading → Writing → Writing → Type 0
ToldObstruction task task' sink sink' =
    (t : Task) × (o : Obstruction) × GaveTask task task' t × ((r : ℕ) → HasNoDecisionMap t r)
    × Wrote sink sink' (obstruction.argument_text t o.nodes)

-- an explanation that ends well told one or the other
abbrev pub ExplanationsAreTrue : Type 0
ExplanationsAreTrue =
    (task task' source source' : Reading) (sink sink' : Writing)
    → Explains task task' source source' sink sink' (Ok tt)
    → ToldReport task task' source source' sink sink' ⊎ ToldObstruction task task' sink sink'

abbrev pub ExplainingIsCounted : Type 0
ExplainingIsCounted =
    (task task' source source' : Reading) (sink sink' : Writing) (result : Result (Unit {0}) RunFault)
    → Explains task task' source source' sink sink' result → IsChecked most_bytes task task' source source' sink sink' result
