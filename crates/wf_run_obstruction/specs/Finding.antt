-- A run that looks for an obstruction of the task of a source, and writes what is found.
use Rattle.std.specs.Prelude.{◌≡◌, ◌==◌, ◌++◌, nat_lt, ℕ, Bool, true, false, List, [], ◌∷◌, Option, None, Some, Result, Ok, Err, codes, decimal}
use Rattle.std.specs.List.{list_all}
use Rattle.wf_model.specs.Lists.{has}
use Rattle.wf_model.specs.Task.{Task, first_block}
use Rattle.wf_base.specs.Streams.Seen.{Reading, Writing}
use Rattle.wf_tree_model.specs.Trees.{Node, balance_node, cover_node}
use Rattle.wf_tree_text.specs.Text.{Obstruction, obstruction_of}
use Rattle.wf_run.specs.Run.{Hands, IsTaskOf, Next, Reads}
use Rattle.wf_run_verify.specs.Obstructions.{IsSound}
use Rattle.wf_run.specs.declared.obstruction.ObstructionFault.TheVariants.{FirstBlock}
use Rattle.wf_run.specs.declared.fault.RunFault.{RunFault}
use Rattle.wf_run.specs.declared.fault.RunFault.TheVariants as run
use Rattle.wf_run_obstruction.specs.declared.finding.Finding.{Finding}
use Rattle.wf_run_obstruction.specs.declared.finding.Finding.TheVariants.{Found, NotFound, GaveUp}
use Rattle.wf_run_obstruction.specs.declared.finding.GaveUp as gave_up
use Rattle.wf_run_obstruction.specs.declared.finding.SearchLimit.{SearchLimit}
use Rattle.wf_run_obstruction.specs.declared.finding.SearchLimit.TheVariants as limit
use Rattle.wf_run_obstruction.specs.declared.finding.Tried.{Tried}
use Rattle.wf_run_obstruction.specs.declared.finding.Tried.TheVariants as tried
use Rattle.wf_run_obstruction.specs.declared.search.ObstructionSpec.{ObstructionSpec}

-- ---- the answer

-- the moduli that are tried in turn, if none is wanted
abbrev pub moduli : List ℕ
moduli = 2 ∷ 3 ∷ 4 ∷ 5 ∷ 7 ∷ 8 ∷ 9 ∷ 2147483647 ∷ []

-- the modulus is the one that is wanted, or one of these
abbrev pub is_tried : Option ℕ → ℕ → Bool
is_tried (Some only) modulus = modulus == only
is_tried None modulus = has moduli modulus

-- the same of the modulus of a balance; and covers are tried only if some are wanted
abbrev pub is_tried_at : ObstructionSpec → Node → Bool
is_tried_at wanted (balance_node modulus sum xs) = is_tried wanted.modulus modulus
is_tried_at wanted (cover_node simplex sheets corner moves) = nat_lt 0 wanted.covers
is_tried_at wanted node = true

-- what was tried is what is wanted
abbrev pub IsOf : ObstructionSpec → Tried → Type 0
IsOf wanted (tried.Only modulus covers) = (wanted.modulus ≡ Some modulus) × (covers ≡ nat_lt 0 wanted.covers)
IsOf wanted (tried.Each covers) = (wanted.modulus ≡ None) × (covers ≡ nat_lt 0 wanted.covers)
IsOf wanted tried.AllNumbers = (wanted.modulus ≡ None) × (wanted.covers ≡ 0)

-- A text that is written: it is read as an obstruction of the task, which `verify` accepts. So no
-- function on the views is a decision map, after any number of rounds.
pub record IsWritten (wanted : ObstructionSpec) (t : Task) (text : List ℕ) : Type 0 where
  pub obstruction : Obstruction
  pub read : obstruction_of text ≡ Ok obstruction
  pub tried : list_all (is_tried_at wanted) obstruction.nodes ≡ true
  pub sound : IsSound t obstruction

-- an obstruction is the answer if one was found, and otherwise the empty text is
abbrev pub IsTextOf : ObstructionSpec → Task → Finding → List ℕ → Type 0
IsTextOf wanted t Found text = IsWritten wanted t text
IsTextOf wanted t (NotFound tried) text = IsOf wanted tried × (text ≡ [])
IsTextOf wanted t (GaveUp at) text = text ≡ []

abbrev pub IsAnswer : ObstructionSpec → Task → Result (Finding × List ℕ) RunFault → Type 0
IsAnswer wanted t (Ok answer) = IsTextOf wanted t answer.0 answer.1
IsAnswer wanted t (Err run.OutOfMemory) = Unit {0}
IsAnswer wanted t (Err e) = ⊥

-- a task with a first block is refused
abbrev pub Answers : ObstructionSpec → Task → Result (Finding × List ℕ) RunFault → Type 0
Answers wanted t (Ok answer) = (first_block t ≡ 1) × IsTextOf wanted t answer.0 answer.1
Answers wanted t (Err (run.Obstruction FirstBlock)) = first_block t ≡ 1 → ⊥
Answers wanted t (Err run.OutOfMemory) = Unit {0}
Answers wanted t (Err e) = ⊥

-- ---- the run

abbrev pub SeeksIn : ObstructionSpec → Reading → Reading → Result (Finding × List ℕ) RunFault → Type 0
SeeksIn wanted source source' result =
    (t : Result Task RunFault) × Reads IsTaskOf source source' t × Next (Answers wanted) t result

-- what was found was written; if the search gave up, the sink is as it was
abbrev pub HandsFinding : Writing → Writing → Result (Finding × List ℕ) RunFault → Result Finding RunFault → Type 0
HandsFinding old new (Ok (GaveUp at, text)) result = (result ≡ Ok (GaveUp at)) × (new ≡ old)
HandsFinding old new answer result = Hands old new answer result

-- an obstruction of the source's task was looked for, and what was found was written
abbrev pub FindsObstruction : ObstructionSpec → Reading → Reading → Writing → Writing → Result Finding RunFault → Type 0
FindsObstruction wanted source source' sink sink' result =
    (answer : Result (Finding × List ℕ) RunFault) × SeeksIn wanted source source' answer × HandsFinding sink sink' answer result

-- ---- what is told

-- the nodes that were tried
abbrev pub steps_text : Bool → List ℕ
steps_text true = codes "covers, splits, cases and balances"
steps_text false = codes "splits, cases and balances"

-- what was tried without an obstruction
abbrev pub tried_text : Tried → List ℕ
tried_text (tried.Only modulus covers) = codes "no obstruction by " ++ (steps_text covers ++ (codes " modulo " ++ decimal modulus))
tried_text (tried.Each covers) = codes "no obstruction by " ++ (steps_text covers ++ codes " modulo 2, 3, 4, 5, 7, 8, 9, 2147483647")
tried_text tried.AllNumbers = codes "no obstruction by splits, cases and balances of any modulus"

abbrev pub limit_text : SearchLimit → List ℕ
limit_text (limit.Unknowns count) = decimal count ++ codes " unknowns"
limit_text (limit.Equations count) = decimal count ++ codes " equations"
limit_text (limit.Entries count) = decimal count ++ codes " entries"
limit_text (limit.Steps count) = decimal count ++ codes " steps"
limit_text (limit.Nodes count) = decimal count ++ codes " nodes"
limit_text (limit.Levels count) = decimal count ++ codes " levels"
limit_text (limit.Covers count) = decimal count ++ codes " covers"
limit_text limit.Length = codes "a longer text than verify reads"
limit_text limit.Internal = codes "an internal error"

abbrev pub modulus_text : Option ℕ → List ℕ
modulus_text None = []
modulus_text (Some modulus) = codes " modulo " ++ decimal modulus

-- the text of a search that gave up: at which modulus, if it was in a system, and at which limit
abbrev pub gave_up_text : gave_up.GaveUp → List ℕ
gave_up_text at = codes "60 GaveUp" ++ (modulus_text at.modulus ++ (codes ": " ++ limit_text at.limit))
