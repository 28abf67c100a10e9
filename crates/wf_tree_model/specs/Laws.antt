-- Why a task with an obstruction has no decision map, for every number of rounds.
use Rattle.std.specs.Prelude.{◌≡◌, ◌≤◌, ℕ, true, false, List, Contains, length}
use Rattle.wf_model.specs.Limits.{most_processes}
use Rattle.wf_model.specs.Simplex.{Simplex, is_simplex}
use Rattle.wf_model.specs.Word.{Word}
use Rattle.wf_model.specs.Task.{IsTask, Rule, Task, Tuple, first_block}
use Rattle.wf_model.specs.DecisionMap.{HasNoDecisionMap}
use Rattle.wf_tree_model.specs.Balance.{IsBalance, Multiplier}
use Rattle.wf_tree_model.specs.Cases.{components, in_case}
use Rattle.wf_tree_model.specs.Covers.{Covering, IsCovering, covered}
use Rattle.wf_tree_model.specs.Splits.{IsSplitting, Splitting, split}
use Rattle.wf_tree_model.specs.Stars.{AgreeAt, DifferAtOne, runs}
use Rattle.wf_tree_model.specs.Trees.{IsObstruction, Tree}

-- What is the same in executions that agree at some places and differ at one is the same in all
-- that agree at these places. So a chain of executions with the same views there joins them, and
-- with no places it joins all.
abbrev pub StarsAreConnected : Type 0
StarsAreConnected = (s : Simplex) (r : ℕ) (places : List ℕ) (f : List Word → ℕ)
    → is_simplex s ≡ true → length s ≤ most_processes
    → ((us ws : List Word) → Contains (runs s r) us → Contains (runs s r) ws → AgreeAt s places us ws → DifferAtOne s us ws → f us ≡ f ws)
    → (us ws : List Word) → Contains (runs s r) us → Contains (runs s r) ws → AgreeAt s places us ws → f us ≡ f ws

-- a task with a balance has no decision map
abbrev pub BalancesLeaveNoMap : Type 0
BalancesLeaveNoMap = (t : Task) (modulus sum : ℕ) (xs : List Multiplier) (r : ℕ)
    → IsTask t → first_block t ≡ 1 → IsBalance t modulus sum xs
    → HasNoDecisionMap t r

-- where the task has no decision map in any case of a simplex, it has none
abbrev pub CasesLeaveNoMap : Type 0
CasesLeaveNoMap = (t : Task) (of : Rule) (r : ℕ)
    → IsTask t → first_block t ≡ 1 → Contains t.delta of
    → ((part : List Tuple) → Contains (components of) part → HasNoDecisionMap (in_case of part t) r)
    → HasNoDecisionMap t r

-- where the task with names in place of values has no decision map, the task has none
abbrev pub SplitsLeaveNoMap : Type 0
SplitsLeaveNoMap = (t : Task) (s : Splitting) (r : ℕ)
    → IsTask t → first_block t ≡ 1 → t.symmetric ≡ false → IsSplitting t s
    → HasNoDecisionMap (split s t) r
    → HasNoDecisionMap t r

-- where the task with values on sheets has no decision map, the task has none
abbrev pub CoversLeaveNoMap : Type 0
CoversLeaveNoMap = (t : Task) (c : Covering) (r : ℕ)
    → IsTask t → first_block t ≡ 1 → t.symmetric ≡ false → IsCovering t c
    → HasNoDecisionMap (covered c t) r
    → HasNoDecisionMap t r

-- a task with an obstruction has no decision map after any number of rounds
abbrev pub AnObstructionLeavesNoMap : Type 0
AnObstructionLeavesNoMap = (t : Task) (tree : Tree)
    → IsTask t → IsObstruction t tree
    → (r : ℕ) → HasNoDecisionMap t r
