-- The reports that have a text in the grammar.
use Rattle.std.specs.Prelude.{◌≡◌, ◌≤◌, ℕ, List}
use Rattle.std.specs.List.{AllByRecursion}
use Rattle.wf_model.specs.Refutation.{Line, remove, empty, branch, found}
use Rattle.wf_model.specs.Limits.{most_number, most_value}
use Rattle.wf_model.specs.Report.{Body, Report, a_map, none, least, report_text}

-- the last process
abbrev pub last_process : ℕ
last_process = 3

abbrev pub IsLineWithin : Line → Type 0
IsLineWithin (remove e c a) = (e ≤ most_number) × (c ≤ last_process) × (a ≤ most_value)
IsLineWithin (empty v) = v ≤ most_number
IsLineWithin (branch v) = v ≤ most_number
IsLineWithin found = ⊥

-- the same in a least report, where the end of the search is a line too
abbrev pub IsStepWithin : Line → Type 0
IsStepWithin found = Unit {0}
IsStepWithin (remove e c a) = IsLineWithin (remove e c a)
IsStepWithin (empty v) = IsLineWithin (empty v)
IsStepWithin (branch v) = IsLineWithin (branch v)

abbrev pub IsBodyWithin : Body → Type 0
IsBodyWithin (a_map m) = AllByRecursion (λ a. a ≤ most_value) m
IsBodyWithin (none ls) = AllByRecursion IsLineWithin ls
IsBodyWithin (least m ls) = AllByRecursion (λ a. a ≤ most_value) m × AllByRecursion IsStepWithin ls

-- each number is one that a line may hold
pub record IsInGrammar (r : Report) : Type 0 where
  pub processes : r.processes ≤ most_number
  pub rounds : r.rounds ≤ most_number
  pub points : r.points ≤ most_number
  pub executions : r.executions ≤ most_number
  pub body : IsBodyWithin r.body

-- the text of this report, which is in the grammar
abbrev pub IsTextOf : Report → List ℕ → Type 0
IsTextOf r text = (text ≡ report_text r) × IsInGrammar r
