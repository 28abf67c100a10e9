-- Which executions and points lines speak of, as marks; and the title.
use Rattle.std.specs.Prelude.{◌≡◌, ◌<◌, ℕ, suc, ◌-◌, ◌==◌, ◌||◌, ◌++◌, Bool, true, false, List, [], ◌∷◌, map, filter, flat_map, length, codes, decimal, if◌then◌else◌}
use Rattle.std.specs.List.{enumerate_from, range_with_len, slice_index_or}
use Rattle.wf_model.specs.Limits.{most_processes}
use Rattle.wf_model.specs.Lists.{has}
use Rattle.wf_model.specs.Problem.{Participant}
use Rattle.wf_model.specs.Refutation.{Line, remove, empty, branch, found}
use Rattle.wf_model.specs.View.{View}
use Rattle.wf_report_explain.specs.Words.Text.{counted}
use Rattle.wf_report_explain.specs.declared.words.summary.SizeCount.{SizeCount}
use Rattle.wf_report_explain.specs.Argument.Text.{count_of_size, is_some_count, point_text}
use Rattle.wf_report_explain.specs.declared.argument.summary.UsedExecutions.{UsedExecutions}

-- the numbers that pass are marked too
pub record AreMarked (old new : List Bool) (test : ℕ → Bool) : Type 0 where
  pub long : length new ≡ length old
  pub each : (k : ℕ) → k < length old → slice_index_or new k false ≡ (slice_index_or old k false || test k)

-- of so many numbers those that pass are marked
pub record MarksEach (count : ℕ) (marks : List Bool) (test : ℕ → Bool) : Type 0 where
  pub long : length marks ≡ count
  pub each : (k : ℕ) → k < count → slice_index_or marks k false ≡ test k

-- the points of an execution
abbrev pub points_at : List (List Participant) → ℕ → List ℕ
points_at scopes e = map (λ at. at.1) (slice_index_or scopes e [])

-- whether a line speaks of a point, by the participants of each execution
abbrev pub is_named : List (List Participant) → ℕ → Line → Bool
is_named scopes v (remove e c a) = has (points_at scopes e) v
is_named scopes v (empty w) = v == w
is_named scopes v (branch w) = v == w
is_named scopes v found = false

-- the points that are marked, from the one of this number on
abbrev pub marked_text : Bool → List Bool → ℕ → List View → List ℕ
marked_text ranks marks n views = flat_map (point_text ranks) (filter (λ at. slice_index_or marks at.0 false) (enumerate_from n views))

abbrev pub told_if : Bool → List ℕ → List ℕ
told_if true text = text
told_if false text = []

-- ---- the title

abbrev pub usage_of : ℕ → ℕ → List ℕ
usage_of used executions = codes " over " ++ (decimal used ++ (codes " of " ++ (counted executions (codes "execution") ++ codes ".\n\n")))

abbrev pub title_of : ℕ → ℕ → ℕ → ℕ → List ℕ
title_of rounds steps used executions =
    codes "No decision map after " ++ (counted rounds (codes "round") ++ (codes ": " ++ (counted steps (codes "step") ++ usage_of used executions)))

-- ---- the executions of a summary

-- those that are marked, by their participants
abbrev pub marked_scopes : List Bool → List (List Participant) → List (List Participant)
marked_scopes [] scopes = []
marked_scopes (b ∷ marks) [] = []
marked_scopes (b ∷ marks) (scope ∷ scopes) = if b then scope ∷ marked_scopes marks scopes else marked_scopes marks scopes

-- those of these executions
abbrev pub scopes_in : UsedExecutions → List (List Participant)
scopes_in used = marked_scopes used.marks.now used.protocol.now.scopes

-- the sizes that occur, from this one more than so many on
abbrev pub sizes_left : List (List Participant) → ℕ → List SizeCount
sizes_left scopes n =
    filter is_some_count (map (λ n. record { size = n; count = count_of_size scopes n }) (range_with_len (suc n) (most_processes - n)))
