-- The text that lists the branches of a task's question.
use Rattle.std.specs.Prelude.{ℕ, nat_lt, Bool, List, [], ◌∷◌, ◌++◌, filter, flat_map, length, codes}
use Rattle.std.specs.List.{enumerate_from}
use Rattle.wf_model.specs.Task.{Task}
use Rattle.wf_model.specs.Execution.{executions}
use Rattle.wf_model.specs.Points.{points}
use Rattle.wf_model.specs.Report.{line}
use Rattle.wf_model.specs.Box.{Box, count}
use Rattle.wf_sat_formula.specs.Branches.{branches}
use Rattle.wf_run_branches.specs.declared.listing.ListingHeader.{ListingHeader}

-- two values or more
abbrev pub has_several : List ℕ → Bool
has_several set = nat_lt 1 (length set)

-- how many points have two candidates or more
abbrev pub open_points : Box → ℕ
open_points box = length (filter has_several box)

-- a branch's number, how many of its points are open, and how many candidates all its points have
abbrev pub entry_line : ℕ × Box → List ℕ
entry_line at = line (codes "branch") (at.0 ∷ open_points at.1 ∷ count at.1 ∷ [])

abbrev pub entries_text : List (ℕ × Box) → List ℕ
entries_text entries = flat_map entry_line entries

-- the lines before those of the branches
abbrev pub header_text : ListingHeader → List ℕ
header_text h =
    line (codes "wfcheck branches 1") []
    ++ (line (codes "processes") (h.processes ∷ []) ++ (line (codes "rounds") (h.rounds ∷ [])
    ++ (line (codes "points") (h.points ∷ []) ++ (line (codes "executions") (h.executions ∷ [])
    ++ line (codes "branches") (h.branches ∷ [])))))

-- what they say of a task and its r rounds
abbrev pub header_of : Task → ℕ → ListingHeader
header_of t r = record {
  processes = t.processes;
  rounds = r;
  points = length (points t r);
  executions = length (executions t r);
  branches = length (branches t r);
}

-- the branches of a task's question after r rounds
abbrev pub branches_text : Task → ℕ → List ℕ
branches_text t r =
    header_text (header_of t r) ++ (entries_text (enumerate_from 0 (branches t r)) ++ line (codes "end") [])
