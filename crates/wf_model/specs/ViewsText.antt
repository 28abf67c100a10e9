-- The text that lists the points of a protocol complex.
use Rattle.std.specs.Prelude.{ℕ, List, [], ◌∷◌, ◌++◌, flat_map, length, codes}
use Rattle.std.specs.List.{enumerate_from}
use Rattle.wf_model.specs.Task.{Task}
use Rattle.wf_model.specs.Execution.{executions}
use Rattle.wf_model.specs.Points.{Appearance, points, last_view_count, first_appearances}
use Rattle.wf_model.specs.Report.{line}

-- a point's number, with the execution and the process of its first appearance
abbrev pub point_line : ℕ × Appearance → List ℕ
point_line at = line (codes "v") (at.0 ∷ at.1.execution ∷ at.1.process ∷ [])

abbrev pub views_text : Task → ℕ → List ℕ
views_text t r =
    line (codes "wfcheck views 1") []
    ++ (line (codes "processes") (t.processes ∷ []) ++ (line (codes "rounds") (r ∷ [])
    ++ (line (codes "simplices") (length t.delta ∷ []) ++ (line (codes "views") (last_view_count t r ∷ [])
    ++ (line (codes "points") (length (points t r) ∷ []) ++ (line (codes "executions") (length (executions t r) ∷ [])
    ++ (flat_map point_line (enumerate_from 0 (first_appearances t r)) ++ line (codes "end") [])))))))
