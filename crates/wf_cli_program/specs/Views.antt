-- The parts of the text that lists the points.
use Rattle.std.specs.Prelude.{ℕ, ◌+◌, List, [], ◌∷◌, ◌++◌, codes}
use Rattle.wf_model.specs.Report.{line}
use Rattle.wf_cli_program.specs.declared.views.PointsHeader.{PointsHeader}

abbrev pub header_text : PointsHeader → List ℕ
header_text h =
    line (codes "wfcheck views 1") []
    ++ (line (codes "processes") (h.processes ∷ []) ++ (line (codes "rounds") (h.rounds ∷ [])
    ++ (line (codes "simplices") (h.simplices ∷ []) ++ (line (codes "views") (h.views ∷ [])
    ++ (line (codes "points") (h.points ∷ []) ++ line (codes "executions") (h.executions ∷ []))))))

-- a line for each appearance, from point n on
abbrev pub appearances_text : ℕ → List (ℕ × ℕ) → List ℕ
appearances_text n [] = []
appearances_text n (at ∷ more) = line (codes "v") (n ∷ at.0 ∷ at.1 ∷ []) ++ appearances_text (n + 1) more
