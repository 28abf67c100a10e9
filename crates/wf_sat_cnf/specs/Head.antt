-- What stands before the clauses of a question.
use Rattle.std.specs.Prelude.{ℕ, List, [], ◌∷◌, ◌++◌, codes}
use Rattle.wf_model.specs.Report.{line}
use Rattle.wf_sat_formula.specs.Dimacs.{numbering_line}
use Rattle.wf_sat_cnf.specs.declared.head.Counts.{Counts}

-- the comments with one number each
abbrev pub counts_text : Counts → List ℕ
counts_text n =
    line (codes "c wfcheck formula 1") []
    ++ (line (codes "c processes") (n.processes ∷ []) ++ (line (codes "c rounds") (n.rounds ∷ [])
    ++ (line (codes "c points") (n.points ∷ []) ++ line (codes "c executions") (n.executions ∷ []))))

-- all lines before the clauses of a question on these values, with further lines before those on
-- the values
abbrev pub head_text : Counts → List ℕ → List ℕ → List ℕ
head_text n further vs =
    counts_text n ++ (further ++ (line (codes "c values") vs
    ++ (numbering_line vs ++ line (codes "p cnf") (n.variables ∷ n.clauses ∷ []))))
