-- The text of a formula in the DIMACS format, which SAT solvers read, and the text of a question.
use Rattle.std.specs.Prelude.{ℕ, List, [], ◌∷◌, ◌++◌, flat_map, length, codes, decimal}
use Rattle.wf_sat_text.specs.Clauses.Formula.{Literal, pos, neg, Clause, Formula}
use Rattle.wf_model.specs.Task.{Task, values}
use Rattle.wf_model.specs.Execution.{executions}
use Rattle.wf_model.specs.Points.{points}
use Rattle.wf_model.specs.Report.{line}
use Rattle.wf_sat_formula.specs.Encoding.{question}

-- a number and a space
abbrev pub literal_text : Literal → List ℕ
literal_text (pos n) = decimal n ++ 32 ∷ []
literal_text (neg n) = 45 ∷ (decimal n ++ 32 ∷ [])

-- its literals, a zero and a line feed
abbrev pub clause_text : Clause → List ℕ
clause_text clause = flat_map literal_text clause ++ 48 ∷ 10 ∷ []

-- a line with how many variables and clauses there are, and one for each clause
abbrev pub formula_text : Formula → List ℕ
formula_text f = line (codes "p cnf") (f.variables ∷ length f.clauses ∷ []) ++ flat_map clause_text f.clauses

-- which variable says that a point has the value at some place of a list, the places from 1 on
abbrev pub numbering_line : List ℕ → List ℕ
numbering_line vs = codes "c variable " ++ (decimal (length vs) ++ codes " * point + place of the value\n")

-- what the formula asks, in lines that are comments, with further ones before those on values
abbrev pub comments_with : List ℕ → Task → ℕ → List ℕ
comments_with further t r =
    line (codes "c wfcheck formula 1") []
    ++ (line (codes "c processes") (t.processes ∷ []) ++ (line (codes "c rounds") (r ∷ [])
    ++ (line (codes "c points") (length (points t r) ∷ []) ++ (line (codes "c executions") (length (executions t r) ∷ [])
    ++ (further ++ (line (codes "c values") (values t) ++ numbering_line (values t)))))))

abbrev pub comments : Task → ℕ → List ℕ
comments t r = comments_with [] t r

-- the formula of a task and a number of rounds, after comments
abbrev pub question_text : Task → ℕ → List ℕ
question_text t r = comments t r ++ formula_text (question t r)
