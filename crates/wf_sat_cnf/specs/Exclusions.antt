-- The clauses that rule out what a branch has not, and the question of a task or of a branch.
use Rattle.std.specs.Prelude.{◌≡◌, ℕ, List, [], ◌++◌, map, flat_map, length, Option, Some, None}
use Rattle.wf_model.specs.Lists.{below}
use Rattle.wf_model.specs.Task.{Task}
use Rattle.wf_model.specs.Box.{Box}
use Rattle.wf_complex.specs.Protocol.{Built}
use Rattle.wf_base.specs.Set.Sets.{values_in}
use Rattle.wf_sat_text.specs.Clauses.Formula.{Clause}
use Rattle.wf_sat_formula.specs.Branches.{box_text, branch_line, missing, ruled_out}
use Rattle.wf_sat_formula.specs.Dimacs.{question_text}
use Rattle.wf_sat_formula.specs.Encoding.{at_least_one}
use Rattle.wf_sat_formula.specs.Patterns.{Pattern}
use Rattle.wf_sat_cnf.specs.Clauses.{clauses_on}
use Rattle.wf_sat_cnf.specs.declared.exclusions.Branch.{Branch}

-- those of a point
abbrev pub exclusions_at : List ℕ → Box → ℕ → List Clause
exclusions_at values box v = map (ruled_out values v) (missing values box v)

-- those of the points that a box has
abbrev pub exclusions_on : List ℕ → Box → List Clause
exclusions_on values box = flat_map (exclusions_at values box) (below (length box))

-- ---- a question, of a branch or of the whole

-- all clauses: those of the points, those of the executions, and those that rule out what a box has
-- not
abbrev pub clauses_with : List ℕ → List (List Pattern) → Built → Box → List Clause
clauses_with values patterns b box =
    map (at_least_one values) (below (length b.points)) ++ (clauses_on values patterns b ++ exclusions_on values box)

-- the sets of a branch
abbrev pub sets_in : Option Branch → List (List ℕ)
sets_in None = []
sets_in (Some branch) = branch.sets.now

-- the comment that tells which branch it is
abbrev pub line_in : Option Branch → List ℕ
line_in None = []
line_in (Some branch) = branch_line branch.number branch.count

-- the question of a branch, or of the whole task
abbrev pub part_text : Task → ℕ → Option Branch → List ℕ
part_text t r None = question_text t r
part_text t r (Some branch) = box_text t r branch.number branch.count (map values_in branch.sets.now)

-- a branch has a set for each point
abbrev pub Fits : Option Branch → Built → Type 0
Fits None b = Unit {0}
Fits (Some branch) b = length branch.sets.now ≡ length b.points
