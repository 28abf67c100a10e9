-- An assignment as a list, and the map that a solver's text says.
use Rattle.std.specs.Prelude.{◌≡◌, ℕ, Bool, false, List, Result, Ok, Err, Vec}
use Rattle.std.specs.List.{slice_index_or}
use Rattle.wf_model.specs.Task.{Task}
use Rattle.wf_model.specs.Problem.{problem_of}
use Rattle.wf_sat_text.specs.Clauses.Formula.{Assignment, Literal}
use Rattle.wf_sat_formula.specs.Encoding.{map_in, question}
use Rattle.wf_sat_formula.specs.SolverText as text
use Rattle.wf_sat_cnf.specs.declared.solver.ModelFault.{ModelFault}
use Rattle.wf_sat_cnf.specs.declared.solver.ModelFault.TheVariants.{OutOfMemory, NoModel, NotALiteral, NoSuchVariable}

-- An assignment as a list: whether each variable is true, by its number from
-- 0 on. What is past the list is false.
abbrev pub assigned : List Bool → Assignment
assigned truths n = slice_index_or truths n false

-- what was read, as the list of its items
abbrev pub map_seen : {A : Type 0} → Result (Vec ℕ A) ModelFault → Result (List ℕ) ModelFault
map_seen (Ok found) = Ok found.items
map_seen (Err fault) = Err fault

-- The values are those that the model of the text gives, or this is why it has none; where memory
-- ran out, nothing is said.
abbrev pub IsMapOfModel : Task → ℕ → List ℕ → Result (List ℕ) ModelFault → Type 0
IsMapOfModel t r said (Ok m) =
    (ls : List Literal) × (text.model_of (question t r).variables said ≡ Ok ls) × (m ≡ map_in (problem_of t r) (text.stated ls))
IsMapOfModel t r said (Err (NoModel line)) = text.model_of (question t r).variables said ≡ Err (text.NoModel line)
IsMapOfModel t r said (Err (NotALiteral line)) = text.model_of (question t r).variables said ≡ Err (text.NotALiteral line)
IsMapOfModel t r said (Err (NoSuchVariable line)) = text.model_of (question t r).variables said ≡ Err (text.NoSuchVariable line)
IsMapOfModel t r said (Err OutOfMemory) = Unit {0}
