-- Worked examples: the models that texts of solvers say, by computation.
use Rattle.std.specs.Prelude.{◌≡◌, [], ◌∷◌, List, true, false, codes, Ok, Err, refl}
use Rattle.wf_sat_text.specs.Clauses.Formula.{Literal, pos, neg}
use Rattle.wf_sat_formula.specs.SolverText.{NoModel, NotALiteral, NoSuchVariable, model_of, stated}

abbrev said : List Literal
said = pos 1 ∷ neg 2 ∷ pos 12 ∷ []

-- the form of the SAT competitions: comments, whether there is a model, and lines of values
pub competition : model_of 12 (codes "c a solver\nc\ns SATISFIABLE\nv 1 -2\nv 12 0\n") ≡ Ok said
competition = refl

-- the form of MiniSat's file of results
pub results_file : model_of 12 (codes "SAT\n1 -2 12 0\n") ≡ Ok said
results_file = refl

-- literals alone, with blanks of each kind, and no 0 at the end
pub blanks : model_of 12 (codes " 1\t-2\r\n\n  12") ≡ Ok said
blanks = refl

-- what stands behind the 0 isn't read
pub ends_at_0 : model_of 12 (codes "v 1 -2 12 0 13\nv x\n") ≡ Ok said
ends_at_0 = refl

-- a solver that has no model
pub unsatisfiable : model_of 12 (codes "s UNSATISFIABLE\n") ≡ Err (NoModel 2)
unsatisfiable = refl

pub unsatisfiable_by_minisat : model_of 12 (codes "UNSAT\n") ≡ Err (NoModel 2)
unsatisfiable_by_minisat = refl

pub undecided_by_minisat : model_of 12 (codes "INDET") ≡ Err (NoModel 1)
undecided_by_minisat = refl

pub nothing : model_of 12 [] ≡ Err (NoModel 1)
nothing = refl

pub no_literals : model_of 12 (codes "s SATISFIABLE\nv 0\n") ≡ Err (NoModel 2)
no_literals = refl

-- words that are no literals
pub a_word : model_of 12 (codes "v 1\nv x 0\n") ≡ Err (NotALiteral 2)
a_word = refl

pub a_word_with_digits : model_of 12 (codes "1 2x 0\n") ≡ Err (NotALiteral 1)
a_word_with_digits = refl

pub a_minus : model_of 12 (codes "1 - 0\n") ≡ Err (NotALiteral 1)
a_minus = refl

pub a_negative_0 : model_of 12 (codes "1 -0\n") ≡ Err (NotALiteral 1)
a_negative_0 = refl

pub a_leading_0 : model_of 12 (codes "1 02 0\n") ≡ Err (NotALiteral 1)
a_leading_0 = refl

pub a_plus : model_of 12 (codes "+1 0\n") ≡ Err (NotALiteral 1)
a_plus = refl

-- a status is one at the front of its line alone
pub a_status_later : model_of 12 (codes "1 SAT\n") ≡ Err (NotALiteral 1)
a_status_later = refl

pub past_the_variables : model_of 12 (codes "c\nv 12 -13 0\n") ≡ Err (NoSuchVariable 2)
past_the_variables = refl

-- ---- the assignment

pub stated_positive : stated said 12 ≡ true
stated_positive = refl

pub stated_negative : stated said 2 ≡ false
stated_negative = refl

pub stated_nowhere : stated said 3 ≡ false
stated_nowhere = refl
