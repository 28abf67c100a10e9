-- What the words of a text state, and the literals of its model.
use Rattle.std.proofs.Common.{◌≡◌, ℕ, suc, ◌||◌, Bool, true, false, List, [], ◌∷◌, ◌++◌, length, codes, Result, Ok, Err, inl, inr, refl, sym, ap, ◌∙◌, arith}
use Rattle.std.specs.List.{list_any}
use Rattle.std.proofs.lemmas.Bool.{cases_Bool}
use Rattle.wf_model.specs.Report.{same_text}
use Rattle.wf_model.specs.Task.{Task}
use Rattle.wf_sat_text.specs.Clauses.Formula.{Assignment, Literal}
use Rattle.wf_sat_formula.specs.Encoding.{question}
use Rattle.wf_sat_formula.specs.SolverText as text
use Rattle.wf_sat_formula.specs.SolverText.{SolverFault, ended, lines, literal_of, model_from, model_of, stated, states, then_literal, words_from}
use Rattle.wf_sat_cnf.specs.Models.{IsMapOfModel}
use Rattle.wf_sat_cnf.specs.Reading.{IsFault, IsFresh, also, ended_with, stated_from, stated_on}
use Rattle.wf_sat_cnf.specs.declared.solver.ModelReader.{ModelReader}
use Rattle.wf_sat_cnf.specs.declared.solver.ModelFault.{ModelFault}
use Rattle.wf_sat_cnf.specs.declared.solver.ModelFault.TheVariants.{OutOfMemory, NoModel, NotALiteral, NoSuchVariable}

-- the assignment in the place of the literals
abbrev pub assigned_by : Result (List Literal) SolverFault → Result Assignment SolverFault
assigned_by (Ok ls) = Ok (stated ls)
assigned_by (Err fault) = Err fault

abbrev pub is_begun : List Literal → Bool
is_begun [] = false
is_begun (l ∷ ls) = true

or_false : (b : Bool) → (b || false) ≡ b
or_false true = refl
or_false false = refl

or_more : (a b c : Bool) → ((a || b) || c) ≡ (a || (b || c))
or_more true b c = refl
or_more false b c = refl

states_more : (found : List Literal) (l : Literal) (n : ℕ) → (list_any (states n) found || states n l) ≡ list_any (states n) (found ++ l ∷ [])
states_more [] l n = sym (or_false (states n l))
states_more (x ∷ found) l n = or_more (states n x) (list_any (states n) found) (states n l) ∙ ap (λ b. states n x || b) (states_more found l n)

begun_more : (found : List Literal) (l : Literal) → true ≡ is_begun (found ++ l ∷ [])
begun_more [] l = refl
begun_more (x ∷ found) l = refl

ends_same : (line : ℕ) (found : List Literal) → ended_with line (stated found) (is_begun found) ≡ assigned_by (ended line found)
ends_same line [] = refl
ends_same line (l ∷ found) = refl

pub states_the_model : (variables last : ℕ) (found : List Literal) (ws : List (ℕ × List ℕ))
    → stated_from variables last (stated found) (is_begun found) ws ≡ assigned_by (model_from variables last found ws)
states_the_model variables last found [] = ends_same last found
states_the_model variables last found (at ∷ rest) =
    elim (cases_Bool (same_text at.1 (codes "0"))) [
      | inl is ↦ rw is (ends_same at.0 found)
      | inr other ↦ rw other (by_literal (λ l. states_the_model variables last (found ++ l ∷ []) rest) (literal_of variables at.0 at.1))
    ]
  where
    by_literal : ((l : Literal) → stated_from variables last (stated (found ++ l ∷ [])) (is_begun (found ++ l ∷ [])) rest ≡ assigned_by (model_from variables last (found ++ l ∷ []) rest))
        → (r : Result Literal SolverFault)
        → then_literal r (λ l. stated_from variables last (also (stated found) l) true rest) ≡ assigned_by (then_literal r (λ l. model_from variables last (found ++ l ∷ []) rest))
    by_literal later (Err fault) = refl
    by_literal later (Ok l) =
        (λ i. stated_from variables last (λ n. states_more found l n i) (begun_more found l i) rest) ∙ later l

-- ---- answers

abbrev pub ok_or : {X Y E : Type 0} → Y → (X → Y) → Result X E → Y
ok_or y f (Ok x) = f x
ok_or y f (Err e) = y

abbrev pub err_alone : {X E : Type 0} → Result X E → Result (List Literal) E
err_alone (Ok x) = Ok []
err_alone (Err e) = Err e

no_ok : {n : ℕ} → n ≡ suc n → ⊥
no_ok {n} e = let none : ⊥ = omega (arith, e) in none

ok_of : (r : Result (List Literal) SolverFault) (a : Assignment) → assigned_by r ≡ Ok a → (ls : List Literal) × (r ≡ Ok ls) × (stated ls ≡ a)
ok_of (Ok ls) a e = (ls, refl, ap (ok_or (stated ls) (λ x. x)) e)
ok_of (Err fault) a e = absurd (no_ok (ap (ok_or 0 (λ _. 1)) e))

err_of : (r : Result (List Literal) SolverFault) (fault : SolverFault) → assigned_by r ≡ Err fault → r ≡ Err fault
err_of (Ok ls) fault e = absurd (no_ok (sym (ap (ok_or 0 (λ _. 1)) e)))
err_of (Err other) fault e = ap err_alone e

-- ---- the whole text

pub begins : (variables : ℕ) (s : ModelReader) (said : List ℕ) → IsFresh variables s
    → stated_on (length (lines said)) s (words_from 1 (lines said)) ≡ assigned_by (model_of variables said)
begins variables s said h =
    (λ i. stated_from (h.variables i) (length (lines said)) (λ n. h.nothing n i) (h.is_begun i) (words_from 1 (lines said)))
    ∙ states_the_model variables (length (lines said)) [] (words_from 1 (lines said))

pub found_in : (variables : ℕ) (s : ModelReader) (said : List ℕ) (a : Assignment) → IsFresh variables s
    → stated_on (length (lines said)) s (words_from 1 (lines said)) ≡ Ok a → (ls : List Literal) × (model_of variables said ≡ Ok ls) × (stated ls ≡ a)
found_in variables s said a h e = ok_of (model_of variables said) a (sym (begins variables s said h) ∙ e)

pub refused_in : (t : Task) (r variables : ℕ) (s : ModelReader) (said : List ℕ) (fault : ModelFault) → IsFresh variables s → variables ≡ (question t r).variables
    → IsFault fault (stated_on (length (lines said)) s (words_from 1 (lines said))) → IsMapOfModel t r said (Err fault)
refused_in t r variables s said OutOfMemory h are e = tt
refused_in t r variables s said (NoModel line) h are e =
    ap (λ n. model_of n said) (sym are) ∙ err_of (model_of variables said) (text.NoModel line) (sym (begins variables s said h) ∙ e)
refused_in t r variables s said (NotALiteral line) h are e =
    ap (λ n. model_of n said) (sym are) ∙ err_of (model_of variables said) (text.NotALiteral line) (sym (begins variables s said h) ∙ e)
refused_in t r variables s said (NoSuchVariable line) h are e =
    ap (λ n. model_of n said) (sym are) ∙ err_of (model_of variables said) (text.NoSuchVariable line) (sym (begins variables s said h) ∙ e)
