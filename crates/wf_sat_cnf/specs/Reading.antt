-- How the text of a solver is read: word by word, into the assignment that its literals state.
use Rattle.std.specs.Prelude.{◌≡◌, ◌<◌, ℕ, ◌+◌, ◌-◌, ◌*◌, ◌==◌, ◌||◌, Bool, true, false, not, List, [], ◌∷◌, ◌++◌, map, length, fold, codes, Result, Ok, Err, if◌then◌else◌}
use Rattle.std.specs.List.{list_all}
use Rattle.wf_model.specs.Report.{same_text}
use Rattle.wf_sat_text.specs.Clauses.Formula.{Assignment, pos, neg}
use Rattle.wf_sat_text.specs.Clauses.Formula as formula
use Rattle.wf_sat_formula.specs.SolverText as text
use Rattle.wf_sat_formula.specs.SolverText.{SolverFault, literal_of, then_literal, states, words, lines, words_from, is_blank}
use Rattle.wf_sat_cnf.specs.Models.{assigned}
use Rattle.wf_sat_cnf.specs.declared.solver.ModelFault.{ModelFault}
use Rattle.wf_sat_cnf.specs.declared.solver.ModelFault.TheVariants.{OutOfMemory, NoModel, NotALiteral, NoSuchVariable}
use Rattle.wf_sat_cnf.specs.declared.solver.ModelLiteral.{ModelLiteral}
use Rattle.wf_sat_cnf.specs.declared.solver.ModelReader.{ModelReader}

-- ---- pieces of a text

abbrev pub IsFirstLine : List ℕ → List ℕ → List ℕ → Type 0
IsFirstLine line rest whole = (lines whole ≡ line ∷ lines rest) × (length rest < length whole)

abbrev pub IsFirstWord : List ℕ → List ℕ → List ℕ → Type 0
IsFirstWord word rest whole = (words whole ≡ word ∷ words rest) × (length rest < length whole)

abbrev pub has_no_feed : List ℕ → Bool
has_no_feed bytes = list_all (λ b. not (b == 10)) bytes

abbrev pub has_no_blank : List ℕ → Bool
has_no_blank bytes = list_all (λ b. not (is_blank b)) bytes

-- nothing, or a blank first
abbrev pub begins_blank : List ℕ → Bool
begins_blank [] = true
begins_blank (b ∷ bs) = is_blank b

-- the number with further digits
abbrev pub number_with : ℕ → List ℕ → ℕ
number_with n digits = fold (λ n c. 10 * n + (c - 48)) n digits

-- ---- faults

abbrev pub IsFault : {Y : Type 0} → ModelFault → Result Y SolverFault → Type 0
IsFault OutOfMemory answer = ⊥
IsFault (NoModel line) answer = answer ≡ Err (text.NoModel line)
IsFault (NotALiteral line) answer = answer ≡ Err (text.NotALiteral line)
IsFault (NoSuchVariable line) answer = answer ≡ Err (text.NoSuchVariable line)

-- this is the answer, with what was found as it is seen
abbrev pub Gives : {X Y : Type 0} → (X → Y) → Result X ModelFault → Result Y SolverFault → Type 0
Gives view (Ok x) answer = answer ≡ Ok (view x)
Gives view (Err fault) answer = IsFault fault answer

abbrev pub signed : Bool → ℕ → formula.Literal
signed is_positive n = if is_positive then pos n else neg n

abbrev pub literal_seen : ModelLiteral → formula.Literal
literal_seen l = signed l.is_positive l.variable

-- ---- what has been stated

abbrev pub also : Assignment → formula.Literal → Assignment
also a l = λ n. a n || states n l

-- a model has a literal at least
abbrev pub ended_with : ℕ → Assignment → Bool → Result Assignment SolverFault
ended_with line a is_begun = if is_begun then Ok a else Err (text.NoModel line)

-- the assignment so far, and whether there was a literal, with the literals of these words
abbrev pub stated_from : ℕ → ℕ → Assignment → Bool → List (ℕ × List ℕ) → Result Assignment SolverFault
stated_from variables last a is_begun [] = ended_with last a is_begun
stated_from variables last a is_begun (at ∷ rest) =
    if same_text at.1 (codes "0")
    then ended_with at.0 a is_begun
    else then_literal (literal_of variables at.0 at.1) (λ l. stated_from variables last (also a l) true rest)

abbrev pub stated_on : ℕ → ModelReader → List (ℕ × List ℕ) → Result Assignment SolverFault
stated_on last s ws = stated_from s.variables last (assigned s.truths.items) s.is_begun ws

abbrev pub ended_on : ℕ → ModelReader → Result Assignment SolverFault
ended_on line s = ended_with line (assigned s.truths.items) s.is_begun

-- a truth for 0 and for each variable
abbrev pub HasRoom : ModelReader → Type 0
HasRoom s = length s.truths.items ≡ s.variables + 1

-- nothing is stated on so many variables
pub record IsFresh (most : ℕ) (s : ModelReader) : Type 0 where
  pub variables : s.variables ≡ most
  pub room : HasRoom s
  pub nothing : (n : ℕ) → assigned s.truths.items n ≡ false
  pub is_begun : s.is_begun ≡ false

-- one literal more
pub record IsStated (l : formula.Literal) (old new : ModelReader) : Type 0 where
  pub variables : new.variables ≡ old.variables
  pub room : HasRoom new
  pub truths : (n : ℕ) → assigned new.truths.items n ≡ also (assigned old.truths.items) l n
  pub is_begun : new.is_begun ≡ true

abbrev pub numbered : ℕ → List (List ℕ) → List (ℕ × List ℕ)
numbered number ws = map (λ word. (number, word)) ws

-- after words of this line: the model has ended there, or goes on with the
-- later ones, or can't be had
abbrev pub GoesOn : ℕ → ℕ → List (ℕ × List ℕ) → ModelReader → Result Bool ModelFault → Result Assignment SolverFault → Type 0
GoesOn number last later new (Ok true) answer = answer ≡ ended_on number new
GoesOn number last later new (Ok false) answer = answer ≡ stated_on last new later
GoesOn number last later new (Err fault) answer = IsFault fault answer

abbrev pub AreWordsRead : ℕ → List (List ℕ) → ModelReader → ModelReader → Result Bool ModelFault → Type 0
AreWordsRead number ws old new result =
    (last : ℕ) (later : List (ℕ × List ℕ)) → GoesOn number last later new result (stated_on last old (numbered number ws ++ later))

abbrev pub IsEnd : ℕ → ModelReader → Result Unit ModelFault → Type 0
IsEnd line s result = Gives (λ _. assigned s.truths.items) result (ended_on line s)

abbrev pub IsTextRead : List ℕ → ModelReader → ModelReader → Result Unit ModelFault → Type 0
IsTextRead whole old new result =
    Gives (λ _. assigned new.truths.items) result (stated_on (length (lines whole)) old (words_from 1 (lines whole)))
