-- A formula as tokens: for each clause its literals, and then its end.
use Rattle.std.specs.Prelude.{◌≡◌, ℕ, List, [], ◌∷◌, ◌++◌, map, flat_map, Option, Some, None, Result, Ok, Err, IsErr}
use Rattle.wf_sat_text.specs.Clauses.Formula.{Clause, Formula, Literal}
use Rattle.wf_sat_formula.specs.Dimacs.{literal_text}
use Rattle.wf_sat_cnf.specs.Posed.{Adds}

-- a literal, or the end of a clause
abbrev pub Token : Type 0
Token = Option Literal

abbrev pub clause_tokens : Clause → List Token
clause_tokens clause = map Some clause ++ None ∷ []

abbrev pub formula_tokens : List Clause → List Token
formula_tokens clauses = flat_map clause_tokens clauses

-- ---- how tokens are taken

-- The laws of a relation that says how tokens are taken and passed on to an end. No token is taken
-- by doing nothing. Some tokens and then others are taken one after the other. What stopped among
-- some tokens stopped before further ones. An end to which tokens were passed on is still open.
pub record IsTaking {K T E : Type 0} (takes : List Token → K → T → K → T → Result (Unit {0}) E → Type 0) (is_open : T → Type 0) : Type 0 where
  pub nothing : (now : K) (to : T) → takes [] now to now to (Ok tt)
  pub more : (some next : List Token) (old now new : K) (from to end : T) (result : Result (Unit {0}) E)
      → takes some old from now to (Ok tt) → takes next now to new end result → takes (some ++ next) old from new end result
  pub stopped : (some next : List Token) (old new : K) (from to : T) (fault : E) (result : Result (Unit {0}) E)
      → takes some old from new to (Err fault) → IsErr result → takes (some ++ next) old from new to result
  pub stays_open : (some : List Token) (old new : K) (from to : T) → takes some old from new to (Ok tt) → is_open from → is_open to

-- ---- as text

abbrev pub token_text : Token → List ℕ
token_text (Some literal) = literal_text literal
token_text None = 48 ∷ 10 ∷ []

abbrev pub tokens_text : List Token → List ℕ
tokens_text tokens = flat_map token_text tokens

-- ---- as clauses that are added

-- the clauses that end among the tokens, behind the beginning of one, and what is begun after them
abbrev pub ended : Clause → List Token → List Clause
ended begun [] = []
ended begun (Some literal ∷ tokens) = ended (begun ++ literal ∷ []) tokens
ended begun (None ∷ tokens) = begun ∷ ended [] tokens

abbrev pub begun_after : Clause → List Token → Clause
begun_after begun [] = begun
begun_after begun (Some literal ∷ tokens) = begun_after (begun ++ literal ∷ []) tokens
begun_after begun (None ∷ tokens) = begun_after [] tokens

-- the clauses that end among the tokens were added, and the one that is begun is at hand
pub record AddsTokens {C : Type 0} (is_posed : Formula → C → Type 0) (tokens : List Token) (begun : Clause) (old : C) (begun' : Clause) (new : C) : Type 0 where
  pub adds : Adds is_posed (ended begun tokens) old new
  pub begun_is : begun' ≡ begun_after begun tokens
