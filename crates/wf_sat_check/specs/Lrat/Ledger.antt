-- What clauses see of a checker of hints, and how clauses come and go.
use Rattle.std.specs.Prelude.{ℕ, ◌+◌, ◌-◌, ◌==◌, ◌||◌, Bool, false, List, [], ◌∷◌, ◌++◌, Option, Some, None, if◌then◌else◌, get_or, length, map, replicate, set}
use Rattle.std.specs.List.{list_any}
use Rattle.wf_sat_text.specs.Clauses.Formula.{Clause, Formula}

-- the largest number of a variable; the clauses by their ids from 1 on,
-- nothing where there is none or it was deleted; how many clauses there ever
-- were; and whether one of them was empty
pub record Ledger : Type 0 where
  pub variables : ℕ
  pub slots : List (Option Clause)
  pub count : ℕ
  pub is_refuted : Bool

-- a ledger of no clause
abbrev pub empty_ledger : ℕ → Ledger
empty_ledger variables = record { variables = variables; slots = []; count = 0; is_refuted = false }

abbrev pub is_empty_clause : Clause → Bool
is_empty_clause clause = length clause == 0

-- the clause has the next id
abbrev pub added : Clause → Ledger → Ledger
added clause l = record {
  variables = l.variables;
  slots = l.slots ++ Some clause ∷ [];
  count = l.count + 1;
  is_refuted = l.is_refuted || is_empty_clause clause;
}

-- the clause has this id, above all others: there is nothing at those between
abbrev pub learned : ℕ → Clause → Ledger → Ledger
learned id clause l = record {
  variables = l.variables;
  slots = l.slots ++ (replicate (id - 1 - length l.slots) None ++ Some clause ∷ []);
  count = l.count + 1;
  is_refuted = l.is_refuted || is_empty_clause clause;
}

-- there is no clause with this id
abbrev pub emptied : ℕ → List (Option Clause) → List (Option Clause)
emptied id slots = if id == 0 then slots else set slots (id - 1) None

abbrev pub emptied_each : List ℕ → List (Option Clause) → List (Option Clause)
emptied_each [] slots = slots
emptied_each (id ∷ ids) slots = emptied_each ids (emptied id slots)

-- there are no clauses with these ids
abbrev pub deleted : List ℕ → Ledger → Ledger
deleted ids l = record { variables = l.variables; slots = emptied_each ids l.slots; count = l.count; is_refuted = l.is_refuted }

-- the clause with this id
abbrev pub slot_of : List (Option Clause) → ℕ → Option Clause
slot_of slots id = if id == 0 then None else get_or slots (id - 1) None

-- the clauses of a formula, in their order
abbrev pub ledger_of : Formula → Ledger
ledger_of f = record {
  variables = f.variables;
  slots = map Some f.clauses;
  count = length f.clauses;
  is_refuted = list_any is_empty_clause f.clauses;
}
