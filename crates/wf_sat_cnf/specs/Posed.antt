-- Clauses that are added to what a checker of proofs knows.
use Rattle.std.specs.Prelude.{◌++◌, List}
use Rattle.wf_sat_text.specs.Clauses.Formula.{Clause, Formula}

-- the formula with these clauses behind its own
abbrev pub with_clauses : List Clause → Formula → Formula
with_clauses clauses f = record { variables = f.variables; clauses = f.clauses ++ clauses }

-- a checker that knew a formula knows it now with these clauses behind its own
abbrev pub Adds : {C : Type 0} → (Formula → C → Type 0) → List Clause → C → C → Type 0
Adds is_posed clauses old new = (f : Formula) → is_posed f old → is_posed (with_clauses clauses f) new
