-- How many executions there are, and where their places lie.
use Rattle.std.specs.Prelude.{ℕ, zero, suc, ◌+◌, ◌*◌, List, [], ◌∷◌, ◌++◌, length}
use Rattle.wf_model.specs.Simplex.{Simplex}
use Rattle.wf_model.specs.Word.{words}
use Rattle.wf_complex.specs.declared.layout.ExecutionSlot.{ExecutionSlot}

-- how many lists of words there are for n participants, each with a first
-- block of m at least or of all
abbrev pub turns : ℕ → ℕ → ℕ → ℕ
turns m n zero = 1
turns m n (suc rounds) = length (words m n) * turns m n rounds

-- how many executions there are on these simplices
abbrev pub execution_total : ℕ → ℕ → List Simplex → ℕ
execution_total m rounds [] = 0
execution_total m rounds (s ∷ ss) = turns m (length s) rounds + execution_total m rounds ss

-- how many processes take part in them, each counted for each execution
abbrev pub place_total : ℕ → ℕ → List Simplex → ℕ
place_total m rounds [] = 0
place_total m rounds (s ∷ ss) = turns m (length s) rounds * length s + place_total m rounds ss

-- the executions on one simplex, one place after another from this one on
abbrev pub laid_on : ℕ → ℕ → ℕ → ℕ → List ExecutionSlot
laid_on simplex size place zero = []
laid_on simplex size place (suc count) =
    record { simplex = simplex; place = place; size = size } ∷ laid_on simplex size (place + size) count

-- the executions on these simplices, of which the first has this number and begins at this place
abbrev pub laid_out : ℕ → ℕ → ℕ → ℕ → List Simplex → List ExecutionSlot
laid_out m rounds number place [] = []
laid_out m rounds number place (s ∷ ss) =
    laid_on number (length s) place (turns m (length s) rounds)
    ++ laid_out m rounds (number + 1) (place + turns m (length s) rounds * length s) ss
