-- The parts of a refutation: its lines, where those that follow each other and take values from one
-- process in one execution are one part.
use Rattle.std.specs.Prelude.{ℕ, ◌==◌, ◌&&◌, List, [], ◌∷◌, if◌then◌else◌}
use Rattle.wf_model.specs.Refutation.{Line, remove, empty, branch, found}

pub data Part : Type 0 where
  takes : (execution process : ℕ) → (values : List ℕ) → Part  -- the process can't decide these values in the execution
  closes : (point : ℕ) → Part  -- the point has no value left
  splits : (point : ℕ) → Part  -- each value that the point has left is a case

-- a value that a process can't decide, and then these parts
abbrev pub before_parts : ℕ → ℕ → ℕ → List Part → List Part
before_parts e c a [] = takes e c (a ∷ []) ∷ []
before_parts e c a (takes f d values ∷ parts) =
    if (e == f) && (c == d) then takes e c (a ∷ values) ∷ parts else takes e c (a ∷ []) ∷ takes f d values ∷ parts
before_parts e c a (closes v ∷ parts) = takes e c (a ∷ []) ∷ closes v ∷ parts
before_parts e c a (splits v ∷ parts) = takes e c (a ∷ []) ∷ splits v ∷ parts

-- a map that is found ends them
abbrev pub parts_of : List Line → List Part
parts_of [] = []
parts_of (remove e c a ∷ ls) = before_parts e c a (parts_of ls)
parts_of (empty v ∷ ls) = closes v ∷ parts_of ls
parts_of (branch v ∷ ls) = splits v ∷ parts_of ls
parts_of (found ∷ ls) = []
