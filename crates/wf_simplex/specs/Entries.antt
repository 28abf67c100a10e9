-- A simplex as a table: for each process from 0 on its value, if it takes part. And where a process
-- stands in a simplex.
use Rattle.std.specs.Prelude.{ℕ, suc, ◌+◌, List, [], ◌∷◌, Option, None, Some, nat_lt, nat_le, ◌==◌, ◌&&◌, if◌then◌else◌, Bool, true, false}
use Rattle.wf_model.specs.Simplex.{Simplex}

-- the vertices that the table lists, its first entry being that of process n
abbrev pub vertices_from : ℕ → List (Option ℕ) → Simplex
vertices_from n [] = []
vertices_from n (None ∷ entries) = vertices_from (n + 1) entries
vertices_from n (Some x ∷ entries) = (n, x) ∷ vertices_from (n + 1) entries

-- the value of a process, if it takes part
abbrev pub value_at : Simplex → ℕ → Option ℕ
value_at [] p = None
value_at (v ∷ s) p = if v.0 == p then Some v.1 else value_at s p

-- the place of a process in a list whose first place has this number
abbrev pub place_in : ℕ → ℕ → List ℕ → Option ℕ
place_in n process [] = None
place_in n process (p ∷ ps) = if p == process then Some n else place_in (suc n) process ps

-- the table of a simplex
abbrev pub entries_of : Simplex → List (Option ℕ)
entries_of s = value_at s 0 ∷ value_at s 1 ∷ value_at s 2 ∷ value_at s 3 ∷ []

-- an entry that is absent, or the same as the other
abbrev pub is_within : Option ℕ → Option ℕ → Bool
is_within None f = true
is_within (Some x) None = false
is_within (Some x) (Some y) = x == y

-- processes strictly ascending, from m on and at most 3
abbrev pub ascends_from : ℕ → Simplex → Bool
ascends_from m [] = true
ascends_from m (v ∷ s) = nat_le m v.0 && nat_lt v.0 4 && ascends_from (v.0 + 1) s
