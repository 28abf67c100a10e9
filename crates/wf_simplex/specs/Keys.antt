-- A number for each simplex, in the order of simplices.
use Rattle.std.specs.Prelude.{◌≡◌, ℕ, zero, suc, ◌+◌, ◌*◌, ◌/◌, ◌%◌, nat_lt, List, [], ◌∷◌, length, Option, None, Some, if◌then◌else◌}
use Rattle.wf_model.specs.Simplex.{Simplex}
use Rattle.wf_model.specs.Task.{IsTaskSimplex}
use Rattle.wf_simplex.specs.Entries.{value_at, vertices_from}

-- the digit of a process that takes no part: larger than each value
abbrev pub absent : ℕ
absent = 256

-- how many digits there are
abbrev pub digits : ℕ
digits = 512

-- the value, where the process takes part
abbrev pub digit_of : Option ℕ → ℕ
digit_of None = absent
digit_of (Some x) = x

-- the size, and then a digit for each process
abbrev pub key_of : Simplex → ℕ
key_of s = (((length s * digits + digit_of (value_at s 0)) * digits + digit_of (value_at s 1)) * digits + digit_of (value_at s 2)) * digits + digit_of (value_at s 3)

-- what one more in the size adds to a key
abbrev pub one_vertex : ℕ
one_vertex = digits * digits * digits * digits

-- what one more in the digit of a process adds to a key
abbrev pub unit_of : ℕ → ℕ
unit_of zero = digits * digits * digits
unit_of (suc zero) = digits * digits
unit_of (suc (suc zero)) = digits
unit_of (suc (suc (suc p))) = 1

-- above each key, since a size is at most 4
abbrev pub key_limit : ℕ
key_limit = 5 * one_vertex

-- the digit of a process
abbrev pub digit_at : ℕ → ℕ → ℕ
digit_at key zero = key / digits / digits / digits % digits
digit_at key (suc zero) = key / digits / digits % digits
digit_at key (suc (suc zero)) = key / digits % digits
digit_at key (suc (suc (suc p))) = key % digits

-- the entry that has this digit
abbrev pub entry_of : ℕ → Option ℕ
entry_of digit = if nat_lt digit absent then Some digit else None

-- the table that has this key
abbrev pub entries_from : ℕ → List (Option ℕ)
entries_from key = entry_of (digit_at key 0) ∷ entry_of (digit_at key 1) ∷ entry_of (digit_at key 2) ∷ entry_of (digit_at key 3) ∷ []

-- the simplex that has this key
unfoldable pub simplex_of : ℕ → Simplex
simplex_of key = vertices_from 0 (entries_from key)

-- the key of a simplex that a task may have
pub record IsKey (key : ℕ) : Type 0 where
  pub simplex : IsTaskSimplex (simplex_of key)
  pub exact : key_of (simplex_of key) ≡ key
