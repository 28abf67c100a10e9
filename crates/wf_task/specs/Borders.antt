-- The border of a simplex: its faces with one vertex less.
use Rattle.std.specs.Prelude.{ℕ, ◌+◌, nat_lt, Bool, true, false, if◌then◌else◌, List, [], map, length, remove}
use Rattle.wf_model.specs.Lists.{below}
use Rattle.wf_model.specs.Simplex.{Simplex}

-- a vertex has none
abbrev pub borders_if : Bool → Simplex → List Simplex
borders_if true s = map (remove s) (below (length s))
borders_if false s = []

abbrev pub borders_of : Simplex → List Simplex
borders_of s = borders_if (nat_lt 1 (length s)) s

-- the place that an item had before another item was left out
abbrev pub place_before : ℕ → ℕ → ℕ
place_before left_out place = if nat_lt place left_out then place else place + 1
