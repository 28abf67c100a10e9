-- A machine word as 64 of the values that a set may have, one bit a value.
use Rattle.std.specs.Prelude.{ℕ, ◌==◌, Bool, List, filter}
use Rattle.std.specs.Int.{bit_at}
use Rattle.wf_model.specs.Lists.{below}

-- the values of a part are below this
abbrev pub part_limit : ℕ
part_limit = 64

-- whether the word has the value
abbrev pub part_holds : ℕ → ℕ → Bool
part_holds word v = bit_at word v == 1

-- the values of a word, ascending
unfoldable pub part_values : ℕ → List ℕ
part_values word = filter (part_holds word) (below 64)
