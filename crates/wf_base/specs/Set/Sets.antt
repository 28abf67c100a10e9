-- Sets of values as four words, one bit a value, and as ascending lists.
use Rattle.std.specs.Prelude.{ℕ, ◌/◌, ◌%◌, Bool, List, map, filter, get_or}
use Rattle.wf_model.specs.Lists.{below}
use Rattle.wf_model.specs.Box.{Box}
use Rattle.wf_base.specs.Set.Parts.{part_holds}

-- the values of a set are below this
abbrev pub value_limit : ℕ
value_limit = 256

-- whether the set has the value: the words come in order, 64 values each
abbrev pub holds : List ℕ → ℕ → Bool
holds set v = part_holds (get_or set (v / 64) 0) (v % 64)

-- the values of a set, ascending
unfoldable pub values_in : List ℕ → List ℕ
values_in set = filter (holds set) (below 256)

-- sets as a box
abbrev pub box_of : List (List ℕ) → Box
box_of sets = map values_in sets
