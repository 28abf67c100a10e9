-- What the program keeps to number variables.
use Rattle.std.specs.Prelude.{◌≡◌, ◌<◌, ℕ, length, slice_index}
use Rattle.wf_base.specs.Set.Sets.{values_in}
use Rattle.wf_sat_formula.specs.Encoding.{rank_in}
use Rattle.wf_sat_cnf.specs.declared.variables.Variables.{Variables}

-- how many values there are, and for each number how many of them are smaller
pub record IsNumbered (v : Variables) : Type 0 where
  pub width : v.width ≡ length (values_in v.values)
  pub long : length v.ranks.items ≡ 256
  pub ranks : (a : ℕ) → a < 256 → slice_index v.ranks.items a ≡ rank_in (values_in v.values) a
