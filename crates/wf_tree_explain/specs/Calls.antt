-- New names as the code finds them.
use Rattle.std.specs.Prelude.{◌≡◌, ◌<◌, ℕ, List, All, length, map}
use Rattle.wf_tree_model.specs.Splits.{Splitting, with_names}
use Rattle.wf_tree_refine.specs.Names.{splitting}
use Rattle.wf_tree_explain.specs.declared.split.Call as code_call
use Rattle.wf_tree_explain.specs.declared.split.Renamed as code

abbrev pub splitting_of : code.Renamed → Splitting
splitting_of r = splitting r.simplex.now r.rows.now r.new

-- each tuple has a value for each participant, and what stands for the values
pub record IsRenamed (r : code.Renamed) : Type 0 where
  pub long : All (λ row. length row ≡ length r.simplex.now) r.rows.now
  pub named : r.named.now ≡ map (with_names (splitting_of r)) r.rows.now

abbrev pub call_seen : code_call.Call → ℕ × ℕ
call_seen call = (call.place, call.name)

abbrev pub calls_seen : List code_call.Call → List (ℕ × ℕ)
calls_seen calls = map call_seen calls

-- each is at a place of the simplex
abbrev pub AreInside : code.Renamed → List code_call.Call → Type 0
AreInside r calls = All (λ call. call.place < length r.simplex.now) calls
