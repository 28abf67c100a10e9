-- What a draft of a text has.
use Rattle.std.specs.Prelude.{◌≡◌, ◌≤◌, true, All, length}
use Rattle.wf_model.specs.Limits.{most_bytes}
use Rattle.wf_model.specs.Simplex.{is_nonempty}
use Rattle.wf_task_parse.specs.RawTask.{Listed}

-- each listed simplex has a vertex
pub record ListsVertices (listed : Listed) : Type 0 where
  pub inputs : All (λ s. is_nonempty s ≡ true) listed.inputs
  pub outputs : All (λ s. is_nonempty s ≡ true) listed.outputs
  pub entries : All (λ rule. is_nonempty rule.input ≡ true) listed.delta

-- no list is longer than a text
pub record ListsFew (listed : Listed) : Type 0 where
  pub inputs : length listed.inputs ≤ most_bytes
  pub outputs : length listed.outputs ≤ most_bytes
  pub entries : length listed.delta ≤ most_bytes
