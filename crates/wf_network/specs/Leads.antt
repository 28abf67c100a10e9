-- Executions that stand for rules.
use Rattle.std.specs.Prelude.{◌≡◌, ◌<◌, ◌≤◌, ℕ, List, length, get_or}
use Rattle.wf_network.specs.Users.{no_execution}
use Rattle.wf_complex.specs.declared.packed.PackedExecution.{PackedExecution}

-- the execution of this number has the rule of that number; or it is how many executions there are
pub record IsOfRule (es : List PackedExecution) (rule e : ℕ) : Type 0 where
  pub low : e ≤ length es
  pub same : e < length es → (get_or es e no_execution).simplex ≡ rule
