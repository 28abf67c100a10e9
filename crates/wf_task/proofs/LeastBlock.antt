-- What tells which words are allowed.
use Rattle.std.proofs.Common.{ℕ, ◌≤◌, Option, None, Some, unwrap_or, arith}
use Rattle.wf_model.specs.Task.{IsFirstBlock}

pub block-some : (o : Option ℕ) → IsFirstBlock o → 1 ≤ unwrap_or o 1
block-some None h = omega arith
block-some (Some m) h = h.0

pub block-few : (o : Option ℕ) → IsFirstBlock o → unwrap_or o 1 ≤ 4
block-few None h = omega arith
block-few (Some m) h = h.1
