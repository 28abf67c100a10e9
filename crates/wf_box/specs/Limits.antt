-- The most that a problem within the limits has.
use Rattle.std.specs.Prelude.{ℕ}

-- 256 candidates for each point
abbrev pub most_candidates : ℕ
most_candidates = 512000000
