-- The most that a problem within the limits has.
use Rattle.std.specs.Prelude.{ℕ}

-- words of marks, a bit for each execution
abbrev pub most_words : ℕ
most_words = 10000
