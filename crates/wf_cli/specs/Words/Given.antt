-- What is given by the options of a command, by its rows: the crate that reads words has a row for
-- each of them.
use Rattle.std.specs.Prelude.{ℕ, Bool, false, List, Option, Some, None, codes, option_and_then, if◌then◌else◌}
use Rattle.std.specs.Option.{option_map_or}
use Rattle.std.specs.Str.{bytes_eq}
use Rattle.std.specs.Str.Parse.{digits_value, without_leading_plus}
use Rattle.clap.specs.Words.{Row, Text, first_of, one_of}
use Rattle.clap.specs.ValueTests.{is_unsigned_in}

-- a whole number below 2^32; a plus may stand before its digits
abbrev pub read_number : Text → Option ℕ
read_number text = if is_unsigned_in 0 4294967295 text then Some (digits_value 10 (without_leading_plus text)) else None

-- the number of an option, if it is given
abbrev pub number_of : Text → List Row → Option ℕ
number_of name rows = option_and_then read_number (one_of name rows)

-- a flag is given
abbrev pub has_flag : Text → List Row → Bool
has_flag name rows = option_map_or (λ text. bytes_eq text (codes "true")) (first_of name rows) false

abbrev pub rounds_of : List Row → Option ℕ
rounds_of = number_of (codes "rounds")

abbrev pub task_of : List Row → Option Text
task_of = first_of (codes "task")
