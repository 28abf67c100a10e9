-- How long a report may be that is read line by line.
use Rattle.std.specs.Prelude.{◌^◌, ℕ}

-- the most bytes that any window takes
abbrev pub most_report_bytes : ℕ
most_report_bytes = 2 ^ 62

-- the most lines
abbrev pub most_report_lines : ℕ
most_report_lines = 2147483647
