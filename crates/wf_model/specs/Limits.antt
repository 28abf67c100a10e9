-- The limits of tasks, complexes, texts and searches: each number once.
use Rattle.std.specs.Prelude.{ℕ}

-- ---- tasks

abbrev pub most_processes : ℕ
most_processes = 4

-- the largest value, and that of a task whose words need no first block
abbrev pub most_value : ℕ
most_value = 255

abbrev pub most_plain_value : ℕ
most_plain_value = 63

-- vertices and simplices of the input complex
abbrev pub most_vertices : ℕ
most_vertices = 64

abbrev pub most_inputs : ℕ
most_inputs = 4096

-- facets that a complex is made of: a text has a byte for each at least
abbrev pub most_facets : ℕ
most_facets = 16777216

-- output simplices that a text lists, and tuples in all
abbrev pub most_outputs : ℕ
most_outputs = 65536

abbrev pub most_tuples : ℕ
most_tuples = 65536

-- ---- protocol complexes

abbrev pub most_rounds : ℕ
most_rounds = 8

abbrev pub most_executions : ℕ
most_executions = 500000

-- one for each process of each execution
abbrev pub most_points : ℕ
most_points = 2000000

-- ---- texts

-- the bytes of a text that is read
abbrev pub most_bytes : ℕ
most_bytes = 16777216

-- a number in a line, which a machine word of 32 bits holds
abbrev pub most_number : ℕ
most_number = 4294967295

-- ---- splitting a search

-- boxes that are enough to share out, and how often each box is branched for them
abbrev pub enough_boxes : ℕ
enough_boxes = 64

abbrev pub most_levels : ℕ
most_levels = 8

-- the workers that share a search
abbrev pub most_workers : ℕ
most_workers = 64
