-- What is known of the complex of some input simplices.
use Rattle.std.specs.Prelude.{◌≡◌, ℕ, Bool, List}
use Rattle.wf_model.specs.Simplex.{Simplex}
use Rattle.wf_model.specs.Task.{Task, IsTask, inputs, first_block}
use Rattle.wf_complex.specs.Protocol.{Built, IsProtocol}

-- it is the complex of each task that has these input simplices, and words
-- with a first block of m at least or of all
abbrev pub IsMade : List Simplex → Bool → ℕ → ℕ → Built → Type 0
IsMade simplices symmetric m r b =
    (t : Task) → IsTask t → inputs t ≡ simplices → t.symmetric ≡ symmetric → first_block t ≡ m → IsProtocol t r b
