-- What stands at a place of a list, behind what parts it from the place before.
use Rattle.std.specs.Prelude.{ℕ, zero, suc, ◌==◌, false, List, [], ◌++◌, slice_index, codes, decimal, if◌then◌else◌}
use Rattle.wf_model.specs.Simplex.{Simplex, processes_of, values_of}
use Rattle.wf_model.specs.PointsText.{process_text}
use Rattle.wf_tree_explain.specs.Words.{indent_text}

-- what stands before the element at a place of a list of this length
abbrev pub separator : List ℕ → List ℕ → ℕ → ℕ → List ℕ
separator between last zero size = []
separator between last (suc n) size = if suc (suc n) == size then last else between

-- what stands before an element, if all but the first have this text before them
abbrev pub before_at : List ℕ → ℕ → List ℕ
before_at text zero = []
before_at text (suc n) = text

-- what stands before what a line says that is the one at this place
abbrev pub start_text : ℕ → ℕ → List ℕ
start_text depth place = before_at (codes ",") place ++ (codes "\n" ++ (indent_text depth ++ codes "  "))

-- the vertex at a place, by its process and its input
abbrev pub vertex_in : Simplex → ℕ → List ℕ
vertex_in s place = process_text false (slice_index (processes_of s) place) ++ (codes "=" ++ decimal (slice_index (values_of s) place))
