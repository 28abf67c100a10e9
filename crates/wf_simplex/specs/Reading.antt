-- Which lists of pairs are simplices, and the first reason where one is not.
use Rattle.std.specs.Prelude.{◌&&◌, nat_lt, Bool, not, Option, None, Some, if◌then◌else◌}
use Rattle.std.specs.List.{list_all}
use Rattle.wf_simplex.specs.declared.simplex.SimplexFault.{SimplexFault}
use Rattle.wf_simplex.specs.declared.simplex.SimplexFault.TheVariants.{Empty, Colour}
use Rattle.wf_model.specs.Simplex.{Simplex, processes_of, is_nonempty, is_ascending}

-- processes strictly ascending, and at most 3
abbrev pub names_processes : Simplex → Bool
names_processes pairs = is_ascending (processes_of pairs) && list_all (λ p. nat_lt p 4) (processes_of pairs)

-- why these pairs are no simplex, the first reason in this order; none where they are one
abbrev pub read_fault : Simplex → Option SimplexFault
read_fault pairs =
    if not (is_nonempty pairs) then Some Empty else
    (if not (names_processes pairs) then Some Colour else None)
