-- How a refusal of pairs is printed.
use Rattle.std.specs.Prelude.{ℕ, List, codes}
use Rattle.wf_simplex.specs.declared.simplex.SimplexFault.{SimplexFault}
use Rattle.wf_simplex.specs.declared.simplex.SimplexFault.TheVariants.{Empty, Colour}

abbrev pub fault_text : SimplexFault → List ℕ
fault_text Empty = codes "Empty"
fault_text Colour = codes "Colour"
