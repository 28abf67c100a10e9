-- Complexes: what each one has.
use Rattle.std.specs.Prelude.{◌≡◌, ◌<◌, ◌^◌, List, length, All}
use Rattle.std.specs.List.Sorted.{IsStrictlySortedBy}
use Rattle.wf_model.specs.Simplex.{Simplex, simplex_cmp, complex_of}
use Rattle.wf_model.specs.Task.{IsTaskSimplex}

-- simplices in order, each once, with all their faces; so few that u32 numbers them
pub record IsComplex (simplices : List Simplex) : Type 0 where
  pub ascending : IsStrictlySortedBy simplex_cmp simplices
  pub closed : complex_of simplices ≡ simplices
  pub within : All IsTaskSimplex simplices
  pub countable : length simplices < 2 ^ 32
