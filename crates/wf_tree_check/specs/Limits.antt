-- What the checker follows at most.
use Rattle.std.specs.Prelude.{ℕ}
use Rattle.wf_tree_refine.specs.declared.fault.RefineFault.{RefineFault}
use Rattle.wf_tree_refine.specs.declared.fault.RefineFault.TheVariants.{TooManyNames}
use Rattle.wf_tree_check.specs.declared.fault.Limit.{Limit}
use Rattle.wf_tree_check.specs.declared.fault.Limit.TheVariants.{Names, Tuples}

-- so many nodes
abbrev pub most_nodes : ℕ
most_nodes = 65536

-- so many nodes with others below them may stand above one another
abbrev pub most_levels : ℕ
most_levels = 64

-- the limit that a step is above: names, or else tuples (by definition memory never runs out)
abbrev pub limit_of : RefineFault → Limit
limit_of TooManyNames = Names
limit_of fault = Tuples
