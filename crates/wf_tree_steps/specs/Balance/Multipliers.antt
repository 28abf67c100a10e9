-- The multipliers of the code and those of the definitions.
use Rattle.std.specs.Prelude.{List, map}
use Rattle.wf_tree_model.specs.Balance.{Multiplier}
use Rattle.wf_tree_steps.specs.declared.balance.multiplier.Multiplier as code

abbrev pub multiplier_seen : code.Multiplier → Multiplier
multiplier_seen x = record { simplex = x.simplex; place = x.place; others = x.others; weight = x.weight }

abbrev pub multipliers_seen : List code.Multiplier → List Multiplier
multipliers_seen xs = map multiplier_seen xs
