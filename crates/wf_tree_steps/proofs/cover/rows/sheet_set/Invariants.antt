use Rattle.std.proofs.Common.{◌≡◌, ◌+◌, ◌*◌, ℕ, map}
use Rattle.wf_model.specs.Lists.{below, has}
use Rattle.wf_base.specs.Set.Sets.{values_in}
use Rattle.wf_tree_steps.proofs.cover.rows.sheet_set.Given as goal

abbrev pub invariant-sheets : goal.invariant-sheets
invariant-sheets l = (z : ℕ) → has (values_in l.set) z ≡ has (map (λ sheet. l.value + sheet * l.new) (below l.sheet)) z
