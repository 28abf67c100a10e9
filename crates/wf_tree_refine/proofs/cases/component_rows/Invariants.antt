use Rattle.std.proofs.Common.{◌≡◌, ◌==◌, filter, take}
use Rattle.wf_tree_model.specs.Cases.{is_step}
use Rattle.wf_tree_model.specs.Parts.{parts}
use Rattle.wf_tree_refine.specs.Near.{part_of}
use Rattle.wf_tree_refine.proofs.cases.component_rows.Given as goal

abbrev pub invariant-rows : goal.invariant-rows
invariant-rows l = l.part.items ≡ filter (λ tuple. part_of (parts (is_step l.size) l.rows) tuple == l.number) (take l.place l.rows)
