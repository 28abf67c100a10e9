use Rattle.std.proofs.Common.{◌≡◌, ◌==◌, filter, take}
use Rattle.wf_tree_explain.specs.Calls.{splitting_of}
use Rattle.wf_tree_explain.proofs.split.called.Given as goal

abbrev pub invariant-rows : goal.invariant-rows
invariant-rows l = l.rows.items ≡ filter (λ tuple. (splitting_of l.renamed).name l.call.place tuple == l.call.name) (take l.number l.renamed.rows.now)
