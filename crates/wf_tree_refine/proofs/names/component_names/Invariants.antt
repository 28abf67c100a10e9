use Rattle.std.proofs.Common.{◌≡◌, ◌≤◌, List, length}
use Rattle.wf_base.specs.Set.Sets.{values_in}
use Rattle.wf_model.specs.Task.{Tuple}
use Rattle.wf_tree_refine.specs.Names.{AreNumbered, first_new}
use Rattle.wf_tree_refine.proofs.NameSteps.{IsNaming}
use Rattle.wf_tree_refine.proofs.names.component_names.Given as goal

abbrev pub invariant-rows : goal.invariant-rows
invariant-rows l = record {
  few : l.next ≤ first_new;
  count : length l.names.items ≤ l.number;
  room : l.names.cap ≡ length l.rows;
  naming : (parts : List (List Tuple)) → AreNumbered l.place l.rows l.numbers parts → IsNaming l.place l.new l.numbers parts l.number l.names.items l.next (values_in l.seen);
}
