use Rattle.std.proofs.Common.{◌≡◌, ◌++◌, ◌-◌, ◌≤◌}
use Rattle.wf_tree_explain.specs.Calls.{AreInside, calls_seen}
use Rattle.wf_tree_explain.proofs.Renaming.{some_calls}
use Rattle.wf_tree_explain.proofs.split.add_calls.Given as goal

abbrev pub invariant-names : goal.invariant-names
invariant-names l = record {
  calls : calls_seen l.calls.items ≡ calls_seen l.initial.calls.items ++ some_calls l.place l.renamed.new (l.number - l.renamed.new);
  inside : AreInside l.renamed l.calls.items;
  from : l.renamed.new ≤ l.number;
  upto : l.number - l.renamed.new ≤ l.above - l.renamed.new;
}
