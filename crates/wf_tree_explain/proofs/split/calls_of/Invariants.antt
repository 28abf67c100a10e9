use Rattle.std.proofs.Common.{◌≡◌, flat_map, map}
use Rattle.wf_model.specs.Lists.{below}
use Rattle.wf_tree_explain.specs.Calls.{AreInside, calls_seen, splitting_of}
use Rattle.wf_tree_explain.specs.Words.{new_names}
use Rattle.wf_tree_explain.proofs.split.calls_of.Given as goal

abbrev pub invariant-places : goal.invariant-places
invariant-places l = record {
  calls : calls_seen l.calls.items ≡ flat_map (λ place. map (λ name. (place, name)) (new_names (splitting_of l.renamed) l.renamed.new place)) (below l.place);
  inside : AreInside l.renamed l.calls.items;
}
