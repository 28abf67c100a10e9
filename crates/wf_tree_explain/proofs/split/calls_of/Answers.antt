use Rattle.std.proofs.Common.{map}
use Rattle.wf_tree_explain.specs.Calls.{calls_seen, splitting_of}
use Rattle.wf_tree_explain.specs.Words.{new_names}
use Rattle.wf_tree_explain.proofs.Renaming.{place_more}
use Rattle.wf_tree_explain.proofs.split.calls_of.Goals as goal

pub places-preserved : goal.places-preserved
places-preserved c =
    let r = c.args.renamed.now in
    record {
      calls = place_more (λ place. map (λ name. (place, name)) (new_names (splitting_of r) r.new place)) c.places.place (calls_seen c.places.calls.items) (calls_seen c.add_calls.new.calls.items) c.places.invariant.calls c.in_ok-add_calls.ensures.calls;
      inside = c.in_ok-add_calls.ensures.inside;
    }
