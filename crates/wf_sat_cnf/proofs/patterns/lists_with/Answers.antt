use Rattle.wf_sat_cnf.proofs.Steps.{lists_more}
use Rattle.wf_sat_cnf.proofs.patterns.lists_with.Goals as goal

pub returns : goal.returns
returns c = lists_more c.in_ok-lists.lists.items _ _ _ c.args.tuples.now c.in_ok-push.ensures.items c.in_ok-lists.ensures (c.in_ok-to_vec.ensures.items_if_clones_equal (λ x y e. e))
