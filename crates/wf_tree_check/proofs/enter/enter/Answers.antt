use Rattle.std.proofs.Common.{◌+◌, ◌-◌, ◌<◌, ◌∷◌, drop, length, map, sym, ap, ◌∙◌, subst, arith, vec_items}
use Rattle.std.proofs.lemmas.Bool.{ltb-true}
use Rattle.wf_tree_model.specs.Trees.{case_node, cover_node, split_node}
use Rattle.wf_tree_refine.specs.AtHand.{at_hand}
use Rattle.wf_tree_steps.specs.Cover.Faults.{moves_seen}
use Rattle.wf_tree_text.specs.Seen.{node_seen, nodes_seen}
use Rattle.wf_tree_check.specs.Judge.{judged}
use Rattle.wf_tree_check.specs.Walk.{IsEntered, levels_of}
use Rattle.wf_tree_check.proofs.Walking.{if_ok, inner_entered, inner_levels, node_there, too_deep}
use Rattle.wf_tree_check.proofs.enter.enter.Goals as goal

pub returns-then-levels-levels_of-clause-entered : goal.returns-then-levels-levels_of-clause-entered
returns-then-levels-levels_of-clause-entered c =
    let t = c.args.walk.now.task.now in
    let rows = map vec_items c.args.rows.now in
    let place = c.args.place in
    let nodes = nodes_seen c.args.walk.now.nodes.now in
    let at = c.in-Some.ensures.lookup in
    let takes = c.levels_of.ensures in
    let few = c.if-levels-levels_of.true in
    ap (judged c.args.levels (at_hand t rows) place) (node_there c.args.walk.now.nodes.now place c.in-Some.node.now at.0 at.1)
    ∙ too_deep (at_hand t rows) c.args.levels place (node_seen c.in-Some.node.now) (drop (place + 1) nodes) (omega (arith, takes, few))

pub returns-in-Case : goal.returns-in-Case
returns-in-Case c =
    let t = c.args.walk.now.task.now in
    let rows = map vec_items c.args.rows.now in
    let place = c.args.place in
    let nodes = nodes_seen c.args.walk.now.nodes.now in
    let behind = drop (place + 1) nodes in
    let at = c.in-Some.ensures.lookup in
    let is = node_there c.args.walk.now.nodes.now place c.in-Some.node.now at.0 at.1 ∙ ap (λ n. node_seen n ∷ behind) c.in-Case.is in
    let takes = c.levels_of.ensures ∙ ap (λ n. levels_of (node_seen n)) c.in-Case.is in
    let enough = c.if-levels-levels_of.false in
    let some : 0 < c.args.levels = omega (arith, takes, enough) in
    record {
      entered = inner_entered t rows c.args.levels place (case_node c.in-Case.simplex) behind (drop place nodes) c.enter_case.result some is (c.enter_case.ensures (c.args.levels - 1) behind);
      levels = inner_levels c.args.levels c.enter_case.result some;
      inside = if_ok c.enter_case.result (place < length c.args.walk.now.nodes.now) (ltb-true place (length c.args.walk.now.nodes.now) (sym at.0));
    }

pub returns-in-Split : goal.returns-in-Split
returns-in-Split c =
    let t = c.args.walk.now.task.now in
    let rows = map vec_items c.args.rows.now in
    let place = c.args.place in
    let nodes = nodes_seen c.args.walk.now.nodes.now in
    let behind = drop (place + 1) nodes in
    let at = c.in-Some.ensures.lookup in
    let is = node_there c.args.walk.now.nodes.now place c.in-Some.node.now at.0 at.1 ∙ ap (λ n. node_seen n ∷ behind) c.in-Split.is in
    let takes = c.levels_of.ensures ∙ ap (λ n. levels_of (node_seen n)) c.in-Split.is in
    let enough = c.if-levels-levels_of.false in
    let some : 0 < c.args.levels = omega (arith, takes, enough) in
    record {
      entered = inner_entered t rows c.args.levels place (split_node c.in-Split.simplex) behind (drop place nodes) c.enter_split.result some is (c.enter_split.ensures (c.args.levels - 1) behind);
      levels = inner_levels c.args.levels c.enter_split.result some;
      inside = if_ok c.enter_split.result (place < length c.args.walk.now.nodes.now) (ltb-true place (length c.args.walk.now.nodes.now) (sym at.0));
    }

pub returns-in-Cover : goal.returns-in-Cover
returns-in-Cover c =
    let t = c.args.walk.now.task.now in
    let rows = map vec_items c.args.rows.now in
    let place = c.args.place in
    let nodes = nodes_seen c.args.walk.now.nodes.now in
    let behind = drop (place + 1) nodes in
    let at = c.in-Some.ensures.lookup in
    let is = node_there c.args.walk.now.nodes.now place c.in-Some.node.now at.0 at.1 ∙ ap (λ n. node_seen n ∷ behind) c.in-Cover.is in
    let takes = c.levels_of.ensures ∙ ap (λ n. levels_of (node_seen n)) c.in-Cover.is in
    let enough = c.if-levels-levels_of.false in
    let some : 0 < c.args.levels = omega (arith, takes, enough) in
    record {
      entered = inner_entered t rows c.args.levels place (cover_node c.in-Cover.cover.simplex c.in-Cover.cover.sheets c.in-Cover.cover.corner (moves_seen c.in-Cover.cover.moves.items)) behind (drop place nodes) c.enter_cover.result some is (c.enter_cover.ensures (c.args.levels - 1) behind);
      levels = inner_levels c.args.levels c.enter_cover.result some;
      inside = if_ok c.enter_cover.result (place < length c.args.walk.now.nodes.now) (ltb-true place (length c.args.walk.now.nodes.now) (sym at.0));
    }

pub returns-in-Balance : goal.returns-in-Balance
returns-in-Balance c =
    let t = c.args.walk.now.task.now in
    let rows = map vec_items c.args.rows.now in
    let place = c.args.place in
    let nodes = nodes_seen c.args.walk.now.nodes.now in
    let behind = drop (place + 1) nodes in
    let at = c.in-Some.ensures.lookup in
    let is = node_there c.args.walk.now.nodes.now place c.in-Some.node.now at.0 at.1 ∙ ap (λ n. node_seen n ∷ behind) c.in-Balance.is in
    record {
      entered = subst (λ ns. IsEntered t rows (c.args.levels - 1) place behind c.enter_balance.result (judged c.args.levels (at_hand t rows) place ns)) (sym is) (c.enter_balance.ensures.entered c.args.levels (c.args.levels - 1) behind);
      levels = c.enter_balance.ensures.levels c.args.levels;
      inside = if_ok c.enter_balance.result (place < length c.args.walk.now.nodes.now) (ltb-true place (length c.args.walk.now.nodes.now) (sym at.0));
    }
