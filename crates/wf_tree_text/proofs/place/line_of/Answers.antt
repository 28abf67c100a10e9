use Rattle.std.proofs.Common.{◌∙◌, length, take, ap, arith}
use Rattle.std.proofs.lemmas.List.{at_drop_all, take-map, take_min}
use Rattle.wf_tree_text.specs.Seen.{node_seen, nodes_seen}
use Rattle.wf_tree_text.specs.Text.{lines_of_nodes}
use Rattle.wf_tree_text.proofs.LinesOfNodes.{no_more}
use Rattle.wf_tree_text.proofs.place.line_of.Goals as goal

pub loop-before-init : goal.loop-before-init
loop-before-init c =
    let nodes = c.args.nodes.now in
    let n = c.args.node in
    let fewer = no_more (nodes_seen nodes) n in
    let seen = ap (λ ns. length (lines_of_nodes ns)) (take-map node_seen n nodes) in
    let all = ap (λ ns. length (lines_of_nodes (nodes_seen ns))) (ap (λ m. take m nodes) c.min.ensures ∙ take_min n nodes) in
    (omega (arith, all), omega (arith, fewer, seen, c.requires.few))

pub returns : goal.returns
returns c =
    let nodes = c.args.nodes.now in
    let n = c.args.node in
    let seen = ap (λ ns. length (lines_of_nodes ns)) (take-map node_seen n nodes) in
    let none_left = at_drop_all (λ ns. length (lines_of_nodes (nodes_seen ns))) (take c.min.result nodes) c.loop-before.before-index c.loop-before-test.false in
    omega (arith, seen, none_left, c.loop-before.invariant.0)
