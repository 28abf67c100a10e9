use Rattle.std.proofs.Common.{◌≡◌, suc, ◌+◌, ◌∙◌, ◌∷◌, ◌++◌, [], Some, None, length, length-append, sym, ap, arith}
use Rattle.wf_model.specs.Report.{same_text}
use Rattle.wf_tree_text.specs.Seen.{nodes_seen}
use Rattle.wf_tree_text.specs.Steps.{changed, next_in}
use Rattle.wf_tree_text.proofs.LinesOfNodes.{next_longer}
use Rattle.wf_tree_text.proofs.NodeLines.{at_bad, at_line, cut_off}
use Rattle.wf_tree_text.proofs.reading.read_nodes.Goals as goal

pub returns-then-not-branch-clause-nodes : goal.returns-then-not-branch-clause-nodes
returns-then-not-branch-clause-nodes c =
    let nodes = nodes_seen c.lines.nodes.items in
    let found = c.in-Some.found.now in
    let bad : next_in nodes (found ++ 10 ∷ []) ≡ None = sym c.in_ok-add_text_line.ensures ∙ ap (λ t. changed t (nodes_seen c.add_text_line.new.nodes.items)) c.if-not-branch.true in
    sym c.lines.invariant.0
    ∙ at_bad nodes c.lines.at c.lines.rest.now found c.in-Some.others.now c.in-Some.ensures.cases.0 c.in-Some.ensures.cases.1 (sym (ap (same_text found) c.as_slice.ensures) ∙ sym c.eq.ensures ∙ c.if-eq.false) bad

pub lines-preserved : goal.lines-preserved
lines-preserved c =
    let nodes = nodes_seen c.lines.nodes.items in
    let more = nodes_seen c.add_text_line.new.nodes.items in
    let found = c.in-Some.found.now in
    let others = c.in-Some.others.now in
    let good : next_in nodes (found ++ 10 ∷ []) ≡ Some more = sym c.in_ok-add_text_line.ensures ∙ ap (λ t. changed t more) c.if-not-branch.false in
    let shorter : length c.lines.rest.now ≡ length found + suc (length others) = ap length c.in-Some.ensures.cases.0 ∙ length-append found (10 ∷ others) in
    let longer = next_longer nodes (found ++ 10 ∷ []) more good in (
      sym (at_line nodes c.lines.at c.lines.rest.now found others c.in-Some.ensures.cases.0 c.in-Some.ensures.cases.1 more (sym (ap (same_text found) c.as_slice.ensures) ∙ sym c.eq.ensures ∙ c.if-eq.false) good)
          ∙ c.lines.invariant.0,
      omega (arith, shorter, c.lines.invariant.1),
      omega (arith, shorter, longer, c.lines.invariant.2),
    )

pub returns-clause-nodes : goal.returns-clause-nodes
returns-clause-nodes c = sym c.lines.invariant.0 ∙ cut_off c.lines.at (nodes_seen c.lines.nodes.items) c.lines.rest.now c.in_default.ensures.cases
