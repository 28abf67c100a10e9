use Rattle.std.proofs.Common.{[], ◌++◌, ◌+◌, ◌-◌, ◌<◌, drop, length, map, string_bytes, refl, sym, ap, ◌∙◌, subst, arith, vec_items}
use Rattle.std.proofs.lemmas.List.{length-map}
use Rattle.wf_tree_model.specs.Counting.Rules.{rule_at}
use Rattle.wf_tree_model.specs.Cases.{components}
use Rattle.wf_tree_refine.specs.AtHand.{at_hand}
use Rattle.wf_tree_text.specs.Seen.{nodes_seen}
use Rattle.wf_tree_explain.specs.Words.{part_text, told}
use Rattle.wf_tree_explain.specs.Walk.{Tells, left, parts_told}
use Rattle.wf_tree_explain.proofs.Telling.{ended_text, hand_tuples, no_part, node_there, nothing_told, part_more, rest_nodes, rest_text}
use Rattle.wf_tree_explain.proofs.argument.+telling.Goals as goal

pub put_cases-parts-init : goal.put_cases-parts-init
put_cases-parts-init m c =
    let t = at_hand c.args.walk.now.task.now (map vec_items c.args.rows.now) in
    let all = parts_told c.args.at.levels t c.args.at.depth c.args.cases.simplex 0 (components (rule_at t c.args.cases.simplex)) (drop c.args.at.place (nodes_seen c.args.walk.now.nodes.now)) in
    nothing_told (string_bytes c.args.text.now) all all refl

pub put_cases-parts-preserved : goal.put_cases-parts-preserved
put_cases-parts-preserved m c =
    let task = c.args.walk.now.task.now in
    let t = at_hand task (map vec_items c.args.rows.now) in
    let nodes = nodes_seen c.args.walk.now.nodes.now in
    let n = c.args.cases.simplex in
    let parts = components (rule_at t n) in
    let part = c.in_ok-part.part.items in
    let u = at_hand task (map vec_items part) in
    let depth = c.args.at.depth in
    let text = string_bytes c.parts.text in
    let mid = string_bytes c.put_part.new.text in
    let new = string_bytes c.put_tree.new.text in
    let number = c.parts.number in
    let all = parts_told c.args.at.levels t depth n 0 parts (drop c.args.at.place nodes) in
    let below = c.parts-test.true in
    let count = c.requires.count in
    let same = ap (λ rows. at_hand task (map vec_items rows)) c.deref-in-parts.ensures.value in
    let each = c.in_ok-part.ensures.at_hand.each in
    let before = c.requires.at_hand.each in
    let long = length-map part vec_items in
    let longer = length-map c.args.rows.now vec_items in
    let inside = c.requires.simplex in
    let low : n < length part = omega (arith, each, before, long, longer, inside) in
    let tuples = hand_tuples task vec_items part n c.index.result.now c.in_ok-part.ensures.at_hand low c.index.ensures in
    part_more c.args.at.levels t depth n number parts nodes u (string_bytes c.args.text.now) text mid new all c.parts.next c.in_ok-next.next (omega (arith, below, count)) c.in_ok-part.ensures.case
    (c.in_ok-put_part.ensures ∙ ap (λ rows. text ++ part_text depth number rows) (c.deref.ensures.value ∙ sym tuples))
    (c.in_ok-next.ensures.text ∙ ap (λ v. mid ++ (told c.args.at.levels v (depth + 1) (drop c.parts.next nodes)).0) same)
    (c.in_ok-next.ensures.nodes ∙ ap (λ v. (told c.args.at.levels v (depth + 1) (drop c.parts.next nodes)).1) same)
    c.parts.invariant

pub put_cases-returns-clause-text : goal.put_cases-returns-clause-text
put_cases-returns-clause-text m c =
    let t = at_hand c.args.walk.now.task.now (map vec_items c.args.rows.now) in
    let nodes = nodes_seen c.args.walk.now.nodes.now in
    let n = c.args.cases.simplex in
    let parts = components (rule_at t n) in
    let past = c.parts-test.false in
    let count = c.requires.count in
    let none = no_part c.args.at.levels t c.args.at.depth n c.parts.number parts (drop c.parts.next nodes) (omega (arith, past, count)) in
    ended_text (string_bytes c.args.text.now) (string_bytes c.parts.text) (parts_told c.args.at.levels t c.args.at.depth n 0 parts (drop c.args.at.place nodes)) (parts_told c.args.at.levels t c.args.at.depth n c.parts.number (drop c.parts.number parts) (drop c.parts.next nodes))
    (ap (λ e. e.0) none) c.parts.invariant

pub put_cases-returns-clause-nodes : goal.put_cases-returns-clause-nodes
put_cases-returns-clause-nodes m c =
    let t = at_hand c.args.walk.now.task.now (map vec_items c.args.rows.now) in
    let nodes = nodes_seen c.args.walk.now.nodes.now in
    let n = c.args.cases.simplex in
    let parts = components (rule_at t n) in
    let past = c.parts-test.false in
    let count = c.requires.count in
    let none = no_part c.args.at.levels t c.args.at.depth n c.parts.number parts (drop c.parts.next nodes) (omega (arith, past, count)) in
    sym (c.parts.invariant.nodes ∙ ap (λ e. e.1) none)

pub put_tree-returns-in-Done-clause-text : goal.put_tree-returns-in-Done-clause-text
put_tree-returns-in-Done-clause-text m c =
    let hand = at_hand c.args.walk.now.task.now (map vec_items c.args.rows.now) in
    let at = c.in-Some.ensures.lookup in
    let is = node_there c.args.walk.now.nodes.now c.args.at.place c.in-Some.node.now at.0 at.1 in
    let ns = nodes_seen c.args.walk.now.nodes.now in
    let next = c.args.at.place + 1 in
    let told_here = c.in_ok-enter.ensures.told next ns in
    ended_text (string_bytes c.args.text.now) (string_bytes c.enter.new.text) (told c.args.at.levels hand c.args.at.depth (drop c.args.at.place ns)) ([], drop next ns) refl
    (subst (λ rest. Tells (string_bytes c.args.text.now) (string_bytes c.enter.new.text) (told c.args.at.levels hand c.args.at.depth (drop c.args.at.place ns)) rest)
    (ap (left c.args.walk.now.task.now (map vec_items c.args.rows.now) (c.args.at.levels - 1) c.args.at.depth next ns) c.in-Done.is)
    (subst (λ all. Tells (string_bytes c.args.text.now) (string_bytes c.enter.new.text) (told c.args.at.levels hand c.args.at.depth all) (left c.args.walk.now.task.now (map vec_items c.args.rows.now) (c.args.at.levels - 1) c.args.at.depth next ns c.in_ok-enter.field-0)) (sym is) told_here))

pub put_tree-returns-in-Done-clause-nodes : goal.put_tree-returns-in-Done-clause-nodes
put_tree-returns-in-Done-clause-nodes m c =
    let hand = at_hand c.args.walk.now.task.now (map vec_items c.args.rows.now) in
    let at = c.in-Some.ensures.lookup in
    let is = node_there c.args.walk.now.nodes.now c.args.at.place c.in-Some.node.now at.0 at.1 in
    let ns = nodes_seen c.args.walk.now.nodes.now in
    let next = c.args.at.place + 1 in
    sym (ap (λ all. (told c.args.at.levels hand c.args.at.depth all).1) is ∙ (c.in_ok-enter.ensures.told next ns).nodes ∙ ap (λ e. (left c.args.walk.now.task.now (map vec_items c.args.rows.now) (c.args.at.levels - 1) c.args.at.depth next ns e).1) c.in-Done.is)

pub put_tree-returns-in-One-clause-text : goal.put_tree-returns-in-One-clause-text
put_tree-returns-in-One-clause-text m c =
    let hand = at_hand c.args.walk.now.task.now (map vec_items c.args.rows.now) in
    let at = c.in-Some.ensures.lookup in
    let is = node_there c.args.walk.now.nodes.now c.args.at.place c.in-Some.node.now at.0 at.1 in
    let ns = nodes_seen c.args.walk.now.nodes.now in
    let next = c.args.at.place + 1 in
    let old = string_bytes c.args.text.now in
    let mid = string_bytes c.enter.new.text in
    let all = told c.args.at.levels hand c.args.at.depth (drop c.args.at.place ns) in
    let left_over = left c.args.walk.now.task.now (map vec_items c.args.rows.now) (c.args.at.levels - 1) c.args.at.depth next ns in
    let rest = told (c.args.at.levels - 1) (at_hand c.args.walk.now.task.now (map vec_items c.deref.result.now)) c.args.at.depth (drop next ns) in
    let here : Tells old mid all rest =
    subst (Tells old mid all) (ap left_over c.in-One.is ∙ ap (λ rows. told (c.args.at.levels - 1) (at_hand c.args.walk.now.task.now (map vec_items rows)) c.args.at.depth (drop next ns)) (sym c.deref.ensures.value))
    (subst (λ more. Tells old mid (told c.args.at.levels hand c.args.at.depth more) (left_over c.in_ok-enter.field-0)) (sym is) (c.in_ok-enter.ensures.told next ns)) in
    rest_text c.put_tree.result old mid (string_bytes c.put_tree.new.text) all rest here c.put_tree.ensures.text

pub put_tree-returns-in-One-clause-nodes : goal.put_tree-returns-in-One-clause-nodes
put_tree-returns-in-One-clause-nodes m c =
    let hand = at_hand c.args.walk.now.task.now (map vec_items c.args.rows.now) in
    let at = c.in-Some.ensures.lookup in
    let is = node_there c.args.walk.now.nodes.now c.args.at.place c.in-Some.node.now at.0 at.1 in
    let ns = nodes_seen c.args.walk.now.nodes.now in
    let next = c.args.at.place + 1 in
    let old = string_bytes c.args.text.now in
    let mid = string_bytes c.enter.new.text in
    let all = told c.args.at.levels hand c.args.at.depth (drop c.args.at.place ns) in
    let left_over = left c.args.walk.now.task.now (map vec_items c.args.rows.now) (c.args.at.levels - 1) c.args.at.depth next ns in
    let rest = told (c.args.at.levels - 1) (at_hand c.args.walk.now.task.now (map vec_items c.deref.result.now)) c.args.at.depth (drop next ns) in
    let here : Tells old mid all rest =
    subst (Tells old mid all) (ap left_over c.in-One.is ∙ ap (λ rows. told (c.args.at.levels - 1) (at_hand c.args.walk.now.task.now (map vec_items rows)) c.args.at.depth (drop next ns)) (sym c.deref.ensures.value))
    (subst (λ more. Tells old mid (told c.args.at.levels hand c.args.at.depth more) (left_over c.in_ok-enter.field-0)) (sym is) (c.in_ok-enter.ensures.told next ns)) in
    rest_nodes c.put_tree.result old mid ns all rest here c.put_tree.ensures.nodes

pub put_tree-returns-in-Each-clause-text : goal.put_tree-returns-in-Each-clause-text
put_tree-returns-in-Each-clause-text m c =
    let hand = at_hand c.args.walk.now.task.now (map vec_items c.args.rows.now) in
    let at = c.in-Some.ensures.lookup in
    let is = node_there c.args.walk.now.nodes.now c.args.at.place c.in-Some.node.now at.0 at.1 in
    let ns = nodes_seen c.args.walk.now.nodes.now in
    let next = c.args.at.place + 1 in
    let old = string_bytes c.args.text.now in
    let mid = string_bytes c.enter.new.text in
    let all = told c.args.at.levels hand c.args.at.depth (drop c.args.at.place ns) in
    let left_over = left c.args.walk.now.task.now (map vec_items c.args.rows.now) (c.args.at.levels - 1) c.args.at.depth next ns in
    let rest = parts_told (c.args.at.levels - 1) hand c.args.at.depth c.in-Each.cases.simplex 0 (components (rule_at hand c.in-Each.cases.simplex)) (drop next ns) in
    let here : Tells old mid all rest =
    subst (Tells old mid all) (ap left_over c.in-Each.is)
    (subst (λ more. Tells old mid (told c.args.at.levels hand c.args.at.depth more) (left_over c.in_ok-enter.field-0)) (sym is) (c.in_ok-enter.ensures.told next ns)) in
    rest_text c.put_cases.result old mid (string_bytes c.put_cases.new.text) all rest here c.put_cases.ensures.text

pub put_tree-returns-in-Each-clause-nodes : goal.put_tree-returns-in-Each-clause-nodes
put_tree-returns-in-Each-clause-nodes m c =
    let hand = at_hand c.args.walk.now.task.now (map vec_items c.args.rows.now) in
    let at = c.in-Some.ensures.lookup in
    let is = node_there c.args.walk.now.nodes.now c.args.at.place c.in-Some.node.now at.0 at.1 in
    let ns = nodes_seen c.args.walk.now.nodes.now in
    let next = c.args.at.place + 1 in
    let old = string_bytes c.args.text.now in
    let mid = string_bytes c.enter.new.text in
    let all = told c.args.at.levels hand c.args.at.depth (drop c.args.at.place ns) in
    let left_over = left c.args.walk.now.task.now (map vec_items c.args.rows.now) (c.args.at.levels - 1) c.args.at.depth next ns in
    let rest = parts_told (c.args.at.levels - 1) hand c.args.at.depth c.in-Each.cases.simplex 0 (components (rule_at hand c.in-Each.cases.simplex)) (drop next ns) in
    let here : Tells old mid all rest =
    subst (Tells old mid all) (ap left_over c.in-Each.is)
    (subst (λ more. Tells old mid (told c.args.at.levels hand c.args.at.depth more) (left_over c.in_ok-enter.field-0)) (sym is) (c.in_ok-enter.ensures.told next ns)) in
    rest_nodes c.put_cases.result old mid ns all rest here c.put_cases.ensures.nodes
