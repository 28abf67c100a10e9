use Rattle.std.proofs.Common.{◌++◌, ◌<◌, inl, inr, drop, length, map, string_bytes, ap, ◌∙◌, arith, vec_items}
use Rattle.std.proofs.lemmas.List.{length-map}
use Rattle.wf_tree_model.specs.Counting.Rules.{rule_at}
use Rattle.wf_tree_model.specs.Cases.{components}
use Rattle.wf_tree_refine.specs.AtHand.{at_hand}
use Rattle.wf_tree_explain.specs.Words.{case_text}
use Rattle.wf_tree_explain.proofs.Telling.{case_past, case_there, hand_input, nothing_told, piece_told}
use Rattle.wf_tree_explain.proofs.enter.enter_case.Goals as goal

pub returns-then-at-eq0-clause-told : goal.returns-then-at-eq0-clause-told
returns-then-at-eq0-clause-told c = λ next nodes.
    let long = length-map c.args.rows.now vec_items in
    nothing_told (string_bytes c.args.text.now) _ _
    (case_past c.args.walk.now.task.now (map vec_items c.args.rows.now) c.args.simplex c.args.at.depth (drop next nodes) c.requires c.args.at.levels
    (elim c.then-at-eq0.either [ inl none ↦ inl none | inr p ↦ inr (let high = p.1 in omega (arith, long, high)) ]))

pub returns-clause-told : goal.returns-clause-told
returns-clause-told c = λ next nodes.
    let t = c.args.walk.now.task.now in
    let rows = map vec_items c.args.rows.now in
    let n = c.args.simplex in
    let depth = c.args.at.depth in
    let of = rule_at (at_hand t rows) n in
    let long = length-map c.args.rows.now vec_items in
    let below = c.if-simplex-rows.false in
    let low : n < length rows = omega (arith, long, below) in
    let more = c.if-at-eq0.false in
    let some : 0 < c.args.at.levels = omega (arith, more) in
    let old = string_bytes c.args.text.now in
    let s = hand_input t rows c.simplices-simplices.result.now n c.index-simplices-simplex.result c.requires low (c.simplices-simplices.ensures.simplices ∙ c.inputs.ensures.inputs) c.index-simplices-simplex.is in
    piece_told old (string_bytes c.put_case.new.text) (case_text depth of.input (length (components of))) _ _
    (c.in_ok-put_case.ensures ∙ ap (λ u. old ++ case_text depth u c.in_ok-count.count) s ∙ ap (λ k. old ++ case_text depth of.input k) c.in_ok-count.ensures)
    (case_there t rows n depth (drop next nodes) c.requires c.args.at.levels some low)
