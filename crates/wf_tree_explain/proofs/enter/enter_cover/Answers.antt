use Rattle.std.proofs.Common.{◌++◌, ◌<◌, inl, inr, drop, length, map, string_bytes, sym, ap, ◌∙◌, arith, vec_items}
use Rattle.std.proofs.lemmas.List.{length-map}
use Rattle.wf_tree_model.specs.Counting.Rules.{rule_at}
use Rattle.wf_tree_model.specs.Trees.{new_name}
use Rattle.wf_tree_refine.specs.AtHand.{at_hand}
use Rattle.wf_tree_steps.specs.Cover.Faults.{moves_seen}
use Rattle.wf_tree_explain.specs.Words.{cover_text}
use Rattle.wf_tree_explain.proofs.Telling.{cover_past, cover_there, hand_input, none_from, nothing_told, piece_told}
use Rattle.wf_tree_explain.proofs.enter.enter_cover.Goals as goal

pub returns-then-at-eq0-clause-told : goal.returns-then-at-eq0-clause-told
returns-then-at-eq0-clause-told c = λ next nodes.
    let cover = c.args.cover.now in
    let long = length-map c.args.rows.now vec_items in
    nothing_told (string_bytes c.args.text.now) _ _
    (cover_past c.args.walk.now.task.now (map vec_items c.args.rows.now) cover.simplex c.args.at.depth (drop next nodes) c.requires cover.sheets cover.corner (moves_seen cover.moves.items) c.args.at.levels
    (elim c.then-at-eq0.either [ inl none ↦ inl none | inr p ↦ inr (let high = p.1 in omega (arith, long, high)) ]))

pub returns-in_ok-put_cover-in-Ok-clause-told : goal.returns-in_ok-put_cover-in-Ok-clause-told
returns-in_ok-put_cover-in-Ok-clause-told c = λ next nodes.
    let t = c.args.walk.now.task.now in
    let rows = map vec_items c.args.rows.now in
    let cover = c.args.cover.now in
    let moves = moves_seen cover.moves.items in
    let depth = c.args.at.depth in
    let hand = at_hand t rows in
    let input = (rule_at hand cover.simplex).input in
    let long = length-map c.args.rows.now vec_items in
    let below = c.if-simplex-rows.false in
    let low : cover.simplex < length rows = omega (arith, long, below) in
    let more = c.if-at-eq0.false in
    let some : 0 < c.args.at.levels = omega (arith, more) in
    let of = c.in-Ok.ensures in
    let old = string_bytes c.args.text.now in
    let none = sym c.in_ok-cover_fault.ensures ∙ none_from c.in_ok-cover_fault.field-0 (sym c.is_some.ensures ∙ c.if-is_some.false) in
    let s = hand_input t rows c.simplices-simplices.result.now cover.simplex c.index-simplices-simplex.result c.requires low (c.simplices-simplices.ensures.simplices ∙ c.inputs.ensures.inputs) c.index-simplices-simplex.is in
    piece_told old (string_bytes c.put_cover.new.text) (cover_text depth input (new_name hand) cover.sheets cover.corner moves) _ _
    (c.in_ok-put_cover-in-Ok.ensures ∙ ap (λ u. old ++ cover_text depth u c.new_name-new.result cover.sheets cover.corner moves) s ∙ ap (λ k. old ++ cover_text depth input k cover.sheets cover.corner moves) c.new_name-new.ensures.name)
    (cover_there t rows cover.simplex depth (drop next nodes) c.requires cover.sheets cover.corner moves c.args.at.levels (map vec_items c.in-Ok.refined.items) some low none of.within of.covered)
