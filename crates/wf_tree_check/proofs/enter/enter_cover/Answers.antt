use Rattle.std.proofs.Common.{map, sym, ◌∙◌, arith, vec_items}
use Rattle.std.proofs.lemmas.List.{length-map}
use Rattle.wf_tree_steps.specs.Cover.Faults.{moves_seen}
use Rattle.wf_tree_check.proofs.Entering.{cover_none, cover_past}
use Rattle.wf_tree_check.proofs.enter.enter_cover.Goals as goal

pub returns-then-cover-rows : goal.returns-then-cover-rows
returns-then-cover-rows c = λ levels behind.
    let cover = c.args.cover.now in
    let long = length-map c.args.rows.now vec_items in
    let high = c.if-cover-rows.true in
    cover_past c.args.walk.now.task.now (map vec_items c.args.rows.now) cover.simplex cover.sheets cover.corner (moves_seen cover.moves.items) levels c.args.place behind c.requires
    (sym c.symmetric.ensures ∙ c.if-symmetric.false) (omega (arith, long, high))

pub returns-in-Some : goal.returns-in-Some
returns-in-Some c = λ levels behind.
    let cover = c.args.cover.now in
    let long = length-map c.args.rows.now vec_items in
    let low = c.if-cover-rows.false in
    cover_none c.args.walk.now.task.now (map vec_items c.args.rows.now) cover.simplex cover.sheets cover.corner (moves_seen cover.moves.items) levels c.args.place behind c.requires
    (sym c.symmetric.ensures ∙ c.if-symmetric.false) c.in-Some.fault (omega (arith, long, low)) (sym c.in_ok-fault.ensures ∙ c.in-Some.is)
