use Rattle.std.proofs.Common.{◌<◌, inl, inr, drop, length, map, string_bytes, arith, vec_items}
use Rattle.std.proofs.lemmas.List.{length-map}
use Rattle.wf_tree_model.specs.Counting.Rules.{rule_at}
use Rattle.wf_tree_model.specs.Splits.{by_stars}
use Rattle.wf_tree_model.specs.Trees.{new_name}
use Rattle.wf_tree_refine.specs.AtHand.{at_hand}
use Rattle.wf_tree_explain.specs.Words.{split_text}
use Rattle.wf_tree_explain.proofs.Telling.{nothing_told, piece_told, split_past, split_there}
use Rattle.wf_tree_explain.proofs.enter.enter_split.Goals as goal

pub returns-then-at-eq0-clause-told : goal.returns-then-at-eq0-clause-told
returns-then-at-eq0-clause-told c = λ next nodes.
    let long = length-map c.args.rows.now vec_items in
    nothing_told (string_bytes c.args.text.now) _ _
    (split_past c.args.walk.now.task.now (map vec_items c.args.rows.now) c.args.simplex c.args.at.depth (drop next nodes) c.requires c.args.at.levels
    (elim c.then-at-eq0.either [ inl none ↦ inl none | inr p ↦ inr (let high = p.1 in omega (arith, long, high)) ]))

pub returns-in_ok-describe_split-in-Ok-clause-told : goal.returns-in_ok-describe_split-in-Ok-clause-told
returns-in_ok-describe_split-in-Ok-clause-told c = λ next nodes.
    let t = c.args.walk.now.task.now in
    let rows = map vec_items c.args.rows.now in
    let n = c.args.simplex in
    let depth = c.args.at.depth in
    let long = length-map c.args.rows.now vec_items in
    let below = c.if-simplex-rows.false in
    let low : n < length rows = omega (arith, long, below) in
    let more = c.if-at-eq0.false in
    let some : 0 < c.args.at.levels = omega (arith, more) in
    let of = c.in-Ok.ensures in
    piece_told (string_bytes c.args.text.now) (string_bytes c.describe_split.new.text) (split_text depth (by_stars (rule_at (at_hand t rows) n) (new_name (at_hand t rows))) (new_name (at_hand t rows))) _ _
    c.in_ok-describe_split-in-Ok.ensures
    (split_there t rows n depth (drop next nodes) c.requires c.args.at.levels (map vec_items c.in-Ok.refined.items) some low of.within of.split)
