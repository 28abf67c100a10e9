use Rattle.std.proofs.Common.{◌≡◌, ◌++◌, codes, string_bytes, OnOk, subst}
use Rattle.wf_tree_steps.specs.Cover.Faults.{moves_seen}
use Rattle.wf_tree_explain.specs.Words.{at_text, indent_text, lying_text, moves_text, naming_text, simplex_text}
use Rattle.wf_tree_explain.proofs.Pieces.{adds, adds_on, plus_on}
use Rattle.wf_tree_explain.proofs.cover.put_cover.Goals as goal

pub returns : goal.returns
returns c =
    let s = c.args.simplex.now in
    let cover = c.args.cover.now in
    let depth = c.args.depth in
    let t1 = string_bytes c.put_indent.new.text in
    let t2 = string_bytes c.write.new.self in
    let t3 = string_bytes c.put_simplex.new.text in
    let t4 = string_bytes c.write-2.new.self in
    let t5 = string_bytes c.put_process.new.text in
    let t6 = string_bytes c.write-3.new.self in
    let t7 = string_bytes c.put_moves.new.text in
    (plus_on (adds (string_bytes c.args.text.now) t1 (indent_text depth) c.in_ok-put_indent.ensures)
    (plus_on (adds t1 t2 (codes "On ") c.in_ok-write.ensures.bytes)
    (plus_on (adds t2 t3 (simplex_text s) c.in_ok-put_simplex.ensures)
    (plus_on (adds t3 t4 (lying_text cover.sheets) c.in_ok-write-2.ensures.bytes)
    (plus_on (adds t4 t5 (at_text s cover.corner) c.in_ok-put_process.ensures)
    (plus_on (adds t5 t6 (naming_text c.args.new) c.in_ok-write-3.ensures.bytes)
    (adds_on c.put_moves.result t6 t7 (moves_text depth s (moves_seen cover.moves.items))
    (subst (λ ms. OnOk c.put_moves.result (t7 ≡ t6 ++ moves_text depth s (moves_seen ms))) c.deref.ensures.value c.put_moves.ensures)))))))).is
