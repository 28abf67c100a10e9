use Rattle.std.proofs.Common.{◌++◌, codes, map, string_bytes, ap, ◌∙◌, vec_items}
use Rattle.wf_tree_refine.specs.AtHand.{at_hand}
use Rattle.wf_tree_text.specs.Seen.{nodes_seen}
use Rattle.wf_tree_explain.specs.Words.{signs_text, symmetric_text, title_text, told}
use Rattle.wf_tree_explain.proofs.Pieces.{adds, plus}
use Rattle.wf_tree_explain.proofs.argument.write_obstruction_argument.Goals as goal

pub returns : goal.returns
returns c =
    let t = c.args.task.now in
    let nodes = nodes_seen c.args.nodes.now in
    let t0 = string_bytes c.new-text.result in
    let t1 = string_bytes c.write.new.self in
    let t2 = string_bytes c.put_symmetric.new.text in
    let t3 = string_bytes c.writeln.new.self in
    let t4 = string_bytes c.put_tree.new.text in
    let t5 = string_bytes c.put_signs.new.text in
    let same = ap (λ rows. at_hand t (map vec_items rows)) c.deref.ensures.value ∙ c.in_ok-rows.ensures.same in
    let all =
    (plus (adds t0 t1 title_text c.in_ok-write.ensures.bytes)
    (plus (adds t1 t2 (symmetric_text t.symmetric) (c.in_ok-put_symmetric.ensures ∙ ap (λ b. t1 ++ symmetric_text b) c.symmetric.ensures))
    (plus (adds t2 t3 (codes "\n") c.in_ok-writeln.ensures.bytes)
    (plus (adds t3 t4 (told 64 t 0 nodes).0 (c.in_ok-put_tree.ensures.text ∙ ap (λ u. t3 ++ (told 64 u 0 nodes).0) same)) (adds t4 t5 (signs_text nodes) c.in_ok-put_signs.ensures))))).is in
    record { text = ap (λ v. v.items) c.into_bytes.ensures.value ∙ all ∙ ap (λ x. x ++ (title_text ++ (symmetric_text t.symmetric ++ (codes "\n" ++ ((told 64 t 0 nodes).0 ++ signs_text nodes))))) c.new-text.ensures.bytes }
