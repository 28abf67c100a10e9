use Rattle.std.proofs.Common.{◌≡◌, ◌++◌, codes, string_bytes, OnOk, subst, ap, ◌∙◌}
use Rattle.wf_tree_explain.specs.Calls.{calls_seen, splitting_of}
use Rattle.wf_tree_explain.specs.Words.{calls_of, calls_text, indent_text, simplex_text}
use Rattle.wf_tree_explain.proofs.Pieces.{adds, adds_on, plus_on}
use Rattle.wf_tree_explain.proofs.split.put_split.Goals as goal

pub returns : goal.returns
returns c =
    let r = c.args.renamed.now in
    let s = splitting_of r in
    let depth = c.args.depth in
    let t1 = string_bytes c.put_indent.new.text in
    let t2 = string_bytes c.write.new.self in
    let t3 = string_bytes c.put_simplex.new.text in
    let t4 = string_bytes c.put_calls.new.text in
    (plus_on (adds (string_bytes c.args.text.now) t1 (indent_text depth) c.in_ok-put_indent.ensures)
    (plus_on (adds t1 t2 (codes "On ") c.in_ok-write.ensures.bytes)
    (plus_on (adds t2 t3 (simplex_text r.simplex.now) c.in_ok-put_simplex.ensures)
    (adds_on c.put_calls.result t3 t4 (calls_text depth s (calls_of s r.new))
    (subst (λ calls. OnOk c.put_calls.result (t4 ≡ t3 ++ calls_text depth s calls)) (ap calls_seen c.deref.ensures.value ∙ c.in_ok-calls.ensures.calls) c.put_calls.ensures))))).is
