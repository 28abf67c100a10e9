use Rattle.std.proofs.Common.{◌++◌, codes, string_bytes, ap, ◌∙◌}
use Rattle.wf_model.specs.Lists.{in_order}
use Rattle.wf_tree_steps.specs.Balance.Multipliers.{multipliers_seen}
use Rattle.wf_tree_explain.specs.Words.{count_text, indent_text, lines_text, multiplier_cmp, sum_text}
use Rattle.wf_tree_explain.proofs.Pieces.{adds, adds_on, plus_on}
use Rattle.wf_tree_explain.proofs.balance.put_balance.Goals as goal

pub returns : goal.returns
returns c =
    let t = c.args.task.now in
    let b = c.args.balance.now in
    let depth = c.args.depth in
    let xs = in_order multiplier_cmp (multipliers_seen b.multipliers.items) in
    let lines = c.deref-2.ensures.value ∙ c.in_ok-entries.ensures ∙ ap (λ ys. in_order multiplier_cmp (multipliers_seen ys)) c.deref.ensures.value in
    let t1 = string_bytes c.put_indent.new.text in
    let t2 = string_bytes c.put_count.new.text in
    let t3 = string_bytes c.put_lines.new.text in
    let t4 = string_bytes c.writeln.new.self in
    let t5 = string_bytes c.put_indent-2.new.text in
    (plus_on (adds (string_bytes c.args.text.now) t1 (indent_text depth) c.in_ok-put_indent.ensures)
    (plus_on (adds t1 t2 (count_text b.modulus) c.in_ok-put_count.ensures)
    (plus_on (adds t2 t3 (lines_text t depth xs) (c.in_ok-put_lines.ensures ∙ ap (λ ys. t2 ++ lines_text t depth ys) lines))
    (plus_on (adds t3 t4 (codes ".\n") c.in_ok-writeln.ensures.bytes)
    (plus_on (adds t4 t5 (indent_text depth) c.in_ok-put_indent-2.ensures) (adds_on c.put_sum.result t5 (string_bytes c.put_sum.new.text) (sum_text b.modulus b.sum) c.put_sum.ensures)))))).is
