use Rattle.std.proofs.Common.{◌≡◌, ◌++◌, OnOk, string_bytes, subst, ap, ◌∙◌}
use Rattle.std.specs.List.{remove}
use Rattle.wf_tree_model.specs.Balance.{Multiplier, input_of}
use Rattle.wf_tree_explain.specs.Words.{equation_text, first_of, times_text}
use Rattle.wf_tree_explain.proofs.Pieces.{adds, adds_on, plus_on}
use Rattle.wf_tree_explain.proofs.equations.put_equations.Goals as goal

pub returns : goal.returns
returns c =
    let t = c.args.task.now in
    let xs = c.args.entries.now in
    let x = first_of xs in
    let is = c.first.view_is ∙ c.first_of-first.ensures in
    let t1 = string_bytes c.put_equation_at.new.text in
    let t2 = string_bytes c.put_times.new.text in
    (plus_on
    (adds (string_bytes c.args.text.now) t1 (equation_text (input_of t x) (remove (input_of t x) x.place) xs)
    (c.in_ok-put_equation_at.ensures ∙ ap (λ (y : Multiplier). string_bytes c.args.text.now ++ equation_text (input_of t y) (remove (input_of t y) y.place) xs) is))
    (adds_on c.put_times.result t1 t2 (times_text x.weight)
    (subst (λ (y : Multiplier). OnOk c.put_times.result (t2 ≡ t1 ++ times_text y.weight)) is c.put_times.ensures))).is
