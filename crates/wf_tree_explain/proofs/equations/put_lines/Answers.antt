use Rattle.std.proofs.Common.{◌≡◌, ◌++◌, ◌-◌, ◌∷◌, List, drop, length, length-drop, length-take, string_bytes, subst, take, take_all, ap, ◌∙◌, arith}
use Rattle.wf_tree_model.specs.Balance.{Multiplier}
use Rattle.wf_tree_explain.specs.Lists.{lines_of}
use Rattle.wf_tree_explain.specs.Words.{equations_text}
use Rattle.wf_tree_explain.proofs.ListsInWords.{two_added}
use Rattle.wf_tree_explain.proofs.Runs.{next_line}
use Rattle.wf_tree_explain.proofs.equations.put_lines.Goals as goal

pub lines-preserved : goal.lines-preserved
lines-preserved c =
    let task = c.args.task.now in
    let xs = c.args.entries.now in
    let told = c.lines.told in
    let n = c.line_length-count.result in
    let t = string_bytes c.put_start.new.text in
    let rest : take (length xs - told) (drop told xs) ≡ drop told xs = take_all (length xs - told) (drop told xs) (omega (arith, length-drop told xs)) in
    let first : List Multiplier → Type 0 = λ ys. lines_of ys ≡ take n ys ∷ lines_of (drop n ys) in
    record {
      text =
          two_added (string_bytes c.lines.text) t (string_bytes c.put_equations.new.text) _ _ _ _ _
          c.in_ok-put_start.ensures
          (c.in_ok-put_equations.ensures ∙ ap (λ ys. t ++ equations_text task (take n ys)) rest)
          (next_line task c.args.depth xs told n c.line_length-count.ensures.some (subst first rest c.line_length-count.ensures.first)) c.lines.invariant.text;
      within = omega (arith, c.line_length-count.ensures.within, length-drop told xs, length-take (length xs - told) (drop told xs), c.lines.invariant.within);
    }
