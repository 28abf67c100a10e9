use Rattle.std.proofs.Common.{◌≡◌, [], ◌++◌, OnOk, string_bytes, sym, subst, ap, ◌∙◌}
use Rattle.std.specs.List.{remove}
use Rattle.wf_model.specs.Simplex.{Simplex}
use Rattle.wf_tree_explain.specs.Words.{equation_text}
use Rattle.wf_tree_explain.proofs.FacesInWords.{none_removed}
use Rattle.wf_tree_explain.proofs.InputsInWords.{input_there, no_input}
use Rattle.wf_tree_explain.proofs.equations.put_equation_at.Goals as goal

pub returns-in_ok-write-in-None : goal.returns-in_ok-write-in-None
returns-in_ok-write-in-None c =
    let xs = c.args.entries.now in
    let none = no_input c.args.task.now c.simplices.result.now c.args.simplex (c.simplices.ensures.simplices ∙ c.inputs.ensures.inputs) c.in-None.ensures.lookup.0 in
    c.in_ok-write-in-None.ensures.bytes
    ∙ ap (λ face. string_bytes c.args.text.now ++ equation_text [] face xs) (sym (none_removed c.args.place))
    ∙ ap (λ (s : Simplex). string_bytes c.args.text.now ++ equation_text s (remove s c.args.place) xs) (sym none)

pub returns-in-Some : goal.returns-in-Some
returns-in-Some c =
    let at = c.in-Some.ensures.lookup in
    let is = input_there c.args.task.now c.simplices.result.now c.args.simplex c.in-Some.simplex.now (c.simplices.ensures.simplices ∙ c.inputs.ensures.inputs) at.0 at.1 in
    subst (λ s. OnOk c.put_equation.result (string_bytes c.put_equation.new.text ≡ string_bytes c.args.text.now ++ equation_text s (remove s c.args.place) c.args.entries.now)) is c.put_equation.ensures
