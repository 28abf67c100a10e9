use Rattle.std.proofs.Common.{◌≡◌, ℕ, List, [], ◌∷◌, ◌++◌, true, false, codes, ⊎_elim, sym, ap, ◌∙◌}
use Rattle.wf_model.specs.Report.{line, lines_of, same_text}
use Rattle.wf_report.specs.Reading.{lacks}
use Rattle.wf_report.proofs.Lemmas.{last_piece, lines_cut, not_ended, same_ended}
use Rattle.wf_tree_text.specs.Text.{begins_as_obstruction, begins_with}
use Rattle.wf_tree_text.proofs.front.is_obstruction_text.Goals as goal

no_first_line : (text : List ℕ) → lacks 10 text ≡ true → begins_as_obstruction text ≡ false
no_first_line text h =
    let wanted = line (codes "wfcheck obstruction 1") [] in
    ⊎_elim
    (λ (e : lines_of text ≡ []). ap (begins_with wanted) e)
    (λ (e : lines_of text ≡ text ∷ []). ap (begins_with wanted) e ∙ not_ended text (codes "wfcheck obstruction 1") h)
    (last_piece text h)

first_line_is : (text found rest : List ℕ) → text ≡ found ++ 10 ∷ rest → lacks 10 found ≡ true → begins_as_obstruction text ≡ same_text found (codes "wfcheck obstruction 1")
first_line_is text found rest is h =
    ap begins_as_obstruction is ∙ ap (begins_with (line (codes "wfcheck obstruction 1") [])) (lines_cut found rest h) ∙ same_ended found (codes "wfcheck obstruction 1")

pub returns-in_default : goal.returns-in_default
returns-in_default c = sym (no_first_line c.args.text.now c.in_default.ensures.cases)

pub returns : goal.returns
returns c =
    c.eq.ensures
    ∙ ap (same_text c.in-Some.found.now) c.as_bytes.ensures.value
    ∙ sym (first_line_is c.args.text.now c.in-Some.found.now c.in-Some._rest.now c.in-Some.ensures.cases.0 c.in-Some.ensures.cases.1)
