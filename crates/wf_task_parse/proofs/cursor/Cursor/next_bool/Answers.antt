use Rattle.std.proofs.Common.{true, false, ◌∷◌, sym, ap, ◌∙◌}
use Rattle.json.specs.Token.{boolean}
use Rattle.wf_task_parse.specs.Cursor.{place_of}
use Rattle.wf_task_parse.proofs.CursorLemmas.{first-true, first-false}
use Rattle.wf_task_parse.proofs.cursor.Cursor.next_bool.Goals as goal

pub returns-in-Some : goal.returns-in-Some
returns-in-Some c =
    sym c.self.view_is
    ∙ first-true (place_of c.self.inside.place) c.self.inside.rest.now c.in-Some.rest.now (sym c.may_begin.ensures ∙ c.if-not-may_begin.false) c.in-Some.ensures.0 c.in-Some.ensures.1
    ∙ ap (λ ts. boolean true ∷ ts) (sym c.move_past_value.ensures)

pub returns : goal.returns
returns c =
    sym c.self.view_is
    ∙ first-false (place_of c.self.inside.place) c.self.inside.rest.now c.in_ok-rest.rest.now (sym c.may_begin.ensures ∙ c.if-not-may_begin.false) c.in_ok-rest.ensures.0 c.in_ok-rest.ensures.1
    ∙ ap (λ ts. boolean false ∷ ts) (sym c.move_past_value-2.ensures)
