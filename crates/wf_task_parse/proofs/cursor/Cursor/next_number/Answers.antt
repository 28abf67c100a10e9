use Rattle.std.proofs.Common.{◌∷◌, sym, ap, ◌∙◌}
use Rattle.std.specs.Fmt.{decimal}
use Rattle.json.specs.Token.{number}
use Rattle.wf_task_parse.specs.Cursor.{place_of}
use Rattle.wf_task_parse.proofs.CursorLemmas.{first-number}
use Rattle.wf_task_parse.proofs.cursor.Cursor.next_number.Goals as goal

pub returns : goal.returns
returns c =
    let n = c.in_ok-value.value in
    let found = c.in_ok-value.ensures in (
      found.0,
      sym c.self.view_is
          ∙ first-number (place_of c.self.inside.place) c.self.inside.rest.now c.in_ok-value.rest.now n found.0 (sym c.may_begin.ensures ∙ c.if-not-may_begin.false) found.1 found.2
          ∙ ap (λ ts. number (decimal n) ∷ ts) (sym c.move_past_value.ensures),
    )
