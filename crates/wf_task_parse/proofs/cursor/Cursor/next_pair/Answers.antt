use Rattle.std.proofs.Common.{◌+◌, ◌∷◌, take, drop, length, ◌-◌, sym, ap, ◌∙◌, arith}
use Rattle.std.specs.Fmt.{decimal}
use Rattle.json.specs.Token.{begin_array, end_array, number}
use Rattle.wf_task_parse.specs.Cursor.{place_of}
use Rattle.wf_task_parse.proofs.CursorLemmas.{front_five, first-pair}
use Rattle.wf_task_parse.proofs.cursor.Cursor.next_pair.Goals as goal

pub returns-in-91-clause-taken : goal.returns-in-91-clause-taken
returns-in-91-clause-taken c =
    let text = c.self.inside.rest.now in
    let x = c.digit_value.result in
    let y = c.digit_value-in-91.result in
    let one = c.digit_value.ensures in
    let two = c.digit_value-in-91.ensures in (
      one.digit,
      two.digit,
      sym c.self.view_is
          ∙ first-pair (place_of c.self.inside.place) text (take (length text - 5) (drop 5 text)) x y one.digit two.digit (sym c.may_begin.ensures ∙ c.if-may_begin.true)
          (front_five text 91 (48 + x) 44 (48 + y) 93 (omega arith) (omega arith) (omega (arith, one.value)) (omega arith) (omega (arith, two.value)) (omega arith))
          ∙ ap (λ ts. begin_array ∷ number (decimal x) ∷ number (decimal y) ∷ end_array ∷ ts) (sym c.move_past_value.ensures),
    )
