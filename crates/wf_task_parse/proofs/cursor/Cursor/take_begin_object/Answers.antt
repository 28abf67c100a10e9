use Rattle.std.proofs.Common.{◌∷◌, take, drop, length, ◌-◌, sym, ap, ◌∙◌, arith}
use Rattle.json.specs.Token.{begin_object}
use Rattle.json.specs.Lex.{fresh, punctuate}
use Rattle.wf_task_parse.specs.Cursor.{place_of}
use Rattle.wf_task_parse.proofs.CursorLemmas.{front, first-begin_object}
use Rattle.wf_task_parse.proofs.cursor.Cursor.take_begin_object.Goals as goal

pub returns-in-123 : goal.returns-in-123
returns-in-123 c _ =
    let rest = c.self.inside.rest.now in
    sym c.self.view_is
    ∙ first-begin_object (place_of c.self.inside.place) rest (take (length rest - 1) (drop 1 rest)) (sym c.may_begin.ensures ∙ c.if-may_begin.true) (front rest 123 c.in-123.len_at_least (omega arith))
    ∙ ap (λ ls. begin_object ∷ punctuate fresh ls) (sym c.trim_start-self-inside.ensures)
