use Rattle.std.proofs.Common.{◌∷◌, take, drop, length, ◌-◌, sym, ap, ◌∙◌, arith}
use Rattle.json.specs.Token.{begin_array}
use Rattle.json.specs.Lex.{fresh, punctuate}
use Rattle.wf_task_parse.specs.Cursor.{place_of}
use Rattle.wf_task_parse.proofs.CursorLemmas.{front, first-begin_array}
use Rattle.wf_task_parse.proofs.cursor.Cursor.take_begin_array.Goals as goal

pub returns-in-91 : goal.returns-in-91
returns-in-91 c _ =
    let rest = c.self.inside.rest.now in
    sym c.self.view_is
    ∙ first-begin_array (place_of c.self.inside.place) rest (take (length rest - 1) (drop 1 rest)) (sym c.may_begin.ensures ∙ c.if-may_begin.true) (front rest 91 c.in-91.len_at_least (omega arith))
    ∙ ap (λ ls. begin_array ∷ punctuate fresh ls) (sym c.trim_start-self-inside.ensures)
