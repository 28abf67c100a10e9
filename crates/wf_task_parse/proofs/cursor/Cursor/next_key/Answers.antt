use Rattle.std.proofs.Common.{take, drop, length, ◌-◌, None, Some, sym, ap, ◌∙◌, arith}
use Rattle.json.specs.Json.{read_key}
use Rattle.json.specs.Lex.{fresh, punctuate}
use Rattle.wf_task_parse.specs.Cursor.{place_of}
use Rattle.wf_task_parse.proofs.CursorLemmas.{front, first-end_object, first-key}
use Rattle.wf_task_parse.proofs.cursor.Cursor.next_key.Goals as goal

pub returns-in-125 : goal.returns-in-125
returns-in-125 c =
    let rest = c.self.inside.rest.now in
    ap read_key (sym c.self.view_is
    ∙ first-end_object (place_of c.self.inside.place) rest (take (length rest - 1) (drop 1 rest)) (sym c.may_close.ensures ∙ c.if-may_close.true) (front rest 125 c.in-125.len_at_least (omega arith)))
    ∙ ap (λ ts. Some (None, ts)) (sym c.move_past_value.ensures)

pub returns-in-58 : goal.returns-in-58
returns-in-58 c =
    let text = c.self.inside.rest.now in
    let key = c.in_ok-key-in-34.key.now in
    let mark = c.trim_start.result.now in
    ap read_key (sym c.self.view_is
    ∙ first-key (place_of c.self.inside.place) text mark key (take (length text - 1) (drop 1 text)) c.in_ok-key-in-34.behind.now (take (length mark - 1) (drop 1 mark))
    (sym c.may_begin.ensures ∙ c.if-may_begin.true) (front text 34 c.in-34.len_at_least (omega arith)) c.in_ok-key-in-34.ensures c.trim_start.ensures (front mark 58 c.in-58.len_at_least (omega arith)))
    ∙ ap (λ ls. Some (Some key, punctuate fresh ls)) (sym c.trim_start-self-inside.ensures)
