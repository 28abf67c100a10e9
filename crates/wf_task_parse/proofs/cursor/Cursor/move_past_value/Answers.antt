use Rattle.std.proofs.Common.{take, drop, length, ◌-◌, sym, ap, ◌∙◌, arith}
use Rattle.json.specs.Lex.{after_comma, punctuate}
use Rattle.wf_task_parse.proofs.CursorLemmas.{front, past_comma}
use Rattle.wf_task_parse.proofs.cursor.Cursor.move_past_value.Goals as goal

pub returns-in-44 : goal.returns-in-44
returns-in-44 c =
    let text = c.args.text.now in
    ap (punctuate after_comma) c.trim_start-self-inside.ensures
    ∙ sym (past_comma text (take (length text - 1) (drop 1 text)) (front text 44 c.in-44.len_at_least (omega arith)))
