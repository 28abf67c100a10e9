use Rattle.std.proofs.Common.{take, drop, length, ◌-◌, sym, ap, ◌∙◌, arith}
use Rattle.json.specs.Lex.{after_value, after_comma, punctuate}
use Rattle.wf_task_parse.proofs.CursorLemmas.{front, past_comma}
use Rattle.wf_task_parse.proofs.cursor.Cursor.go_on_past_blanks.Goals as goal

pub returns-in-44 : goal.returns-in-44
returns-in-44 c =
    let rest = c.trim_start-rest.result.now in
    ap (punctuate after_comma) c.trim_start-self-inside.ensures
    ∙ sym (past_comma rest (take (length rest - 1) (drop 1 rest)) (front rest 44 c.in-44.len_at_least (omega arith)))
    ∙ ap (punctuate after_value) c.trim_start-rest.ensures
