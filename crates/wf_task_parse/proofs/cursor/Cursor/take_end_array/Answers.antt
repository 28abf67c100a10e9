use Rattle.std.proofs.Common.{take, drop, length, ◌-◌, Some, sym, ap, ◌∙◌, arith}
use Rattle.json.specs.Json.{after_end_array}
use Rattle.wf_task_parse.specs.Cursor.{place_of}
use Rattle.wf_task_parse.proofs.CursorLemmas.{front, first-end_array}
use Rattle.wf_task_parse.proofs.cursor.Cursor.take_end_array.Goals as goal

pub returns-in-93-clause-taken : goal.returns-in-93-clause-taken
returns-in-93-clause-taken c _ =
    let rest = c.self.inside.rest.now in
    ap after_end_array (sym c.self.view_is
    ∙ first-end_array (place_of c.self.inside.place) rest (take (length rest - 1) (drop 1 rest)) (sym c.may_close.ensures ∙ c.if-may_close.true) (front rest 93 c.in-93.len_at_least (omega arith)))
    ∙ ap Some (sym c.move_past_value.ensures)
