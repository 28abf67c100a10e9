use Rattle.std.proofs.Common.{map}
use Rattle.wf_task_parse.proofs.TokensOfValues.{takes-list-if}
use Rattle.wf_task_parse.proofs.plain.read_array.Goals as goal

pub returns : goal.returns
returns g c =
    takes-list-if g.T.Shape.reading g.T.Plain.deep (λ l. map g.T.Shape.seen (g.L.Growing.listed l)) c.items.result c.args.cursor.now c.take_begin_array.new.self c.items.new.cursor
    (c.take_begin_array.ensures c.if-not-take_begin_array.false) c.items.ensures
