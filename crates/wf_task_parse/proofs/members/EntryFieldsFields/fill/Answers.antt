use Rattle.std.proofs.lemmas.Result.{IfOk-weaker}
use Rattle.wf_task_parse.proofs.Fields.{entry-input, entry-tuples, tuples_seen}
use Rattle.wf_task_parse.proofs.members.EntryFieldsFields.fill.Goals as goal

pub returns-in-in : goal.returns-in-in
returns-in-in c =
    let took = c.fill in
    IfOk-weaker took.result _ _ (λ sure filled is. entry-input c.args.self.now took.new.field c.args.cursor.now took.new.cursor c.args.key.now c.in-in.is (filled is)) took.ensures

pub returns-in-out : goal.returns-in-out
returns-in-out c =
    let took = c.fill-in-out in
    IfOk-weaker took.result _ _ (λ sure filled is. entry-tuples c.args.self.now took.new.field c.args.cursor.now took.new.cursor c.args.key.now c.in-out.is
    (tuples_seen c.args.self.now.tuples took.new.field c.args.cursor.now took.new.cursor (filled is))) took.ensures
