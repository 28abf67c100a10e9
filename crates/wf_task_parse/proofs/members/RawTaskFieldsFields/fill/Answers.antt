use Rattle.std.proofs.lemmas.Result.{IfOk-weaker}
use Rattle.wf_task_parse.proofs.Fields.{draft-version, draft-least_block, draft-processes, draft-symmetric, draft-inputs, draft-outputs, draft-delta}
use Rattle.wf_task_parse.proofs.members.RawTaskFieldsFields.fill.Goals as goal

pub returns-in-version : goal.returns-in-version
returns-in-version c =
    let took = c.fill in
    IfOk-weaker took.result _ _ (λ sure filled is. draft-version c.args.self.now took.new.field c.args.cursor.now took.new.cursor c.args.key.now c.in-version.is (filled is)) took.ensures

pub returns-in-first_block : goal.returns-in-first_block
returns-in-first_block c =
    let took = c.fill-in-first_block in
    IfOk-weaker took.result _ _ (λ sure filled is. draft-least_block c.args.self.now took.new.field c.args.cursor.now took.new.cursor c.args.key.now c.in-first_block.is (filled is)) took.ensures

pub returns-in-processes : goal.returns-in-processes
returns-in-processes c =
    let took = c.fill-in-processes in
    IfOk-weaker took.result _ _ (λ sure filled is. draft-processes c.args.self.now took.new.field c.args.cursor.now took.new.cursor c.args.key.now c.in-processes.is (filled is)) took.ensures

pub returns-in-symmetric : goal.returns-in-symmetric
returns-in-symmetric c =
    let took = c.fill-in-symmetric in
    IfOk-weaker took.result _ _ (λ sure filled is. draft-symmetric c.args.self.now took.new.field c.args.cursor.now took.new.cursor c.args.key.now c.in-symmetric.is (filled is)) took.ensures

pub returns-in-inputs : goal.returns-in-inputs
returns-in-inputs c =
    let took = c.fill-in-inputs in
    IfOk-weaker took.result _ _ (λ sure filled is. draft-inputs c.args.self.now took.new.field c.args.cursor.now took.new.cursor c.args.key.now c.in-inputs.is (filled is)) took.ensures

pub returns-in-outputs : goal.returns-in-outputs
returns-in-outputs c =
    let took = c.fill-in-outputs in
    IfOk-weaker took.result _ _ (λ sure filled is. draft-outputs c.args.self.now took.new.field c.args.cursor.now took.new.cursor c.args.key.now c.in-outputs.is (filled is)) took.ensures

pub returns-in-delta : goal.returns-in-delta
returns-in-delta c =
    let took = c.fill-in-delta in
    IfOk-weaker took.result _ _ (λ sure filled is. draft-delta c.args.self.now took.new.field c.args.cursor.now took.new.cursor c.args.key.now c.in-delta.is (filled is)) took.ensures
