use Rattle.std.proofs.Common.{arith}
use Rattle.wf_complex.proofs.Entries.{entry_small, input_read, no_input_read}
use Rattle.wf_complex.proofs.views.Views.input.Goals as goal

pub overflow_cast-result : goal.overflow_cast-result
overflow_cast-result c =
    let small = entry_small c.args.id c.entry-node.result.now c.entry-node.ensures.entry c.if-node-eq0.true in
    omega (arith, small)

pub returns-then-node-eq0 : goal.returns-then-node-eq0
returns-then-node-eq0 c = record { value = input_read c.args.self.now c.args.id c.entry-node.result.now c.entry-node.ensures.entry c.entry-node.ensures.view c.if-node-eq0.true }

pub returns-else-node-eq0 : goal.returns-else-node-eq0
returns-else-node-eq0 c = record { value = no_input_read c.args.self.now c.args.id c.entry-node.result.now c.entry-node.ensures.entry c.entry-node.ensures.view c.if-node-eq0.false }
