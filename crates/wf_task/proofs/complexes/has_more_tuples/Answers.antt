use Rattle.std.proofs.Common.{length, ap, arith}
use Rattle.std.proofs.lemmas.List.{length-map}
use Rattle.wf_task_parse.specs.DraftSeen.{entry_seen}
use Rattle.wf_task.proofs.Sizes.{more_than_left}
use Rattle.wf_task.proofs.complexes.has_more_tuples.Goals as goal

pub returns-then-tuples-left : goal.returns-then-tuples-left
returns-then-tuples-left c =
    let entry = c.entry-item.result in
    let long = length-map entry.tuples.items (λ t. t.items) in
    more_than_left (λ rule. length rule.tuples) entry_seen c.args.delta.now c.loop-entry.entry-index entry c.loop-entry.left c.args.most
    c.loop-entry-test.true c.entry-item.is c.loop-entry.invariant (omega (arith, long, c.if-tuples-left.true, ap length c.as_slice-tuples.ensures.value))
