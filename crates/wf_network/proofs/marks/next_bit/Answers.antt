use Rattle.std.proofs.Common.{arith, ◌∙◌}
use Rattle.std.proofs.Common.{sym}
use Rattle.wf_network.proofs.MarkLemmas.{found_none, none_further, if_next_from, last_from}
use Rattle.wf_network.proofs.marks.next_bit.Goals as goal

pub words-preserved : goal.words-preserved
words-preserved c = (
  omega (arith, c.words.invariant.0),
  omega (arith, c.words-test.true, c.requires.few),
  none_further c.args.words.now c.args.from c.words.from c.words.invariant.2 (found_none _ _ (sym c.is_some.ensures ∙ c.if-is_some.false) c.first_here-found.ensures.last),
)

pub returns-then-is_some-clause-next : goal.returns-then-is_some-clause-next
returns-then-is_some-clause-next c = if_next_from c.args.words.now c.args.from c.words.from c.first_here-found.result c.words.invariant.0 c.words.invariant.2 c.first_here-found.ensures.next

pub returns-clause-last : goal.returns-clause-last
returns-clause-last c = last_from c.args.words.now c.args.from c.words.from c.words.invariant.2 (omega (arith, c.words-test.false))
