use Rattle.std.proofs.Common.{ap, refl, ◌∙◌}
use Rattle.wf_lane.specs.Words.{ors}
use Rattle.wf_lane.proofs.column.Column.whole.Goals as goal

pub returns-clause-whole : goal.returns-clause-whole
returns-clause-whole c = record { none = refl; whole = c.join_all-values.ensures ∙ ap ors c.deref.ensures.value; empty = c.new.ensures.items }
