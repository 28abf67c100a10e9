use Rattle.std.proofs.Common.{ap, ◌∙◌}
use Rattle.wf_simplex.specs.Entries.{value_at}
use Rattle.wf_simplex.specs.Keys.{entry_of}
use Rattle.wf_simplex.proofs.KeyLemmas.{entry_at, no_entry_at}
use Rattle.wf_simplex.proofs.simplex.Simplex.value.Goals as goal

pub returns-then-process-lt4 : goal.returns-then-process-lt4
returns-then-process-lt4 c =
    c.entry.ensures ∙ ap entry_of c.digit.ensures
    ∙ entry_at c.self.inside.key c.args.process c.if-process-lt4.true
    ∙ ap (λ s. value_at s c.args.process) c.self.view_is

pub returns-else-process-lt4 : goal.returns-else-process-lt4
returns-else-process-lt4 c =
    no_entry_at c.self.inside.key c.args.process c.if-process-lt4.false
    ∙ ap (λ s. value_at s c.args.process) c.self.view_is
