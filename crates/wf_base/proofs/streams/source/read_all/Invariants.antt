use Rattle.std.proofs.Common.{◌≡◌, ◌-◌, ◌+◌, ◌≤◌, vec_len}
use Rattle.std.specs.Io.KnownBytes.{Consumes}
use Rattle.wf_base.proofs.streams.source.read_all.Given as goal

abbrev pub invariant-loop-piece : goal.invariant-loop-piece
invariant-loop-piece g l = (vec_len l.text ≤ l.most + 1) × Consumes l.initial.source.left l.source.left l.text.items
    × (l.source.taken ≡ l.initial.source.taken + vec_len l.text) × (l.source.failures ≡ l.initial.source.failures)

abbrev pub decreases-loop-piece : goal.decreases-loop-piece
decreases-loop-piece g l = l.most + 1 - vec_len l.text
