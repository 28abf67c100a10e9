use Rattle.std.proofs.Common.{ap₂, ◌∙◌}
use Rattle.wf_simplex.specs.Order.{same_simplex}
use Rattle.wf_simplex.proofs.KeyLemmas.{same_by_keys}
use Rattle.wf_simplex.proofs.simplex.SimplexPartialEq.eq.Goals as goal

pub returns : goal.returns
returns c =
    same_by_keys c.self.inside.key c.other.inside.key c.self.invariant c.other.invariant
    ∙ ap₂ same_simplex c.self.view_is c.other.view_is
