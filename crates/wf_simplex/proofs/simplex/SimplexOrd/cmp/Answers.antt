use Rattle.std.proofs.Common.{ap₂, ◌∙◌}
use Rattle.wf_model.specs.Simplex.{simplex_cmp}
use Rattle.wf_simplex.proofs.KeyLemmas.{ordered_by_keys}
use Rattle.wf_simplex.proofs.simplex.SimplexOrd.cmp.Goals as goal

pub returns : goal.returns
returns c =
    c.cmp.ensures ∙ ordered_by_keys c.self.inside.key c.other.inside.key c.self.invariant c.other.invariant
    ∙ ap₂ simplex_cmp c.self.view_is c.other.view_is
