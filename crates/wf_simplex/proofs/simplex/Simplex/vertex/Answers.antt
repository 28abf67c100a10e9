use Rattle.std.proofs.Common.{[], ◌∷◌, ◌∙◌}
use Rattle.wf_simplex.proofs.KeyLemmas.{is_key, joined_key, simplex_of-key}
use Rattle.wf_simplex.proofs.simplex.Simplex.vertex.Goals as goal

pub invariant_of-result : goal.invariant_of-result
invariant_of-result c =
    is_key c.key_with.result ((c.args.process, c.args.value) ∷ []) (c.key_with.ensures.key ∙ joined_key [] c.args.process c.args.value c.requires) c.requires

pub returns : goal.returns
returns c =
    simplex_of-key c.key_with.result ((c.args.process, c.args.value) ∷ []) (c.key_with.ensures.key ∙ joined_key [] c.args.process c.args.value c.requires) c.requires
