use Rattle.std.proofs.Common.{◌≡◌, ℕ, [], ◌∷◌, MatchOption, Option, None, Some, ap, sym, ◌∙◌}
use Rattle.wf_base.specs.Set.Parts.{part_values}
use Rattle.wf_base.specs.Set.Sets.{values_in}
use Rattle.wf_base.proofs.OfSet.Lemmas.{values_of_part}
use Rattle.wf_network.specs.Revising.{wide_set}
use Rattle.wf_box.proofs.candidates.Set64ValueSet.split_first.Goals as goal

-- the values of a part are those of its set
split_wide : (part : ℕ) (split : Option (ℕ × ℕ)) → MatchOption split (part_values part ≡ []) (λ r. part_values part ≡ r.0 ∷ part_values r.1)
    → MatchOption split (values_in (wide_set part) ≡ []) (λ r. values_in (wide_set part) ≡ r.0 ∷ values_in (wide_set r.1))
split_wide part None is = values_of_part part ∙ is
split_wide part (Some split) is = values_of_part part ∙ is ∙ ap (λ vs. split.0 ∷ vs) (sym (values_of_part split.1))

pub returns : goal.returns
returns c = split_wide c.args.self c.split_first.result c.split_first.ensures.split
