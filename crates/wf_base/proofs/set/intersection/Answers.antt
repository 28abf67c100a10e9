use Rattle.std.proofs.Common.{◌≡◌, [], ◌∷◌, filter}
use Rattle.wf_model.specs.Lists.{has}
use Rattle.wf_base.specs.Set.Parts.{part_values}
use Rattle.wf_base.proofs.OfSet.SetLaws.{in_four, part_of, values_met}
use Rattle.wf_base.proofs.set.intersection.Goals as goal

pub returns : goal.returns
returns c =
    let kept = c.intersection.result ∷ c.intersection-2.result ∷ c.intersection-3.result ∷ c.intersection-4.result ∷ [] in
    values_met c.args.set c.args.other kept
    (in_four (λ k. part_values (part_of kept k) ≡ filter (has (part_values (part_of c.args.other k))) (part_values (part_of c.args.set k)))
    c.intersection.ensures c.intersection-2.ensures c.intersection-3.ensures c.intersection-4.ensures)
