use Rattle.std.proofs.Common.{◌≡◌, [], ◌∷◌, filter, not}
use Rattle.wf_model.specs.Lists.{has}
use Rattle.wf_base.specs.Set.Parts.{part_values}
use Rattle.wf_base.proofs.OfSet.SetLaws.{in_four, part_of, values_lacked}
use Rattle.wf_base.proofs.set.difference.Goals as goal

pub returns : goal.returns
returns c =
    let kept = c.difference.result ∷ c.difference-2.result ∷ c.difference-3.result ∷ c.difference-4.result ∷ [] in
    values_lacked c.args.set c.args.other kept
    (in_four (λ k. part_values (part_of kept k) ≡ filter (λ v. not (has (part_values (part_of c.args.other k)) v)) (part_values (part_of c.args.set k)))
    c.difference.ensures c.difference-2.ensures c.difference-3.ensures c.difference-4.ensures)
