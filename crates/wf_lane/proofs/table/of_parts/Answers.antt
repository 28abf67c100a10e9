use Rattle.std.proofs.Common.{◌≡◌, [], ◌∷◌, arith, get_or, refl}
use Rattle.wf_base.specs.Set.Parts.{part_values}
use Rattle.wf_base.specs.Set.Sets.{values_in}
use Rattle.wf_base.proofs.OfSet.Lemmas.{in_four}
use Rattle.wf_lane.proofs.RevisedRows.{each_place}
use Rattle.wf_lane.proofs.table.of_parts.Goals as goal

pub returns : goal.returns
returns c =
    let sets = c.from_set64.result ∷ c.from_set64-2.result ∷ c.from_set64-3.result ∷ c.from_set64-4.result ∷ [] in
    each_place sets c.args.parts refl (omega arith)
    (in_four (λ k. values_in (get_or sets k []) ≡ part_values (get_or c.args.parts k 0)) c.from_set64.ensures c.from_set64-2.ensures c.from_set64-3.ensures c.from_set64-4.ensures)
