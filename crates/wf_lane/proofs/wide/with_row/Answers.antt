use Rattle.std.proofs.Common.{◌≡◌, ℕ, [], ◌∷◌, get_or, arith, refl}
use Rattle.std.specs.Prelude.{◌||◌, ◌&&◌}
use Rattle.wf_model.specs.Lists.{has}
use Rattle.wf_model.specs.Box.{has_at}
use Rattle.wf_base.specs.Set.Sets.{values_in}
use Rattle.wf_base.proofs.OfSet.Lemmas.{in_four}
use Rattle.wf_lane.proofs.WideLaws.{each_set}
use Rattle.wf_lane.proofs.wide.with_row.Goals as goal

pub returns : goal.returns
returns c =
    let sets = c.args.sets in
    let row = c.args.row.now in
    let more = c.with_value.result ∷ c.with_value-2.result ∷ c.with_value-3.result ∷ c.with_value-4.result ∷ [] in
    each_set sets more row c.args.is_alive (omega arith) refl c.requires
    (in_four (λ k. (v : ℕ) → has (values_in (get_or more k [])) v ≡ (has (values_in (get_or sets k [])) v || (has_at row k v && c.args.is_alive)))
    c.with_value.ensures c.with_value-2.ensures c.with_value-3.ensures c.with_value-4.ensures)
