use Rattle.std.proofs.Common.{◌≡◌, ◌<◌, ◌+◌, ◌++◌, false, true, drop, get_or, length, take, ap, sym, ◌∙◌, arith}
use Rattle.std.proofs.Math.ListN.{length-set, set}
use Rattle.wf_tree_model.specs.Counting.Signs.{keep}
use Rattle.wf_tree_refine.proofs.PartFaces.{place_kept, place_left}
use Rattle.wf_tree_refine.proofs.faces.restricted_row.Goals as goal
use Rattle.wf_tree_refine.proofs.faces.restricted_row.Goals.{then-mask-from, else-mask-from}

pub bounds-mask-from : goal.bounds-mask-from
bounds-mask-from c =
    let low = c.places-test.true in
    let size = c.size-place-end.ensures.count in
    let long = c.requires.long in
    let is = c.from.ensures in
    omega (arith, low, size, long, is)

pub places-preserved : goal.places-preserved
places-preserved c =
    let mask = c.args.mask.now in
    let row = c.args.row.now in
    let place = c.places.place in
    let before = c.places.invariant in
    let low = c.places-test.true in
    let size = c.size-place-end.ensures.count in
    let most = c.size-place-end.ensures.few in
    let long = c.requires.long in
    let few = before.few in
    let room = before.room in
    let inside : place < length mask = omega (arith, low, size, long) in
    elim c.if-mask-from.branch [
      | then-mask-from w ↦
          let is : get_or mask place false ≡ true = ap (λ n. get_or mask n false) (sym c.from.ensures) ∙ w.if-mask-from.true in
          record {
            room = ap length w.values-is ∙ length-set c.places.values c.places.size w.value.result ∙ room;
            few = omega (arith, w.size-is, few);
            made = ap (λ n. take n c.if-mask-from.values ++ keep (drop (place + 1) mask) (drop (place + 1) row)) w.size-is
                ∙ place_kept mask row place c.places.values c.if-mask-from.values c.places.size _ inside long (omega (arith, room, few, low, most)) is (w.values-is ∙ ap (set c.places.values c.places.size) w.value.ensures) before.made;
          }
      | else-mask-from w ↦
          let is : get_or mask place false ≡ false = ap (λ n. get_or mask n false) (sym c.from.ensures) ∙ w.if-mask-from.false in
          record {
            room = ap length w.values-is ∙ room;
            few = omega (arith, w.size-is, few);
            made = ap (λ n. take n c.if-mask-from.values ++ keep (drop (place + 1) mask) (drop (place + 1) row)) w.size-is
                ∙ ap (λ xs. take c.places.size xs ++ keep (drop (place + 1) mask) (drop (place + 1) row)) w.values-is
                ∙ place_left mask row place _ _ inside long is before.made;
          }
    ]
