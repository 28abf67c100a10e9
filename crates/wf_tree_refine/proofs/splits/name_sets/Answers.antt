use Rattle.std.proofs.Common.{◌≡◌, ◌∷◌, ◌==◌, ◌||◌, ◌&&◌, flat_map, get_or, length, sym, ap, ◌∙◌, arith}
use Rattle.std.proofs.lemmas.List.{with_items_is}
use Rattle.wf_model.specs.Lists.{below, has}
use Rattle.wf_model.specs.Simplex.{processes_of}
use Rattle.wf_tree_model.specs.Splits.{names_at}
use Rattle.wf_tree_refine.specs.Choices.{chosen_by, names_beside}
use Rattle.wf_tree_refine.proofs.ChoiceSets.{in_order_listed, place_named}
use Rattle.wf_tree_refine.proofs.splits.name_sets.Goals as goal

pub places-preserved : goal.places-preserved
places-preserved c =
    let before = c.places.invariant in
    let old = c.deref_mut.ensures.value in
    let low = c.places-test.true in
    let count = c.colours-place-end.ensures.count in
    let long : length c.add_names.new.sets ≡ c.places.sets.len = c.add_names.ensures.kept ∙ sym (ap length old ∙ before.count) ∙ c.deref_mut.ensures.len in
    let items = with_items_is c.places.sets c.add_names.new.sets long in
    record {
      count = ap length items ∙ c.add_names.ensures.kept;
      names = λ s rule is p v z pp vv.
          ap (λ sets. has (chosen_by sets p v) z) items
          ∙ place_named s c.args.rows.now c.args.named.now c.colour.result c.places.place c.places.sets.items c.add_names.new.sets (ap (λ r. r.tuples) rule) is
          (let e = ap (λ r. length r.input) rule in omega (arith, low, count, e))
          (ap (λ r. get_or (processes_of r.input) c.places.place 0) rule ∙ sym c.colour.ensures)
          (λ q w y qq ww. c.add_names.ensures.names q w y qq ww ∙ ap (λ sets. has (chosen_by sets q w) y || (c.colour.result == q && has (names_beside c.places.place w c.args.rows.now c.args.named.now) y)) old)
          (before.names s rule is) p v z pp vv;
      small = λ some. c.add_names.ensures.small;
    }

pub returns-clause-sets : goal.returns-clause-sets
returns-clause-sets c = λ s rule is.
    let before = c.places.invariant in
    let past = c.places-test.false in
    let end = c.places.auto.place-end in
    let count = c.colours-place-end.ensures.count in
    let e = ap (λ r. length r.input) rule in
    let all : c.places.place ≡ length s.rule.input = omega (arith, past, end, count, e) in
    record {
      count = before.count;
      each = λ p v pp vv. in_order_listed _ (v ∷ flat_map (names_at s p v) (below (length s.rule.input))) (λ z. before.names s rule is p v z pp vv ∙ ap (λ n. has (v ∷ flat_map (names_at s p v) (below n)) z) all);
    }
