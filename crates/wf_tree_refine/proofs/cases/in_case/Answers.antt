use Rattle.std.proofs.Common.{◌≡◌, ◌==◌, ℕ, List, [], All, cond, filter, get_or, length, map, sym, ap, ◌∙◌, subst, arith, vec_items}
use Rattle.std.specs.Cmp.Lexicographic.{slice_cmp}
use Rattle.std.specs.Ordering.{nat_cmp}
use Rattle.std.proofs.lemmas.List.{length-map}
use Rattle.std.specs.Cmp.Lexicographic.{pointwise}
use Rattle.std.proofs.lemmas.Bool.{both_ways}
use Rattle.wf_model.specs.Lists.{in_order}
use Rattle.wf_model.specs.Simplex.{same_vertex}
use Rattle.wf_tree_model.specs.Counting.Rules.{rule_at}
use Rattle.wf_tree_model.specs.Cases.{components, is_step, tuples_in_case}
use Rattle.wf_tree_model.specs.Parts.{parts}
use Rattle.wf_tree_model.specs.Tuples.{has_tuple}
use Rattle.wf_tree_refine.specs.AtHand.{at_hand}
use Rattle.wf_tree_refine.specs.Near.{part_of}
use Rattle.wf_tree_refine.proofs.CaseSteps.{case_at_hand, case_rows, made_at_hand, part_has, length_pushed, rows_pushed, rule_found, rule_with}
use Rattle.wf_tree_refine.proofs.Membership.{once_in_order}
use Rattle.wf_tree_refine.proofs.RowSearch.{filter_in_order}
use Rattle.wf_tree_refine.proofs.cases.in_case.Goals as goal
use Rattle.wf_tree_refine.proofs.cases.in_case.Goals.{then-are_alike+in_ok-kept, else-are_alike+in_ok-kept-2}

pub component_rows-requires-clause-few : goal.component_rows-requires-clause-few
component_rows-requires-clause-few c =
    let of = rule_found c.args.task.now vec_items c.args.rows.now c.args.simplex c.simplices-simplices.result.now c.index-simplices-simplex.result c.index-rows-simplex.result c.requires.at_hand c.requires.simplex (c.simplices-simplices.ensures.simplices ∙ c.inputs.ensures.inputs) c.index-simplices-simplex.is c.index-rows-simplex.is in
    let same = ap length c.deref.ensures.value in
    let few = of.1.few in
    omega (arith, same, few)

pub component_rows-requires-clause-ascending : goal.component_rows-requires-clause-ascending
component_rows-requires-clause-ascending c =
    let of = rule_found c.args.task.now vec_items c.args.rows.now c.args.simplex c.simplices-simplices.result.now c.index-simplices-simplex.result c.index-rows-simplex.result c.requires.at_hand c.requires.simplex (c.simplices-simplices.ensures.simplices ∙ c.inputs.ensures.inputs) c.index-simplices-simplex.is c.index-rows-simplex.is in
    subst (λ rows. in_order (slice_cmp nat_cmp) rows ≡ rows) (sym c.deref.ensures.value) of.1.ascending

pub component_rows-requires-clause-long : goal.component_rows-requires-clause-long
component_rows-requires-clause-long c =
    let of = rule_found c.args.task.now vec_items c.args.rows.now c.args.simplex c.simplices-simplices.result.now c.index-simplices-simplex.result c.index-rows-simplex.result c.requires.at_hand c.requires.simplex (c.simplices-simplices.ensures.simplices ∙ c.inputs.ensures.inputs) c.index-simplices-simplex.is c.index-rows-simplex.is in
    subst (λ n. All (λ row. length row ≡ n) c.deref.result.now) (sym c.colours.ensures.count)
    (subst (All (λ row. length row ≡ length c.index-simplices-simplex.result)) (sym c.deref.ensures.value) of.1.long)

pub rows_among-requires : goal.rows_among-requires
rows_among-requires c =
    let of = rule_found c.args.task.now vec_items c.args.rows.now c.args.simplex c.simplices-simplices.result.now c.index-simplices-simplex.result c.index-rows-simplex.result c.requires.at_hand c.requires.simplex (c.simplices-simplices.ensures.simplices ∙ c.inputs.ensures.inputs) c.index-simplices-simplex.is c.index-rows-simplex.is in
    let rows = c.deref.result.now in
    let up = subst (λ rs. in_order (slice_cmp nat_cmp) rs ≡ rs) (sym c.deref.ensures.value) of.1.ascending in
    subst (λ rs. in_order (slice_cmp nat_cmp) rs ≡ rs) (sym (c.deref-then-are_alike-2.ensures.value ∙ c.in_ok-part.ensures))
    (filter_in_order (λ tuple. part_of (parts (is_step c.colours.result) rows) tuple == c.args.number) rows up)

pub simplices-preserved : goal.simplices-preserved
simplices-preserved c =
    let t = c.args.task.now in
    let rows = map vec_items c.args.rows.now in
    let place = c.simplices.place in
    let before = c.simplices.invariant in
    let ins = c.simplices-simplices.ensures.simplices ∙ c.inputs.ensures.inputs in
    let s = c.index-simplices-simplex.result in
    let own = c.index-rows-simplex.result.items in
    let u = c.index-simplices-place.result in
    let v = c.index-rows-place.result in
    let of = rule_found c.args.task.now vec_items c.args.rows.now c.args.simplex c.simplices-simplices.result.now c.index-simplices-simplex.result c.index-rows-simplex.result c.requires.at_hand c.requires.simplex (c.simplices-simplices.ensures.simplices ∙ c.inputs.ensures.inputs) c.index-simplices-simplex.is c.index-rows-simplex.is in
    let this = rule_found t vec_items c.args.rows.now place c.simplices-simplices.result.now u v c.requires.at_hand c.simplices-test.true ins c.index-simplices-place.is c.index-rows-place.is in
    let kept = c.if-are_alike.kept in
    let ps = parts (is_step (length s)) own in
    let part = get_or ps c.args.number [] in
    let size = c.colours.ensures.count in
    let value = c.deref.ensures.value in
    let rows_of : c.in_ok-part.part.items ≡ filter (λ tuple. part_of ps tuple == c.args.number) own =
    c.in_ok-part.ensures ∙ ap (λ rs. filter (λ tuple. part_of (parts (is_step c.colours.result) rs) tuple == c.args.number) rs) value ∙ ap (λ n. filter (λ tuple. part_of (parts (is_step n) own) tuple == c.args.number) own) size in
    let has = λ (x : List ℕ). ap (λ rs. has_tuple rs x) rows_of ∙ part_has (is_step (length s)) own c.args.number (once_in_order own of.1.ascending) x in
    let made = case_rows (at_hand t rows) s u own c.in_ok-part.part.items part v.items kept.items c.are_alike.result this.1.ascending has
    (c.are_alike.ensures ∙ ap (λ b. cond b (pointwise (λ x y. x.1 == y.1) s u) (pointwise same_vertex s u)) c.symmetric.ensures)
    (λ e. elim c.if-are_alike.branch [
      | then-are_alike+in_ok-kept w ↦ ap (λ k. k.items) w.kept-is ∙ w.in_ok-kept.ensures ∙ ap (λ rs. filter (has_tuple rs) w.deref-then-are_alike.result.now) w.deref-then-are_alike-2.ensures.value ∙ ap (filter (has_tuple c.in_ok-part.part.items)) w.deref-then-are_alike.ensures.value
      | else-are_alike+in_ok-kept-2 w ↦ absurd (both_ways c.are_alike.result w.if-are_alike.false e)
    ])
    (λ e. elim c.if-are_alike.branch [
      | then-are_alike+in_ok-kept w ↦ absurd (both_ways c.are_alike.result e w.if-are_alike.true)
      | else-are_alike+in_ok-kept-2 w ↦ ap (λ k. k.items) w.kept-is ∙ w.in_ok-kept-2.ensures ∙ w.deref-else-are_alike.ensures.value
    ]) in
    record {
      count = ap length c.push_reserved.ensures.items ∙ length_pushed c.simplices.found.items kept place before.count;
      room = c.push_reserved.ensures.capacity ∙ before.room;
      made = rows_pushed vec_items c.simplices.found.items c.push_reserved.new.self.items kept place
          (λ i. in_order (slice_cmp nat_cmp) (tuples_in_case (at_hand t rows) (rule_at (at_hand t rows) c.args.simplex) (get_or (components (rule_at (at_hand t rows) c.args.simplex)) c.args.number []) (rule_at (at_hand t rows) i)))
          before.count c.push_reserved.ensures.items before.made
          (made ∙ ap (λ r. in_order (slice_cmp nat_cmp) (tuples_in_case (at_hand t rows) r (get_or (components r) c.args.number []) (rule_with u v.items))) (sym of.0)
          ∙ ap (λ q. in_order (slice_cmp nat_cmp) (tuples_in_case (at_hand t rows) (rule_at (at_hand t rows) c.args.simplex) (get_or (components (rule_at (at_hand t rows) c.args.simplex)) c.args.number []) q)) (sym this.0));
    }

pub returns-clause-case : goal.returns-clause-case
returns-clause-case c =
    let t = c.args.task.now in
    let rows = map vec_items c.args.rows.now in
    let rule = rule_at (at_hand t rows) c.args.simplex in
    let each = c.requires.at_hand.each in
    let past = c.simplices-test.false in
    let count = c.simplices.invariant.count in
    let long = length-map c.args.rows.now vec_items in
    let made = length-map c.simplices.found.items vec_items in
    made_at_hand t rows (map vec_items c.simplices.found.items) (tuples_in_case (at_hand t rows) rule (get_or (components rule) c.args.number [])) each (omega (arith, made, count, past, long, each, c.simplices.auto.place-end))
    (λ i low. c.simplices.invariant.made i (omega (arith, low, each, long, past)))

pub returns-clause-at_hand : goal.returns-clause-at_hand
returns-clause-at_hand c =
    let t = c.args.task.now in
    let rows = map vec_items c.args.rows.now in
    let rule = rule_at (at_hand t rows) c.args.simplex in
    let each = c.requires.at_hand.each in
    let past = c.simplices-test.false in
    let count = c.simplices.invariant.count in
    let long = length-map c.args.rows.now vec_items in
    let made = length-map c.simplices.found.items vec_items in
    case_at_hand t rows (map vec_items c.simplices.found.items) rule (get_or (components rule) c.args.number []) c.requires.at_hand (omega (arith, made, count, past, long, each, c.simplices.auto.place-end))
    (λ i low. c.simplices.invariant.made i (omega (arith, low, each, long, past)))
