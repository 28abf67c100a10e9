use Rattle.std.proofs.Common.{◌≡◌, ◌<◌, ◌≤◌, ◌+◌, ◌*◌, All, length, map, sum_by, take, sym, ap, ◌∙◌, subst, arith, vec_items}
use Rattle.std.specs.Cmp.Lexicographic.{slice_cmp}
use Rattle.std.specs.List.{AllByRecursion}
use Rattle.std.specs.Ordering.{nat_cmp}
use Rattle.std.proofs.lemmas.List.{length-map, take_all}
use Rattle.std.proofs.lemmas.Result.{err_from_is_err_and}
use Rattle.wf_model.specs.Lists.{in_order}
use Rattle.wf_model.specs.Task.{inputs}
use Rattle.wf_tree_model.specs.Counting.Rules.{rule_at}
use Rattle.wf_tree_model.specs.Refined.{allowing}
use Rattle.wf_tree_model.specs.Covers.{tuples_covered}
use Rattle.wf_tree_model.specs.Trees.{new_name}
use Rattle.wf_tree_refine.specs.AtHand.{at_hand}
use Rattle.wf_tree_refine.specs.Limits.{tuples_made}
use Rattle.wf_tree_refine.specs.Names.{first_new}
use Rattle.wf_tree_refine.specs.Near.{most_at_hand}
use Rattle.wf_tree_steps.specs.Cover.Faults.{cover_seen}
use Rattle.wf_tree_steps.specs.Cover.LiftSeen.{lift_seen}
use Rattle.wf_tree_refine.proofs.Lemmas.{left_after, left_short, rule_below, step_at_hand, good_rule, length-rules_seen, length_pushed, made_at_hand, rows_pushed, rule_found, rule_with, few_tuples, too_many_tuples}
use Rattle.wf_tree_steps.proofs.OfCover.LiftSteps.{cover_long, faultless, few_sheets, same_cover}
use Rattle.wf_tree_steps.proofs.cover.rows.covered_rows.Goals as goal

pub lift_tables-requires-clause-long : goal.lift_tables-requires-clause-long
lift_tables-requires-clause-long c =
    let t = c.args.task.now in
    let rows = map vec_items c.args.rows.now in
    let hand = at_hand t rows in
    let ins = c.simplices-simplices.ensures.simplices ∙ c.inputs.ensures.inputs in
    let of = rule_found t vec_items c.args.rows.now c.args.cover.now.simplex c.simplices-simplices.result.now c.index-simplices-number.result c.index-rows-number.result c.requires.at_hand c.requires.simplex ins c.index-simplices-number.is c.index-rows-number.is in
    subst (All (λ row. length row ≡ length c.index-simplices-number.result)) (sym c.deref.ensures.value) of.1.long

pub lift_tables-requires-clause-small : goal.lift_tables-requires-clause-small
lift_tables-requires-clause-small c =
    let t = c.args.task.now in
    let rows = map vec_items c.args.rows.now in
    let hand = at_hand t rows in
    let ins = c.simplices-simplices.ensures.simplices ∙ c.inputs.ensures.inputs in
    let of = rule_found t vec_items c.args.rows.now c.args.cover.now.simplex c.simplices-simplices.result.now c.index-simplices-number.result c.index-rows-number.result c.requires.at_hand c.requires.simplex ins c.index-simplices-number.is c.index-rows-number.is in
    let each = c.requires.at_hand.each in
    let long = length-map c.args.rows.now vec_items in
    let rules = length-rules_seen (inputs t) rows each in
    let low = c.requires.simplex in
    subst (λ n. AllByRecursion (AllByRecursion (λ x. x < n)) c.deref.result.now) (sym c.new_name-new.ensures.name)
    (subst (AllByRecursion (AllByRecursion (λ x. x < new_name hand))) (ap (λ r. r.tuples) of.0 ∙ sym c.deref.ensures.value) (rule_below hand c.args.cover.now.simplex (omega (arith, low, long, each, rules))))

pub lift_tables-requires-clause-corner : goal.lift_tables-requires-clause-corner
lift_tables-requires-clause-corner c =
    let t = c.args.task.now in
    let rows = map vec_items c.args.rows.now in
    let hand = at_hand t rows in
    let ins = c.simplices-simplices.ensures.simplices ∙ c.inputs.ensures.inputs in
    let of = rule_found t vec_items c.args.rows.now c.args.cover.now.simplex c.simplices-simplices.result.now c.index-simplices-number.result c.index-rows-number.result c.requires.at_hand c.requires.simplex ins c.index-simplices-number.is c.index-rows-number.is in
    let same = same_cover hand c.args.cover.now c.index-simplices-number.result c.deref.result.now c.index-rows-number.result.items c.new_name-new.result of.0 c.deref.ensures.value c.new_name-new.ensures.name in
    let each = c.requires.at_hand.each in
    let long = length-map c.args.rows.now vec_items in
    let rules = length-rules_seen (inputs t) rows each in
    let low = c.requires.simplex in
    let both = faultless hand c.args.cover.now c.index-simplices-number.result c.deref.result.now c.new_name-new.result (omega (arith, low, long, each, rules)) c.requires.faultless same in
    both.0

pub lift_tables-requires-clause-flat : goal.lift_tables-requires-clause-flat
lift_tables-requires-clause-flat c =
    let t = c.args.task.now in
    let rows = map vec_items c.args.rows.now in
    let hand = at_hand t rows in
    let ins = c.simplices-simplices.ensures.simplices ∙ c.inputs.ensures.inputs in
    let of = rule_found t vec_items c.args.rows.now c.args.cover.now.simplex c.simplices-simplices.result.now c.index-simplices-number.result c.index-rows-number.result c.requires.at_hand c.requires.simplex ins c.index-simplices-number.is c.index-rows-number.is in
    let same = same_cover hand c.args.cover.now c.index-simplices-number.result c.deref.result.now c.index-rows-number.result.items c.new_name-new.result of.0 c.deref.ensures.value c.new_name-new.ensures.name in
    let each = c.requires.at_hand.each in
    let long = length-map c.args.rows.now vec_items in
    let rules = length-rules_seen (inputs t) rows each in
    let low = c.requires.simplex in
    let both = faultless hand c.args.cover.now c.index-simplices-number.result c.deref.result.now c.new_name-new.result (omega (arith, low, long, each, rules)) c.requires.faultless same in
    both.1

pub lift_rows-requires-clause-ascending : goal.lift_rows-requires-clause-ascending
lift_rows-requires-clause-ascending c =
    let t = c.args.task.now in
    let rows = map vec_items c.args.rows.now in
    let hand = at_hand t rows in
    let ins = c.simplices-simplices.ensures.simplices ∙ c.inputs.ensures.inputs in
    let place = c.simplices.place in
    let this = rule_found t vec_items c.args.rows.now place c.simplices-simplices.result.now c.index-simplices-place.result c.index-rows-place.result c.requires.at_hand c.simplices-test.true ins c.index-simplices-place.is c.index-rows-place.is in
    subst (λ rs. in_order (slice_cmp nat_cmp) rs ≡ rs) (sym c.deref-in-simplices.ensures.value) this.1.ascending

pub lift_rows-requires-clause-long : goal.lift_rows-requires-clause-long
lift_rows-requires-clause-long c =
    let t = c.args.task.now in
    let rows = map vec_items c.args.rows.now in
    let hand = at_hand t rows in
    let ins = c.simplices-simplices.ensures.simplices ∙ c.inputs.ensures.inputs in
    let place = c.simplices.place in
    let this = rule_found t vec_items c.args.rows.now place c.simplices-simplices.result.now c.index-simplices-place.result c.index-rows-place.result c.requires.at_hand c.simplices-test.true ins c.index-simplices-place.is c.index-rows-place.is in
    subst (All (λ row. length row ≡ length c.index-simplices-place.result)) (sym c.deref-in-simplices.ensures.value) this.1.long

pub lift_rows-requires-clause-small : goal.lift_rows-requires-clause-small
lift_rows-requires-clause-small c =
    let t = c.args.task.now in
    let rows = map vec_items c.args.rows.now in
    let hand = at_hand t rows in
    let ins = c.simplices-simplices.ensures.simplices ∙ c.inputs.ensures.inputs in
    let of = rule_found t vec_items c.args.rows.now c.args.cover.now.simplex c.simplices-simplices.result.now c.index-simplices-number.result c.index-rows-number.result c.requires.at_hand c.requires.simplex ins c.index-simplices-number.is c.index-rows-number.is in
    let same = same_cover hand c.args.cover.now c.index-simplices-number.result c.deref.result.now c.index-rows-number.result.items c.new_name-new.result of.0 c.deref.ensures.value c.new_name-new.ensures.name in
    let place = c.simplices.place in
    let this = rule_found t vec_items c.args.rows.now place c.simplices-simplices.result.now c.index-simplices-place.result c.index-rows-place.result c.requires.at_hand c.simplices-test.true ins c.index-simplices-place.is c.index-rows-place.is in
    let each = c.requires.at_hand.each in
    let long = length-map c.args.rows.now vec_items in
    let rules = length-rules_seen (inputs t) rows each in
    let inside = c.simplices-test.true in
    let first : 0 + 1 * c.in_ok-lift.lift.new ≡ 0 + 1 * c.new_name-new.result = ap (λ q. q.name 0 1) c.in_ok-lift.ensures.seen in
    let name = c.new_name-new.ensures.name in
    let new : c.in_ok-lift.lift.new ≡ new_name hand = omega (arith, first, name) in
    subst (λ n. AllByRecursion (AllByRecursion (λ x. x < n)) c.deref-in-simplices.result.now) (sym new)
    (subst (AllByRecursion (AllByRecursion (λ x. x < new_name hand))) (ap (λ r. r.tuples) this.0 ∙ sym c.deref-in-simplices.ensures.value) (rule_below hand place (omega (arith, inside, long, each, rules))))

pub simplices-preserved : goal.simplices-preserved
simplices-preserved c =
    let t = c.args.task.now in
    let rows = map vec_items c.args.rows.now in
    let hand = at_hand t rows in
    let ins = c.simplices-simplices.ensures.simplices ∙ c.inputs.ensures.inputs in
    let place = c.simplices.place in
    let this = rule_found t vec_items c.args.rows.now place c.simplices-simplices.result.now c.index-simplices-place.result c.index-rows-place.result c.requires.at_hand c.simplices-test.true ins c.index-simplices-place.is c.index-rows-place.is in
    let each = c.requires.at_hand.each in
    let long = length-map c.args.rows.now vec_items in
    let rules = length-rules_seen (inputs t) rows each in
    let before = c.simplices.invariant in
    let s = lift_seen c.in_ok-lift.lift in
    let inside = c.simplices-test.true in
    let made : c.in_ok-made.made.items ≡ tuples_covered s (rule_at hand place) =
    c.in_ok-made.ensures.rows ∙ ap (λ rs. tuples_covered s (rule_with c.index-simplices-place.result rs)) c.deref-in-simplices.ensures.value ∙ ap (tuples_covered s) (sym this.0) in
    let size : c.len-left.result ≡ length c.in_ok-made.made.items = c.len-left.ensures ∙ c.in_ok-made.made.ok.0 in
    let within = c.in_ok-made.ensures.within in
    record {
      count = ap length c.push_reserved.ensures.items ∙ length_pushed c.simplices.found.items c.sorted_unique.result place before.count;
      room = c.push_reserved.ensures.capacity ∙ before.room;
      left = left_after (tuples_covered s) hand place c.simplices.left c.len-left.result (omega (arith, inside, long, each, rules)) (size ∙ ap length made) (omega (arith, size, within)) before.left;
      made = rows_pushed vec_items c.simplices.found.items c.push_reserved.new.self.items c.sorted_unique.result place (λ i. in_order (slice_cmp nat_cmp) (tuples_covered s (rule_at hand i)))
          before.count c.push_reserved.ensures.items before.made (c.sorted_unique.ensures ∙ ap (in_order (slice_cmp nat_cmp)) made);
    }

pub returns-in_err-made-clause-refused : goal.returns-in_err-made-clause-refused
returns-in_err-made-clause-refused c =
    let t = c.args.task.now in
    let rows = map vec_items c.args.rows.now in
    let hand = at_hand t rows in
    let ins = c.simplices-simplices.ensures.simplices ∙ c.inputs.ensures.inputs in
    let of = rule_found t vec_items c.args.rows.now c.args.cover.now.simplex c.simplices-simplices.result.now c.index-simplices-number.result c.index-rows-number.result c.requires.at_hand c.requires.simplex ins c.index-simplices-number.is c.index-rows-number.is in
    let same = same_cover hand c.args.cover.now c.index-simplices-number.result c.deref.result.now c.index-rows-number.result.items c.new_name-new.result of.0 c.deref.ensures.value c.new_name-new.ensures.name in
    let place = c.simplices.place in
    let this = rule_found t vec_items c.args.rows.now place c.simplices-simplices.result.now c.index-simplices-place.result c.index-rows-place.result c.requires.at_hand c.simplices-test.true ins c.index-simplices-place.is c.index-rows-place.is in
    let each = c.requires.at_hand.each in
    let long = length-map c.args.rows.now vec_items in
    let rules = length-rules_seen (inputs t) rows each in
    let s = lift_seen c.in_ok-lift.lift in
    let inside = c.simplices-test.true in
    let p = err_from_is_err_and c.from_residual-in_err-made.result c.from_residual-in_err-made.ensures.1 in
    let rule : tuples_covered s (rule_with c.index-simplices-place.result c.deref-in-simplices.result.now) ≡ tuples_covered s (rule_at hand place) =
    ap (λ rs. tuples_covered s (rule_with c.index-simplices-place.result rs)) c.deref-in-simplices.ensures.value ∙ ap (tuples_covered s) (sym this.0) in
    let is : s ≡ cover_seen hand c.args.cover.now = c.in_ok-lift.ensures.seen ∙ same in
    let tested = c.if-from-new.false in
    let sheets = ap (λ n. n * c.new_name-new.result) c.from.ensures in
    let names = ap (λ n. c.args.cover.now.sheets * n) c.new_name-new.ensures.name in
    let few_names : c.args.cover.now.sheets * new_name hand ≤ first_new = omega (arith, tested, sheets, names) in
    rw (p.1, p.2)
    (λ other. let r = c.in_err-made.ensures.refused other in
    let short = r.1 in
    let size = ap length rule in
    let many = left_short (tuples_covered s) hand place c.simplices.left (omega (arith, inside, long, each, rules)) (omega (arith, short, size)) c.simplices.invariant.left in
    few_sheets (cover_seen hand c.args.cover.now) hand few_names
    ∙ too_many_tuples (tuples_covered (cover_seen hand c.args.cover.now)) hand c.in_err-made.field-0.0 (subst (λ q. most_at_hand < tuples_made (tuples_covered q) hand) is many) r.0)

pub returns-clause-covered : goal.returns-clause-covered
returns-clause-covered c =
    let t = c.args.task.now in
    let rows = map vec_items c.args.rows.now in
    let hand = at_hand t rows in
    let ins = c.simplices-simplices.ensures.simplices ∙ c.inputs.ensures.inputs in
    let of = rule_found t vec_items c.args.rows.now c.args.cover.now.simplex c.simplices-simplices.result.now c.index-simplices-number.result c.index-rows-number.result c.requires.at_hand c.requires.simplex ins c.index-simplices-number.is c.index-rows-number.is in
    let same = same_cover hand c.args.cover.now c.index-simplices-number.result c.deref.result.now c.index-rows-number.result.items c.new_name-new.result of.0 c.deref.ensures.value c.new_name-new.ensures.name in
    let each = c.requires.at_hand.each in
    let long = length-map c.args.rows.now vec_items in
    let rules = length-rules_seen (inputs t) rows each in
    let past = c.simplices-test.false in
    let stop = c.simplices.auto.place-end in
    let counted = c.simplices.invariant.count in
    let found = length-map c.simplices.found.items vec_items in
    let s = lift_seen c.in_ok-lift.lift in
    let is : s ≡ cover_seen hand c.args.cover.now = c.in_ok-lift.ensures.seen ∙ same in
    made_at_hand t rows (map vec_items c.simplices.found.items) (tuples_covered s) each (omega (arith, found, counted, past, stop, long, each)) (λ i low. c.simplices.invariant.made i (omega (arith, low, each, long, past)))
    ∙ ap (λ q. allowing (tuples_covered q) hand) is

pub returns-clause-at_hand : goal.returns-clause-at_hand
returns-clause-at_hand c =
    let t = c.args.task.now in
    let rows = map vec_items c.args.rows.now in
    let hand = at_hand t rows in
    let ins = c.simplices-simplices.ensures.simplices ∙ c.inputs.ensures.inputs in
    let of = rule_found t vec_items c.args.rows.now c.args.cover.now.simplex c.simplices-simplices.result.now c.index-simplices-number.result c.index-rows-number.result c.requires.at_hand c.requires.simplex ins c.index-simplices-number.is c.index-rows-number.is in
    let same = same_cover hand c.args.cover.now c.index-simplices-number.result c.deref.result.now c.index-rows-number.result.items c.new_name-new.result of.0 c.deref.ensures.value c.new_name-new.ensures.name in
    let each = c.requires.at_hand.each in
    let long = length-map c.args.rows.now vec_items in
    let rules = length-rules_seen (inputs t) rows each in
    let past = c.simplices-test.false in
    let stop = c.simplices.auto.place-end in
    let counted = c.simplices.invariant.count in
    let found = length-map c.simplices.found.items vec_items in
    let s = lift_seen c.in_ok-lift.lift in
    let is : s ≡ cover_seen hand c.args.cover.now = c.in_ok-lift.ensures.seen ∙ same in
    let all : sum_by (λ rule. length (tuples_covered s rule)) (take c.simplices.place hand.delta) ≡ tuples_made (tuples_covered s) hand = ap (sum_by (λ rule. length (tuples_covered s rule))) (take_all c.simplices.place hand.delta (omega (arith, past, long, each, rules))) in
    let left = c.simplices.invariant.left in
    let few : tuples_made (tuples_covered s) hand ≤ most_at_hand = omega (arith, all, left) in
    step_at_hand t rows (map vec_items c.simplices.found.items) (tuples_covered s) c.requires.at_hand (omega (arith, found, counted, past, stop, long, each)) (λ i low. c.simplices.invariant.made i (omega (arith, low, each, long, past))) few
    (λ i low u h. cover_long s (rule_at hand i) (good_rule t rows i c.requires.at_hand (omega (arith, low, each))).long u h)

pub returns-clause-within : goal.returns-clause-within
returns-clause-within c =
    let t = c.args.task.now in
    let rows = map vec_items c.args.rows.now in
    let hand = at_hand t rows in
    let ins = c.simplices-simplices.ensures.simplices ∙ c.inputs.ensures.inputs in
    let of = rule_found t vec_items c.args.rows.now c.args.cover.now.simplex c.simplices-simplices.result.now c.index-simplices-number.result c.index-rows-number.result c.requires.at_hand c.requires.simplex ins c.index-simplices-number.is c.index-rows-number.is in
    let same = same_cover hand c.args.cover.now c.index-simplices-number.result c.deref.result.now c.index-rows-number.result.items c.new_name-new.result of.0 c.deref.ensures.value c.new_name-new.ensures.name in
    let each = c.requires.at_hand.each in
    let long = length-map c.args.rows.now vec_items in
    let rules = length-rules_seen (inputs t) rows each in
    let past = c.simplices-test.false in
    let stop = c.simplices.auto.place-end in
    let counted = c.simplices.invariant.count in
    let found = length-map c.simplices.found.items vec_items in
    let s = lift_seen c.in_ok-lift.lift in
    let is : s ≡ cover_seen hand c.args.cover.now = c.in_ok-lift.ensures.seen ∙ same in
    let all : sum_by (λ rule. length (tuples_covered s rule)) (take c.simplices.place hand.delta) ≡ tuples_made (tuples_covered s) hand = ap (sum_by (λ rule. length (tuples_covered s rule))) (take_all c.simplices.place hand.delta (omega (arith, past, long, each, rules))) in
    let left = c.simplices.invariant.left in
    let few : tuples_made (tuples_covered s) hand ≤ most_at_hand = omega (arith, all, left) in
    let tested = c.if-from-new.false in
    let sheets = ap (λ n. n * c.new_name-new.result) c.from.ensures in
    let names = ap (λ n. c.args.cover.now.sheets * n) c.new_name-new.ensures.name in
    let few_names : c.args.cover.now.sheets * new_name hand ≤ first_new = omega (arith, tested, sheets, names) in
    few_sheets (cover_seen hand c.args.cover.now) hand few_names
    ∙ few_tuples (tuples_covered (cover_seen hand c.args.cover.now)) hand (subst (λ q. tuples_made (tuples_covered q) hand ≤ most_at_hand) is few)
