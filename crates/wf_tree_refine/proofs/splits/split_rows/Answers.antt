use Rattle.std.proofs.Common.{◌≡◌, ◌<◌, ◌≤◌, All, false, true, length, map, sum_by, take, sym, ap, ◌∙◌, subst, arith, vec_items}
use Rattle.std.specs.Cmp.Lexicographic.{slice_cmp}
use Rattle.std.specs.List.{AllByRecursion, list_any}
use Rattle.std.specs.Ordering.{nat_cmp}
use Rattle.std.proofs.lemmas.List.{length-map, take_all}
use Rattle.std.proofs.lemmas.Result.{err_from_is_err_and}
use Rattle.wf_model.specs.Lists.{in_order}
use Rattle.wf_model.specs.Task.{inputs}
use Rattle.wf_tree_model.specs.Counting.Rules.{rule_at}
use Rattle.wf_tree_model.specs.Refined.{allowing}
use Rattle.wf_tree_model.specs.Splits.{by_stars, tuples_split}
use Rattle.wf_tree_model.specs.Trees.{new_name}
use Rattle.wf_tree_refine.specs.AtHand.{at_hand}
use Rattle.wf_tree_refine.specs.Limits.{tuples_made}
use Rattle.wf_tree_refine.specs.Names.{has_large_name}
use Rattle.wf_tree_refine.specs.Near.{most_at_hand}
use Rattle.wf_tree_refine.specs.SplitSeen.{split_seen}
use Rattle.wf_tree_refine.proofs.Assembling.{left_after, left_short, rule_below, step_at_hand}
use Rattle.wf_tree_refine.proofs.CaseSteps.{good_rule, length-rules_seen, length_pushed, made_at_hand, rows_pushed, rule_found, rule_with}
use Rattle.wf_tree_refine.proofs.SplitSteps.{few_tuples, no_large_name, rows_under, same_splitting, split_long, too_many_names, too_many_tuples}
use Rattle.wf_tree_refine.proofs.splits.split_rows.Goals as goal

pub split_by-requires-clause-few : goal.split_by-requires-clause-few
split_by-requires-clause-few c =
    let t = c.args.task.now in
    let rows = map vec_items c.args.rows.now in
    let hand = at_hand t rows in
    let ins = c.simplices-simplices.ensures.simplices ∙ c.inputs.ensures.inputs in
    let of = rule_found t vec_items c.args.rows.now c.args.simplex c.simplices-simplices.result.now c.index-simplices-simplex.result c.index-rows-simplex.result c.requires.at_hand c.requires.simplex ins c.index-simplices-simplex.is c.index-rows-simplex.is in
    let few = of.1.few in
    let same = ap length c.deref.ensures.value in
    omega (arith, few, same)

pub split_by-requires-clause-ascending : goal.split_by-requires-clause-ascending
split_by-requires-clause-ascending c =
    let t = c.args.task.now in
    let rows = map vec_items c.args.rows.now in
    let hand = at_hand t rows in
    let ins = c.simplices-simplices.ensures.simplices ∙ c.inputs.ensures.inputs in
    let of = rule_found t vec_items c.args.rows.now c.args.simplex c.simplices-simplices.result.now c.index-simplices-simplex.result c.index-rows-simplex.result c.requires.at_hand c.requires.simplex ins c.index-simplices-simplex.is c.index-rows-simplex.is in
    subst (λ rs. in_order (slice_cmp nat_cmp) rs ≡ rs) (sym c.deref.ensures.value) of.1.ascending

pub split_by-requires-clause-long : goal.split_by-requires-clause-long
split_by-requires-clause-long c =
    let t = c.args.task.now in
    let rows = map vec_items c.args.rows.now in
    let hand = at_hand t rows in
    let ins = c.simplices-simplices.ensures.simplices ∙ c.inputs.ensures.inputs in
    let of = rule_found t vec_items c.args.rows.now c.args.simplex c.simplices-simplices.result.now c.index-simplices-simplex.result c.index-rows-simplex.result c.requires.at_hand c.requires.simplex ins c.index-simplices-simplex.is c.index-rows-simplex.is in
    subst (All (λ row. length row ≡ length c.index-simplices-simplex.result)) (sym c.deref.ensures.value) of.1.long

pub returns-in_err-split-clause-refused : goal.returns-in_err-split-clause-refused
returns-in_err-split-clause-refused c =
    let t = c.args.task.now in
    let rows = map vec_items c.args.rows.now in
    let hand = at_hand t rows in
    let ins = c.simplices-simplices.ensures.simplices ∙ c.inputs.ensures.inputs in
    let of = rule_found t vec_items c.args.rows.now c.args.simplex c.simplices-simplices.result.now c.index-simplices-simplex.result c.index-rows-simplex.result c.requires.at_hand c.requires.simplex ins c.index-simplices-simplex.is c.index-rows-simplex.is in
    let same = same_splitting hand c.args.simplex c.index-simplices-simplex.result c.deref.result.now c.index-rows-simplex.result.items c.new_name-new.result of.0 c.deref.ensures.value c.new_name-new.ensures.name in
    let p = err_from_is_err_and c.from_residual.result c.from_residual.ensures.1 in
    rw (p.1, p.2)
    (λ other. let r = c.in_err-split.ensures.refused other in
    too_many_names (by_stars (rule_at hand c.args.simplex) (new_name hand)) hand c.in_err-split.field-0.0 (subst (λ s. list_any (has_large_name s) s.rule.tuples ≡ true) same r.1) r.0)

pub rows_split-requires-clause-ascending : goal.rows_split-requires-clause-ascending
rows_split-requires-clause-ascending c =
    let t = c.args.task.now in
    let rows = map vec_items c.args.rows.now in
    let hand = at_hand t rows in
    let ins = c.simplices-simplices.ensures.simplices ∙ c.inputs.ensures.inputs in
    let place = c.simplices.place in
    let this = rule_found t vec_items c.args.rows.now place c.simplices-simplices.result.now c.index-simplices-place.result c.index-rows-place.result c.requires.at_hand c.simplices-test.true ins c.index-simplices-place.is c.index-rows-place.is in
    subst (λ rs. in_order (slice_cmp nat_cmp) rs ≡ rs) (sym c.deref-in-simplices.ensures.value) this.1.ascending

pub rows_split-requires-clause-long : goal.rows_split-requires-clause-long
rows_split-requires-clause-long c =
    let t = c.args.task.now in
    let rows = map vec_items c.args.rows.now in
    let hand = at_hand t rows in
    let ins = c.simplices-simplices.ensures.simplices ∙ c.inputs.ensures.inputs in
    let place = c.simplices.place in
    let this = rule_found t vec_items c.args.rows.now place c.simplices-simplices.result.now c.index-simplices-place.result c.index-rows-place.result c.requires.at_hand c.simplices-test.true ins c.index-simplices-place.is c.index-rows-place.is in
    subst (All (λ row. length row ≡ length c.index-simplices-place.result)) (sym c.deref-in-simplices.ensures.value) this.1.long

pub rows_split-requires-clause-small : goal.rows_split-requires-clause-small
rows_split-requires-clause-small c =
    let t = c.args.task.now in
    let rows = map vec_items c.args.rows.now in
    let hand = at_hand t rows in
    let ins = c.simplices-simplices.ensures.simplices ∙ c.inputs.ensures.inputs in
    let place = c.simplices.place in
    let this = rule_found t vec_items c.args.rows.now place c.simplices-simplices.result.now c.index-simplices-place.result c.index-rows-place.result c.requires.at_hand c.simplices-test.true ins c.index-simplices-place.is c.index-rows-place.is in
    let each = c.requires.at_hand.each in
    let long = length-map c.args.rows.now vec_items in
    let rules = length-rules_seen (inputs t) rows each in
    let inside = c.simplices-test.true in
    let name = c.new_name-new.ensures.name in
    let few = c.new_name-new.ensures.few in
    rows_under (new_name hand) 256 (omega (arith, name, few)) c.deref-in-simplices.result.now
    (subst (AllByRecursion (AllByRecursion (λ x. x < new_name hand))) (ap (λ r. r.tuples) this.0 ∙ sym c.deref-in-simplices.ensures.value) (rule_below hand place (omega (arith, inside, long, each, rules))))

pub simplices-preserved : goal.simplices-preserved
simplices-preserved c =
    let t = c.args.task.now in
    let rows = map vec_items c.args.rows.now in
    let hand = at_hand t rows in
    let ins = c.simplices-simplices.ensures.simplices ∙ c.inputs.ensures.inputs in
    let place = c.simplices.place in
    let this = rule_found t vec_items c.args.rows.now place c.simplices-simplices.result.now c.index-simplices-place.result c.index-rows-place.result c.requires.at_hand c.simplices-test.true ins c.index-simplices-place.is c.index-rows-place.is in
    let each = c.requires.at_hand.each in
    let long = length-map c.args.rows.now vec_items in
    let rules = length-rules_seen (inputs t) rows each in
    let before = c.simplices.invariant in
    let s = split_seen c.in_ok-split.split in
    let inside = c.simplices-test.true in
    let made : c.in_ok-made.made.items ≡ tuples_split s (rule_at hand place) =
    c.in_ok-made.ensures.rows ∙ ap (λ rs. tuples_split s (rule_with c.index-simplices-place.result rs)) c.deref-in-simplices.ensures.value ∙ ap (tuples_split s) (sym this.0) in
    let size : c.len-left.result ≡ length c.in_ok-made.made.items = c.len-left.ensures ∙ c.in_ok-made.made.ok.0 in
    let within = c.in_ok-made.ensures.within in
    record {
      count = ap length c.push_reserved.ensures.items ∙ length_pushed c.simplices.found.items c.sorted_unique.result place before.count;
      room = c.push_reserved.ensures.capacity ∙ before.room;
      left = left_after (tuples_split s) hand place c.simplices.left c.len-left.result (omega (arith, inside, long, each, rules)) (size ∙ ap length made) (omega (arith, size, within)) before.left;
      made = rows_pushed vec_items c.simplices.found.items c.push_reserved.new.self.items c.sorted_unique.result place (λ i. in_order (slice_cmp nat_cmp) (tuples_split s (rule_at hand i)))
          before.count c.push_reserved.ensures.items before.made (c.sorted_unique.ensures ∙ ap (in_order (slice_cmp nat_cmp)) made);
    }

pub returns-in_err-made-clause-refused : goal.returns-in_err-made-clause-refused
returns-in_err-made-clause-refused c =
    let t = c.args.task.now in
    let rows = map vec_items c.args.rows.now in
    let hand = at_hand t rows in
    let ins = c.simplices-simplices.ensures.simplices ∙ c.inputs.ensures.inputs in
    let of = rule_found t vec_items c.args.rows.now c.args.simplex c.simplices-simplices.result.now c.index-simplices-simplex.result c.index-rows-simplex.result c.requires.at_hand c.requires.simplex ins c.index-simplices-simplex.is c.index-rows-simplex.is in
    let same = same_splitting hand c.args.simplex c.index-simplices-simplex.result c.deref.result.now c.index-rows-simplex.result.items c.new_name-new.result of.0 c.deref.ensures.value c.new_name-new.ensures.name in
    let place = c.simplices.place in
    let this = rule_found t vec_items c.args.rows.now place c.simplices-simplices.result.now c.index-simplices-place.result c.index-rows-place.result c.requires.at_hand c.simplices-test.true ins c.index-simplices-place.is c.index-rows-place.is in
    let each = c.requires.at_hand.each in
    let long = length-map c.args.rows.now vec_items in
    let rules = length-rules_seen (inputs t) rows each in
    let s = split_seen c.in_ok-split.split in
    let inside = c.simplices-test.true in
    let p = err_from_is_err_and c.from_residual-in_err-made.result c.from_residual-in_err-made.ensures.1 in
    let rule : tuples_split s (rule_with c.index-simplices-place.result c.deref-in-simplices.result.now) ≡ tuples_split s (rule_at hand place) =
    ap (λ rs. tuples_split s (rule_with c.index-simplices-place.result rs)) c.deref-in-simplices.ensures.value ∙ ap (tuples_split s) (sym this.0) in
    let is : s ≡ by_stars (rule_at hand c.args.simplex) (new_name hand) = c.in_ok-split.ensures.seen ∙ same in
    let small = subst (λ q. list_any (has_large_name q) q.rule.tuples ≡ false) same c.in_ok-split.ensures.small in
    rw (p.1, p.2)
    (λ other. let r = c.in_err-made.ensures.refused other in
    let short = r.1 in
    let size = ap length rule in
    let many = left_short (tuples_split s) hand place c.simplices.left (omega (arith, inside, long, each, rules)) (omega (arith, short, size)) c.simplices.invariant.left in
    no_large_name (by_stars (rule_at hand c.args.simplex) (new_name hand)) hand small
    ∙ too_many_tuples (tuples_split (by_stars (rule_at hand c.args.simplex) (new_name hand))) hand c.in_err-made.field-0.0 (subst (λ q. most_at_hand < tuples_made (tuples_split q) hand) is many) r.0)

pub returns-clause-split : goal.returns-clause-split
returns-clause-split c =
    let t = c.args.task.now in
    let rows = map vec_items c.args.rows.now in
    let hand = at_hand t rows in
    let ins = c.simplices-simplices.ensures.simplices ∙ c.inputs.ensures.inputs in
    let of = rule_found t vec_items c.args.rows.now c.args.simplex c.simplices-simplices.result.now c.index-simplices-simplex.result c.index-rows-simplex.result c.requires.at_hand c.requires.simplex ins c.index-simplices-simplex.is c.index-rows-simplex.is in
    let same = same_splitting hand c.args.simplex c.index-simplices-simplex.result c.deref.result.now c.index-rows-simplex.result.items c.new_name-new.result of.0 c.deref.ensures.value c.new_name-new.ensures.name in
    let each = c.requires.at_hand.each in
    let long = length-map c.args.rows.now vec_items in
    let rules = length-rules_seen (inputs t) rows each in
    let past = c.simplices-test.false in
    let stop = c.simplices.auto.place-end in
    let counted = c.simplices.invariant.count in
    let found = length-map c.simplices.found.items vec_items in
    let s = split_seen c.in_ok-split.split in
    let is : s ≡ by_stars (rule_at hand c.args.simplex) (new_name hand) = c.in_ok-split.ensures.seen ∙ same in
    made_at_hand t rows (map vec_items c.simplices.found.items) (tuples_split s) each (omega (arith, found, counted, past, stop, long, each)) (λ i low. c.simplices.invariant.made i (omega (arith, low, each, long, past)))
    ∙ ap (λ q. allowing (tuples_split q) hand) is

pub returns-clause-at_hand : goal.returns-clause-at_hand
returns-clause-at_hand c =
    let t = c.args.task.now in
    let rows = map vec_items c.args.rows.now in
    let hand = at_hand t rows in
    let ins = c.simplices-simplices.ensures.simplices ∙ c.inputs.ensures.inputs in
    let of = rule_found t vec_items c.args.rows.now c.args.simplex c.simplices-simplices.result.now c.index-simplices-simplex.result c.index-rows-simplex.result c.requires.at_hand c.requires.simplex ins c.index-simplices-simplex.is c.index-rows-simplex.is in
    let same = same_splitting hand c.args.simplex c.index-simplices-simplex.result c.deref.result.now c.index-rows-simplex.result.items c.new_name-new.result of.0 c.deref.ensures.value c.new_name-new.ensures.name in
    let each = c.requires.at_hand.each in
    let long = length-map c.args.rows.now vec_items in
    let rules = length-rules_seen (inputs t) rows each in
    let past = c.simplices-test.false in
    let stop = c.simplices.auto.place-end in
    let counted = c.simplices.invariant.count in
    let found = length-map c.simplices.found.items vec_items in
    let s = split_seen c.in_ok-split.split in
    let is : s ≡ by_stars (rule_at hand c.args.simplex) (new_name hand) = c.in_ok-split.ensures.seen ∙ same in
    let all : sum_by (λ rule. length (tuples_split s rule)) (take c.simplices.place hand.delta) ≡ tuples_made (tuples_split s) hand = ap (sum_by (λ rule. length (tuples_split s rule))) (take_all c.simplices.place hand.delta (omega (arith, past, long, each, rules))) in
    let left = c.simplices.invariant.left in
    let few : tuples_made (tuples_split s) hand ≤ most_at_hand = omega (arith, all, left) in
    step_at_hand t rows (map vec_items c.simplices.found.items) (tuples_split s) c.requires.at_hand (omega (arith, found, counted, past, stop, long, each)) (λ i low. c.simplices.invariant.made i (omega (arith, low, each, long, past))) few
    (λ i low u h. split_long s (rule_at hand i) (good_rule t rows i c.requires.at_hand (omega (arith, low, each))).long u h)

pub returns-clause-within : goal.returns-clause-within
returns-clause-within c =
    let t = c.args.task.now in
    let rows = map vec_items c.args.rows.now in
    let hand = at_hand t rows in
    let ins = c.simplices-simplices.ensures.simplices ∙ c.inputs.ensures.inputs in
    let of = rule_found t vec_items c.args.rows.now c.args.simplex c.simplices-simplices.result.now c.index-simplices-simplex.result c.index-rows-simplex.result c.requires.at_hand c.requires.simplex ins c.index-simplices-simplex.is c.index-rows-simplex.is in
    let same = same_splitting hand c.args.simplex c.index-simplices-simplex.result c.deref.result.now c.index-rows-simplex.result.items c.new_name-new.result of.0 c.deref.ensures.value c.new_name-new.ensures.name in
    let each = c.requires.at_hand.each in
    let long = length-map c.args.rows.now vec_items in
    let rules = length-rules_seen (inputs t) rows each in
    let past = c.simplices-test.false in
    let stop = c.simplices.auto.place-end in
    let counted = c.simplices.invariant.count in
    let found = length-map c.simplices.found.items vec_items in
    let s = split_seen c.in_ok-split.split in
    let is : s ≡ by_stars (rule_at hand c.args.simplex) (new_name hand) = c.in_ok-split.ensures.seen ∙ same in
    let all : sum_by (λ rule. length (tuples_split s rule)) (take c.simplices.place hand.delta) ≡ tuples_made (tuples_split s) hand = ap (sum_by (λ rule. length (tuples_split s rule))) (take_all c.simplices.place hand.delta (omega (arith, past, long, each, rules))) in
    let left = c.simplices.invariant.left in
    let few : tuples_made (tuples_split s) hand ≤ most_at_hand = omega (arith, all, left) in
    let small = subst (λ q. list_any (has_large_name q) q.rule.tuples ≡ false) same c.in_ok-split.ensures.small in
    no_large_name (by_stars (rule_at hand c.args.simplex) (new_name hand)) hand small
    ∙ few_tuples (tuples_split (by_stars (rule_at hand c.args.simplex) (new_name hand))) hand (subst (λ q. tuples_made (tuples_split q) hand ≤ most_at_hand) is few)
