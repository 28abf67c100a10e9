use Rattle.std.proofs.Common.{◌≤◌, ◌+◌, length, refl, rules, subst, sym, ap, ◌∙◌, arith}
use Rattle.wf_base.specs.Set.Sets.{values_in}
use Rattle.wf_tree_model.specs.Tuples.{value_at}
use Rattle.wf_tree_refine.specs.Names.{first_new}
use Rattle.wf_tree_refine.proofs.Membership.{row_here}
use Rattle.wf_tree_refine.proofs.NameSteps.{IsNaming, all_named, large_name, new_part, no_name, old_name}
use Rattle.wf_tree_refine.proofs.Ranks.{pushed}
use Rattle.wf_tree_refine.proofs.names.component_names.Goals as goal
use Rattle.wf_tree_refine.proofs.names.component_names.Goals.{then-numbers-number+in_ok-name, else-numbers-number}

pub returns-in_err-name-clause-refused : goal.returns-in_err-name-clause-refused
returns-in_err-name-clause-refused c = λ e parts f.
    let rows = c.args.rows.now in
    let number = c.rows.number in
    let inside = c.rows-test.true in
    let row = row_here rows number c.index-rows-number.result inside c.index-rows-number.is in
    large_name c.args.place c.args.new rows c.args.numbers.now parts f number c.rows.names.items c.rows.next c.value-value.result (values_in c.rows.seen) inside c.requires.each
    (c.if-numbers-number.true ∙ c.len.ensures ∙ c.rows.names.ok.0) (c.value-value.ensures ∙ ap (λ t. value_at t c.args.place) row) c.in_err-name.ensures.seen c.in_err-name.ensures.large (c.rows.invariant.naming parts f)

pub rows-init : goal.rows-init
rows-init c = record {
  few = c.requires.new;
  count = (let e = ap length c.in_ok-names.ensures.items in omega (arith, e));
  room = search rules;
  naming = λ parts f. subst (λ names. IsNaming c.args.place c.args.new c.args.numbers.now parts 0 names c.args.new (values_in c.empty-seen.result)) (sym c.in_ok-names.ensures.items)
      (no_name c.args.place c.args.new c.args.numbers.now parts (values_in c.empty-seen.result) c.empty-seen.ensures);
}

pub rows-preserved : goal.rows-preserved
rows-preserved c =
    let rows = c.args.rows.now in
    let number = c.rows.number in
    let inside = c.rows-test.true in
    let before = c.rows.invariant in
    let row = row_here rows number c.index-rows-number.result inside c.index-rows-number.is in
    elim c.if-numbers-number.branch [
      | then-numbers-number+in_ok-name w ↦
          let items = ap (λ r. r.items) w.names-is ∙ w.push_reserved.ensures.items in
          let more = ap length items ∙ pushed c.rows.names.items w.in_ok-name.name (length c.rows.names.items) refl in
          record {
            few = subst (λ n. n ≤ first_new) (sym w.next-is) w.in_ok-name.ensures.few;
            count = (let few = before.count in omega (arith, more, few));
            room = ap (λ r. r.cap) w.names-is ∙ w.push_reserved.ensures.capacity ∙ before.room;
            naming = λ parts f.
                subst (λ n. IsNaming c.args.place c.args.new c.args.numbers.now parts (number + 1) c.if-numbers-number.names.items n (values_in c.if-numbers-number.seen)) (sym w.next-is)
                (subst (λ s. IsNaming c.args.place c.args.new c.args.numbers.now parts (number + 1) c.if-numbers-number.names.items w.in_ok-name.after (values_in s)) (sym w.seen-is)
                (new_part c.args.place c.args.new rows c.args.numbers.now parts f number c.rows.names.items c.if-numbers-number.names.items (values_in w.with-more.result) w.in_ok-name.name c.rows.next w.in_ok-name.after w.value-value.result (values_in c.rows.seen) inside
                (w.if-numbers-number.true ∙ c.len.ensures ∙ c.rows.names.ok.0) (w.value-value.ensures ∙ ap (λ t. value_at t c.args.place) row) w.in_ok-name.ensures.name w.in_ok-name.ensures.next w.with-more.ensures items (before.naming parts f)));
          }
      | else-numbers-number w ↦
          let items = ap (λ r. r.items) w.names-is in
          record {
            few = subst (λ n. n ≤ first_new) (sym w.next-is) before.few;
            count = (let few = before.count in let e = ap length items in omega (arith, e, few));
            room = ap (λ r. r.cap) w.names-is ∙ before.room;
            naming = λ parts f.
                subst (λ n. IsNaming c.args.place c.args.new c.args.numbers.now parts (number + 1) c.if-numbers-number.names.items n (values_in c.if-numbers-number.seen)) (sym w.next-is)
                (subst (λ s. IsNaming c.args.place c.args.new c.args.numbers.now parts (number + 1) c.if-numbers-number.names.items c.rows.next (values_in s)) (sym w.seen-is)
                (subst (λ ns. IsNaming c.args.place c.args.new c.args.numbers.now parts (number + 1) ns c.rows.next (values_in c.rows.seen)) (sym items)
                (old_name c.args.place c.args.new rows c.args.numbers.now parts f number c.rows.names.items c.rows.next (values_in c.rows.seen) inside (λ e. w.if-numbers-number.false (e ∙ sym (c.len.ensures ∙ c.rows.names.ok.0))) (before.naming parts f))));
          }
    ]

pub returns-clause-names : goal.returns-clause-names
returns-clause-names c = λ parts f.
    let past = c.rows-test.false in
    all_named c.args.place c.args.new c.args.rows.now c.args.numbers.now parts f c.rows.number c.rows.names.items c.rows.next (values_in c.rows.seen) past (c.rows.invariant.naming parts f)
