use Rattle.std.proofs.Common.{◌<◌, ◌+◌, drop, length, take, arith, ap}
use Rattle.std.proofs.Math.ListN.{set}
use Rattle.std.proofs.lemmas.Result.{err_from_is_err_and}
use Rattle.wf_base.specs.Set.Sets.{values_in}
use Rattle.wf_tree_model.specs.Tuples.{choices_of}
use Rattle.wf_tree_refine.specs.Choices.{chosen_by}
use Rattle.wf_tree_refine.proofs.Making.{choice_counted, choice_pushed, too_many_more}
use Rattle.wf_tree_refine.proofs.choices.+push_choices.Goals as goal

pub values-preserved : goal.values-preserved
values-preserved t c =
    let place = c.args.place in
    let low : place < length c.args.values = let room = c.values.invariant.room in let inside = c.if-place-size.false in let few = c.size.ensures.few in let at = c.requires.place in let size = c.size.ensures.count in omega (arith, room, inside, few, at, size) in
    record {
      room = c.values.invariant.room;
      within = c.in_ok-push_choices.ensures.within;
      whole = choice_pushed c.values.found.items c.push_choices.new.found.items c.args.values _ place c.in-Some.next.0
          (choices_of (chosen_by c.args.chooser.now.sets.now) (drop (place + 1) c.args.chooser.now.processes.now) (drop (place + 1) c.args.row.now)) (values_in c.values.left) (values_in c.in-Some.next.1) _
          low (ap (λ n. set c.args.values n c.in-Some.next.0) c.from-in-Some.ensures) c.in-Some.ensures c.in_ok-push_choices.ensures.pushed c.values.invariant.whole;
    }

pub returns-in_err-push_choices-clause-refused : goal.returns-in_err-push_choices-clause-refused
returns-in_err-push_choices-clause-refused t c =
    let place = c.args.place in
    let sets = chosen_by c.args.chooser.now.sets.now in
    let p = err_from_is_err_and c.from_residual.result c.from_residual.ensures.1 in
    rw (p.1, p.2)
    (too_many_more c.in_err-push_choices.field-0.0 _ _ _
    (choice_counted c.values.found.items c.args.found.now.items (take place c.args.values) (take place c.args.values) c.in-Some.next.0
    (choices_of sets (drop (place + 1) c.args.chooser.now.processes.now) (drop (place + 1) c.args.row.now))
    (choices_of sets (drop place c.args.chooser.now.processes.now) (drop place c.args.row.now)) (values_in c.values.left) (values_in c.in-Some.next.1) c.in-Some.ensures c.values.invariant.whole)
    c.in_err-push_choices.ensures.refused)
