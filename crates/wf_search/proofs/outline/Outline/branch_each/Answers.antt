use Rattle.std.proofs.Common.{◌∙◌, ◌++◌, ap, sym, subst, flat_map, map, arith}
use Rattle.std.specs.List.{AllByRecursion}
use Rattle.wf_model.specs.Outline.{opened}
use Rattle.wf_search.specs.declared.outline.Gap.{Gap}
use Rattle.wf_search.specs.Outline.{IsClosedBox, IsJustClosed, gap_seen}
use Rattle.wf_search.proofs.OutlineLemmas.{opened_step, opened_last, boxes_of_gaps, closed_for, none_of}
use Rattle.wf_search.proofs.outline.Outline.branch_each.Goals as goal

pub loop-gap-init : goal.loop-gap-init
loop-gap-init c = record {
  boxes = subst (λ gaps. AllByRecursion (IsClosedBox c.args.problem.now) (map (λ (gap : Gap). gap.boxed.sets) gaps)) (sym c.into_iter-gap-iterator.ensures.into_iter_gives.0)
      (boxes_of_gaps (IsClosedBox c.args.problem.now) c.self.inside.gaps.items c.self.inside.after.items c.args.self c.self.view_is c.requires.boxes);
  closed = subst (AllByRecursion (λ (gap : Gap). IsJustClosed gap.boxed)) (sym c.into_iter-gap-iterator.ensures.into_iter_gives.0) c.self.invariant;
  answers = c.requires.answers;
  items = ap (λ items. items ++ flat_map (opened c.args.problem.now) (flat_map gap_seen c.into_iter-gap-iterator.result.rest.items)) c.new-outline.ensures;
}

pub open-requires : goal.open-requires
open-requires c =
    let boxes = subst (λ gaps. AllByRecursion (IsClosedBox c.args.problem.now) (map (λ (gap : Gap). gap.boxed.sets) gaps)) c.in-Some.ensures.steps.0 c.loop-gap.invariant.boxes in
    let closed = subst (AllByRecursion (λ (gap : Gap). IsJustClosed gap.boxed)) c.in-Some.ensures.steps.0 c.loop-gap.invariant.closed in
    record { boxed = closed_for c.args.problem.now c.in-Some.gap.boxed closed.0 boxes.0; closed = closed.0; answers = c.loop-gap.invariant.answers }

pub loop-gap-preserved : goal.loop-gap-preserved
loop-gap-preserved c = record {
  boxes = (subst (λ gaps. AllByRecursion (IsClosedBox c.args.problem.now) (map (λ (gap : Gap). gap.boxed.sets) gaps)) c.in-Some.ensures.steps.0 c.loop-gap.invariant.boxes).1;
  closed = (subst (AllByRecursion (λ (gap : Gap). IsJustClosed gap.boxed)) c.in-Some.ensures.steps.0 c.loop-gap.invariant.closed).1;
  answers = c.in_ok-open.ensures.answers;
  items = opened_step c.args.problem.now c.loop-gap.gap-iterator.rest.items c.next.new.self.rest.items c.in-Some.gap c.loop-gap.outline c.write_all.new.self c.open.new.self _ c.deref.result.now c.in-Some.ensures.steps.0 c.deref.ensures.value
      c.in_ok-write_all.ensures c.in_ok-open.ensures.items c.loop-gap.invariant.items;
}

pub returns-clause-opened : goal.returns-clause-opened
returns-clause-opened c =
    let none = none_of c.loop-gap.gap-iterator.rest.items (let long = c.loop-gap.gap-iterator.rest.ok.0 in let ended = c.in-None.ensures.steps.0 in omega (arith, long, ended)) in
    opened_last c.args.problem.now c.self.inside.gaps.items c.loop-gap.gap-iterator.rest.items c.self.inside.after.items c.deref-2.result.now c.loop-gap.outline c.write_all-2.new.self c.args.self none c.deref-2.ensures.value
    c.in_ok-write_all-2.ensures
    (c.loop-gap.invariant.items ∙ ap (λ gaps. flat_map (opened c.args.problem.now) (flat_map gap_seen gaps)) c.into_iter-gap-iterator.ensures.into_iter_gives.0) c.self.view_is
