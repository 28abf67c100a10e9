use Rattle.std.proofs.Common.{[], map, ◌≡◌, ◌≤◌, None, length, get_or, refl, sym, ap, ◌∙◌, subst, arith, eqb-true, inl, inr}
use Rattle.std.specs.Bool.{OnTrue}
use Rattle.std.proofs.lemmas.List.{length-map, nil_from_length}
use Rattle.wf_model.specs.Simplex.{processes_of}
use Rattle.wf_model.specs.Problem.{Problem, constraint_at}
use Rattle.wf_model.specs.Closing.{Step, and_then, lost}
use Rattle.wf_lane.specs.Table.{HasSupported}
use Rattle.wf_base.specs.Set.Sets.{box_of, values_in}
use Rattle.wf_network.specs.Problems.{IsWithin, constraint_in, constraint_seen}
use Rattle.wf_network.specs.Revising.{AreSame, found_at}
use Rattle.wf_box.specs.Steps.{NamesLost, loss, point_if, reached, revision, take_present}
use Rattle.wf_box.specs.Working.{IsSilent}
use Rattle.wf_network.specs.declared.problem.Rule.{Rule}
use Rattle.wf_box.proofs.StepLemmas.{lost_in_turn, then_keeps}
use Rattle.wf_box.proofs.NameLemmas.{named_none, named_then, point_of_place}
use Rattle.wf_box.proofs.QuietLemmas.{nothing_lost, untouched_none, untouched_then}
use Rattle.wf_box.proofs.PlaceLemmas.{loses_nothing, place_done, no_place_more}
use Rattle.wf_box.proofs.WorkLemmas.{found_now, proceeds_marked, proceeds_none, proceeds_then, still_working, supported_now}
use Rattle.wf_model.specs.Box.{count}
use Rattle.wf_network.proofs.Lemmas.{left_supports, execution_is, execution_told, execution_within, known_at}
use Rattle.wf_box.proofs.revision.remove_unsupported.Goals as goal

pub places-init : goal.places-init
places-init g c = (
  λ p at. named_none p c.args.lines.now.items c.args.workspace.now.tracked.words.items,
  ap (λ (s : Step). and_then (reached c.args.lines.now.items None c.args.workspace.now.tracked.words.items) (λ _. s)) (sym (lost_in_turn c.args.number (constraint_seen c.args.network.now.rules.items c.execution-execution.result) (box_of c.args.workspace.now.tracked.words.items))),
  proceeds_none _ _ _ _ c.requires.revising.working,
  untouched_none c.args.network.now.users c.args.workspace.now.tracked.words.items c.args.workspace.now.marks.words.items,
  λ none. refl,
)

-- a place that loses nothing is passed over
pub places-preserved-then-is_empty : goal.places-preserved-then-is_empty
places-preserved-then-is_empty g c =
    let n = c.args.network.now in
    let x = c.execution-execution.result in
    let rule = c.index-rule.result.now in
    let words = c.args.workspace.now.tracked.words.items in
    let inside = execution_within n c.args.number x c.requires.revising.network c.requires.revising.number c.execution-execution.ensures in
    let known = known_at n.rules.items n.points x rule inside c.requires.revising.network.wide c.index-rule.ensures in
    let now = reached c.places.lines.items None c.places.workspace.tracked.words.items in
    let none : values_in (g.C.Set.ValueSet.wide c.lost-lost.result) ≡ [] = nil_from_length _ (eqb-true _ 0 (sym c.is_empty.ensures ∙ c.if-is_empty.true)) in
    let step : now ≡ and_then now (take_present c.args.number (map (loss (get_or (processes_of rule.simplex) c.places.place 0) (get_or x.points c.places.place 0)) (values_in (g.C.Set.ValueSet.wide c.lost-lost.result)))) =
    sym (then_keeps now) ∙ ap (λ vs. and_then now (take_present c.args.number (map (loss (get_or (processes_of rule.simplex) c.places.place 0) (get_or x.points c.places.place 0)) vs))) (sym none) in
    let done = place_done n.rules.items x rule words (g.C.Candidates.at_places c.args.judged.found) (g.C.Candidates.at_places c.args.judged.supported) c.args.number c.places.place (get_or (processes_of rule.simplex) c.places.place 0) (g.C.Set.ValueSet.wide c.lost-lost.result)
    now _ known (subst (λ m. IsWithin (length n.rules.items) m x) (sym c.requires.revising.working.long) inside) (omega (arith, c.places-processes.ensures.count, c.places-processes.ensures.few)) (omega (arith, c.places-processes.ensures.count, c.places-test.true))
    (found_now n c.args.number x words (g.C.Candidates.at_places c.args.judged.found) c.requires.revising.number c.execution-execution.ensures c.requires.found) (supported_now n c.args.number x words (g.C.Candidates.at_places c.args.judged.found) (g.C.Candidates.at_places c.args.judged.supported) c.requires.revising.number c.execution-execution.ensures c.requires.found c.requires.supported) refl c.lost-lost.ensures step in
    (c.places.invariant.0, done ∙ c.places.invariant.1, c.places.invariant.2, c.places.invariant.3, c.places.invariant.4)

pub places-preserved : goal.places-preserved
places-preserved g c =
    let n = c.args.network.now in
    let x = c.execution-execution.result in
    let rule = c.index-rule.result.now in
    let words = c.args.workspace.now.tracked.words.items in
    let inside = execution_within n c.args.number x c.requires.revising.network c.requires.revising.number c.execution-execution.ensures in
    let known = known_at n.rules.items n.points x rule inside c.requires.revising.network.wide c.index-rule.ensures in
    let step = ap (λ b. reached c.remove_from_point.new.lines.items (point_if b (get_or x.points c.places.place 0)) c.remove_from_point.new.workspace.tracked.words.items) (sym c.if-remove_from_point.false) ∙ c.remove_from_point.ensures.step in
    let done = place_done n.rules.items x rule words (g.C.Candidates.at_places c.args.judged.found) (g.C.Candidates.at_places c.args.judged.supported) c.args.number c.places.place c.process_at.result (g.C.Set.ValueSet.wide c.lost-lost.result)
    (reached c.places.lines.items None c.places.workspace.tracked.words.items) _ known (subst (λ m. IsWithin (length n.rules.items) m x) (sym c.requires.revising.working.long) inside) (omega (arith, c.places-processes.ensures.count, c.places-processes.ensures.few)) (omega (arith, c.places-processes.ensures.count, c.places-test.true))
    (found_now n c.args.number x words (g.C.Candidates.at_places c.args.judged.found) c.requires.revising.number c.execution-execution.ensures c.requires.found) (supported_now n c.args.number x words (g.C.Candidates.at_places c.args.judged.found) (g.C.Candidates.at_places c.args.judged.supported) c.requires.revising.number c.execution-execution.ensures c.requires.found c.requires.supported) c.process_at.ensures c.lost-lost.ensures step
    ∙ c.places.invariant.1 in
    let named : (p : Problem) → constraint_at p c.args.number ≡ constraint_seen n.rules.items x → NamesLost p c.args.lines.now c.args.workspace.now c.remove_from_point.new.lines c.remove_from_point.new.workspace = λ p at.
    named_then p _ _ _ _ _ _ (c.places.invariant.0 p at)
    (c.remove_from_point.ensures.named p (point_of_place p n.rules.items x rule n.points c.args.number c.places.place c.process_at.result known inside c.places-processes.ensures.simplex
    (omega (arith, c.places-processes.ensures.count, c.places-processes.ensures.few)) (omega (arith, c.places-processes.ensures.count, c.places-test.true)) c.process_at.ensures at)) in
    let user = execution_told n c.args.number x c.requires.revising.network c.requires.revising.number c.execution-execution.ensures c.places.place (omega (arith, c.places-test.true, c.places-processes.ensures.few)) in
    let silent : IsSilent c.args.number c.args.workspace.now c.remove_from_point.new.workspace = λ none.
    c.remove_from_point.ensures.silent c.args.number user none ∙ c.places.invariant.4 ((c.remove_from_point.ensures.untouched c.args.number none).0) in
    (named, done, proceeds_then _ _ _ _ _ _ c.places.workspace _ _ c.places.invariant.2 c.if-remove_from_point.ensures.proceeds, untouched_then n.users _ _ _ _ _ _ c.places.invariant.3 c.remove_from_point.ensures.untouched, silent)

pub are_left-all_left-requires-clause-within : goal.are_left-all_left-requires-clause-within
are_left-all_left-requires-clause-within g c =
    let inside = execution_within c.args.network.now c.args.number c.execution-execution.result c.requires.revising.network c.requires.revising.number c.execution-execution.ensures in
    λ i d low. omega (arith, inside.points_within i d low, c.places.invariant.2.long, ap length c.deref.ensures.value)

pub unmark-requires : goal.unmark-requires
unmark-requires g c = omega (arith, c.requires.revising.number, c.places.invariant.2.marks_long)

pub remove_from_point-requires : goal.remove_from_point-requires
remove_from_point-requires g c = record {
  network = c.requires.revising.network;
  point =
      let within = execution_within c.args.network.now c.args.number c.execution-execution.result c.requires.revising.network c.requires.revising.number c.execution-execution.ensures in
      within.points_within c.places.place 0 (omega (arith, c.places-test.true, c.places-processes.ensures.few, within.long));
  working = still_working _ _ _ _ _ _ c.places.invariant.2;
}

pub returns-then-remove_from_point : goal.returns-then-remove_from_point
returns-then-remove_from_point g c = record {
  step =
      let n = c.args.network.now in
      let x = c.execution-execution.result in
      let rule = c.index-rule.result.now in
      let words = c.args.workspace.now.tracked.words.items in
      let inside = execution_within n c.args.number x c.requires.revising.network c.requires.revising.number c.execution-execution.ensures in
      let known = known_at n.rules.items n.points x rule inside c.requires.revising.network.wide c.index-rule.ensures in
      let step = ap (λ b. reached c.remove_from_point.new.lines.items (point_if b (get_or x.points c.places.place 0)) c.remove_from_point.new.workspace.tracked.words.items) (sym c.if-remove_from_point.true) ∙ c.remove_from_point.ensures.step in
      let done = place_done n.rules.items x rule words (g.C.Candidates.at_places c.args.judged.found) (g.C.Candidates.at_places c.args.judged.supported) c.args.number c.places.place c.process_at.result (g.C.Set.ValueSet.wide c.lost-lost.result)
      (reached c.places.lines.items None c.places.workspace.tracked.words.items) _ known (subst (λ m. IsWithin (length n.rules.items) m x) (sym c.requires.revising.working.long) inside) (omega (arith, c.places-processes.ensures.count, c.places-processes.ensures.few)) (omega (arith, c.places-processes.ensures.count, c.places-test.true))
      (found_now n c.args.number x words (g.C.Candidates.at_places c.args.judged.found) c.requires.revising.number c.execution-execution.ensures c.requires.found) (supported_now n c.args.number x words (g.C.Candidates.at_places c.args.judged.found) (g.C.Candidates.at_places c.args.judged.supported) c.requires.revising.number c.execution-execution.ensures c.requires.found c.requires.supported) c.process_at.ensures c.lost-lost.ensures step
      ∙ c.places.invariant.1 in
      let seen : constraint_in n c.args.number ≡ constraint_seen n.rules.items x = ap (constraint_seen n.rules.items) (execution_is n c.args.number x c.requires.revising.number c.execution-execution.ensures) in
      done ∙ ap (λ k. and_then (reached c.args.lines.now.items None words) (revision c.args.number k)) (sym seen);
  proceeds = proceeds_then _ _ _ _ _ _ c.places.workspace _ _ c.places.invariant.2 c.if-remove_from_point.ensures.proceeds;
  untouched = λ e other none. untouched_then c.args.network.now.users _ _ _ _ _ _ c.places.invariant.3 c.remove_from_point.ensures.untouched e none;
  quiet = tt;
  named =
      let n = c.args.network.now in
      let x = c.execution-execution.result in
      let rule = c.index-rule.result.now in
      let words = c.args.workspace.now.tracked.words.items in
      let inside = execution_within n c.args.number x c.requires.revising.network c.requires.revising.number c.execution-execution.ensures in
      let known = known_at n.rules.items n.points x rule inside c.requires.revising.network.wide c.index-rule.ensures in
      let named : (p : Problem) → constraint_at p c.args.number ≡ constraint_seen n.rules.items x → NamesLost p c.args.lines.now c.args.workspace.now c.remove_from_point.new.lines c.remove_from_point.new.workspace = λ p at.
      named_then p _ _ _ _ _ _ (c.places.invariant.0 p at)
      (c.remove_from_point.ensures.named p (point_of_place p n.rules.items x rule n.points c.args.number c.places.place c.process_at.result known inside c.places-processes.ensures.simplex
      (omega (arith, c.places-processes.ensures.count, c.places-processes.ensures.few)) (omega (arith, c.places-processes.ensures.count, c.places-test.true)) c.process_at.ensures at)) in
      let seen : constraint_in n c.args.number ≡ constraint_seen n.rules.items x = ap (constraint_seen n.rules.items) (execution_is n c.args.number x c.requires.revising.number c.execution-execution.ensures) in
      λ p at. named p (at ∙ seen);
}

pub returns : goal.returns
returns g c = record {
  step =
      let n = c.args.network.now in
      let x = c.execution-execution.result in
      let rule = c.index-rule.result.now in
      let words = c.args.workspace.now.tracked.words.items in
      let inside = execution_within n c.args.number x c.requires.revising.network c.requires.revising.number c.execution-execution.ensures in
      let known = known_at n.rules.items n.points x rule inside c.requires.revising.network.wide c.index-rule.ensures in
      let seen : constraint_in n c.args.number ≡ constraint_seen n.rules.items x = ap (constraint_seen n.rules.items) (execution_is n c.args.number x c.requires.revising.number c.execution-execution.ensures) in
      let ps = processes_of rule.simplex in
      let count : length ps ≡ length rule.simplex = length-map rule.simplex (λ v. v.0) in
      sym (no_place_more (reached c.places.lines.items None c.places.workspace.tracked.words.items) c.args.number (box_of words) (constraint_seen n.rules.items x) c.places.place ps x.points known.scope
      (omega (arith, count, c.places-processes.ensures.count, c.places-test.false)) (omega (arith, count, c.places-processes.ensures.count, c.places-processes.ensures.few, inside.long)))
      ∙ c.places.invariant.1
      ∙ ap (λ k. and_then (reached c.args.lines.now.items None words) (revision c.args.number k)) (sym seen);
  proceeds = proceeds_marked _ _ _ _ _ c.places.workspace _ _ c.unmark.ensures.long c.places.invariant.2;
  untouched = λ e other none. c.places.invariant.3 e (sym (c.unmark.ensures.others e other) ∙ none);
  quiet = λ none.
      let n = c.args.network.now in
      let x = c.execution-execution.result in
      let rule = c.index-rule.result.now in
      let words = c.args.workspace.now.tracked.words.items in
      let fewer = c.places.workspace.tracked.words.items in
      let done = c.places.invariant.2 in
      let inside = execution_within n c.args.number x c.requires.revising.network c.requires.revising.number c.execution-execution.ensures in
      let known = known_at n.rules.items n.points x rule inside c.requires.revising.network.wide c.index-rule.ensures in
      let seen : constraint_in n c.args.number ≡ constraint_seen n.rules.items x = ap (constraint_seen n.rules.items) (execution_is n c.args.number x c.requires.revising.number c.execution-execution.ensures) in
      let few : length rule.simplex ≤ 4 = omega (arith, c.places-processes.ensures.count, c.places-processes.ensures.few) in
      let ps = processes_of rule.simplex in
      let many : length ps ≡ length rule.simplex = length-map rule.simplex (λ v. v.0) in
      let step : reached c.places.lines.items None fewer ≡ and_then (reached c.args.lines.now.items None words) (revision c.args.number (constraint_seen n.rules.items x)) =
      sym (no_place_more (reached c.places.lines.items None fewer) c.args.number (box_of words) (constraint_seen n.rules.items x) c.places.place ps x.points known.scope
      (omega (arith, many, c.places-processes.ensures.count, c.places-test.false)) (omega (arith, many, c.places-processes.ensures.count, c.places-processes.ensures.few, inside.long)))
      ∙ c.places.invariant.1 in
      let left = found_at x c.deref.result.now in
      let left_here : left ≡ found_at x fewer = ap (found_at x) c.deref.ensures.value in
      let left_long : length left ≡ 4 = length-map x.points (λ v. get_or c.deref.result.now v []) ∙ inside.long in
      let right : HasSupported (g.C.Candidates.at_places c.args.judged.supported) rule.table (g.C.Candidates.at_places c.args.judged.found) =
      subst (λ (r : Rule). HasSupported (g.C.Candidates.at_places c.args.judged.supported) r.table (g.C.Candidates.at_places c.args.judged.found)) known.is
      (supported_now n c.args.number x words (g.C.Candidates.at_places c.args.judged.found) (g.C.Candidates.at_places c.args.judged.supported) c.requires.revising.number c.execution-execution.ensures c.requires.found c.requires.supported) in
      ap (lost (box_of fewer)) seen
      ∙ elim (c.unmark.ensures.left none) [
        | inl is ↦
            loses_nothing n.rules.items x rule fewer left known (subst (λ m. IsWithin (length n.rules.items) m x) (sym done.long) inside) few left_here
            (left_supports rule.table (g.C.Candidates.at_places c.args.judged.supported) (g.C.Candidates.at_places c.args.judged.found) left (omega (arith, known.wide, few, c.requires.long)) (omega (arith, known.wide, few, left_long)) right
            (λ i low. subst (λ b. OnTrue b (AreSame c.places-processes.result left (g.C.Candidates.at_places c.args.judged.supported))) is c.are_left-all_left.ensures.left i (omega (arith, low, known.wide, c.places-processes.ensures.count))))
        | inr before ↦
            (let kept = c.places.invariant.4 before in
            nothing_lost (constraint_seen n.rules.items x) c.args.lines.now.items c.places.lines.items words fewer c.args.number kept
            (omega (arith, done.ends.1, ap (λ ws. count (box_of ws)) kept, c.places.lines.ok.0, c.args.lines.now.ok.0)) step)
      ];
  named =
      let n = c.args.network.now in
      let x = c.execution-execution.result in
      let seen : constraint_in n c.args.number ≡ constraint_seen n.rules.items x = ap (constraint_seen n.rules.items) (execution_is n c.args.number x c.requires.revising.number c.execution-execution.ensures) in
      λ p at. c.places.invariant.0 p (at ∙ seen);
}
