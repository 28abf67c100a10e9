use Rattle.std.proofs.Common.{◌≡◌, sym, subst, arith, ap, length, ◌∙◌}
use Rattle.std.proofs.lemmas.List.{length-map}
use Rattle.std.proofs.lemmas.Grind.{common_steps}
use Rattle.wf_model.specs.Laws.{IsBoxOf}
use Rattle.wf_model.specs.Closing.{closing}
use Rattle.wf_base.specs.Set.Sets.{box_of, values_in}
use Rattle.wf_box.specs.Boxes.{Grows, IsFor, Tracked}
use Rattle.wf_box.specs.Closes.{Leaves}
use Rattle.wf_network.specs.Problems.{constraint_seen, executions_in}
use Rattle.wf_box.specs.Quiet as quiet
use Rattle.wf_network.specs.Revising.{AreKnown, answers_in}
use Rattle.wf_box.proofs.ChangeLemmas.{room_now}
use Rattle.wf_box.proofs.CloseLemmas.{is_box, left_of, was_closed}
use Rattle.wf_box.proofs.SeenLemmas.{grown_seen, if_was, tracked_seen, was_seen}
use Rattle.wf_box.proofs.WorkLemmas.{emptied_so}
use Rattle.wf_box.proofs.closing.close.Goals.{in-Open, in-Empty}
use Rattle.wf_box.proofs.closing.close.Goals as goal

pub overflow_cast-boxed : goal.overflow_cast-boxed
overflow_cast-boxed c = omega (arith, c.len.ensures, c.close_tracked-closed.new.workspace.tracked.trail.ok.0, room_now _ _ _ _ c.close_tracked-closed.ensures.proceeds.kept, c.close_tracked-closed.ensures.proceeds.kept.small)

pub close_tracked-closed-requires-clause-closed : goal.close_tracked-closed-requires-clause-closed
close_tracked-closed-requires-clause-closed c =
    let t = c.boxed.inside.workspace.tracked in
    let is : IsFor c.args.problem.now (tracked_seen t.words.items t.trail.items c.boxed.inside.closed (answers_in c.boxed.inside.workspace.memo)) = subst (IsFor c.args.problem.now) (sym c.boxed.view_is) c.requires in
    if_was c.args.problem.now t.trail.items t.words.items c.boxed.inside.closed (answers_in c.boxed.inside.workspace.memo) is.closed

pub returns-clause-grown : goal.returns-clause-grown
returns-clause-grown c =
    let t = c.boxed.inside.workspace.tracked in
    let n = c.close_tracked-closed.new.workspace.tracked in
    subst (λ (b : Tracked). Grows b (tracked_seen n.words.items n.trail.items c.match-closed.boxed (answers_in c.close_tracked-closed.new.workspace.memo))) c.boxed.view_is (grown_seen t.words.items t.trail.items n.words.items n.trail.items c.boxed.inside.closed c.match-closed.boxed (answers_in c.boxed.inside.workspace.memo) (answers_in c.close_tracked-closed.new.workspace.memo) c.close_tracked-closed.ensures.proceeds.grown)

pub close_tracked-closed-requires-clause-working : goal.close_tracked-closed-requires-clause-working
close_tracked-closed-requires-clause-working c =
    let t = c.boxed.inside.workspace.tracked in
    let n = c.network-network.result.now in
    let is : IsBoxOf c.args.problem.now (box_of t.words.items) = subst (λ (b : Tracked). IsBoxOf c.args.problem.now b.sets) (sym c.boxed.view_is) c.requires.is_box in
    let executions : length (executions_in n) ≡ length c.args.problem.now.constraints = sym (length-map (executions_in n) (constraint_seen n.rules.items)) ∙ ap length c.network-network.ensures.constraints in
    record {
      kept = c.boxed.invariant.tracked;
      long = sym (length-map t.words.items values_in) ∙ is.long;
      marks_long = omega (arith, c.in_ok-reserve-2.ensures, executions, c.execution_count-executions.ensures);
      room = grind (arith, common_steps);
      known = c.grow.ensures c.args.problem.now.constraints (subst (λ (b : Tracked). AreKnown c.args.problem.now.constraints b.known) (sym c.boxed.view_is) c.requires.known);
    }

pub returns-clause-is : goal.returns-clause-is
returns-clause-is c =
    let t = c.close_tracked-closed.new.workspace.tracked in
    let e = c.close_tracked-closed.ensures in
    let p = c.args.problem.now in
    let before = c.boxed.inside.workspace.tracked.words.items in
    let left : Leaves (closing p (box_of before)).left (box_of t.words.items) c.close_tracked-closed.result = left_of p c.reserve.new.self.items c.close_tracked-closed.new.lines.items before t.words.items c.close_tracked-closed.result e.step in
    let is : IsBoxOf p (box_of before) = subst (λ (b : Tracked). IsBoxOf p b.sets) (sym c.boxed.view_is) c.requires.is_box in
    record {
      is_box = is_box p t.words.items e.proceeds.long;
      closed = elim c.match-closed.branch [
        | in-Open w ↦
            let n : w.len.result ≡ length t.trail.items = omega (arith, w.len.ensures, t.trail.ok.0) in
            rw w.boxed-is
            (was_seen p t.trail.items t.words.items _ _ w.len.result
            (subst (quiet.WasClosed p t.trail.items t.words.items) (sym n) (was_closed p (box_of before) t.words.items t.trail.items w.in-Open.sweeps is (subst (Leaves (closing p (box_of before)).left (box_of t.words.items)) w.in-Open.is left))))
        | in-Empty w ↦ rw w.boxed-is tt
      ];
      known = e.proceeds.known;
    }

pub returns-clause-emptied : goal.returns-clause-emptied
returns-clause-emptied c = emptied_so c.reserve.new.self c.close_tracked-closed.new.lines c.boxed.inside.workspace.tracked c.close_tracked-closed.new.workspace.tracked c.close_tracked-closed.result c.close_tracked-closed.ensures.proceeds.ends
