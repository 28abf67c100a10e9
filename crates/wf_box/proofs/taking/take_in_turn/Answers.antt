use Rattle.std.proofs.Common.{◌≤◌, get_or, ◌≡◌, [], None, Some, ◌∙◌, sym, ap, map, arith}
use Rattle.std.proofs.lemmas.Grind.{common_steps}
use Rattle.wf_model.specs.Problem.{Problem, constraint_at}
use Rattle.wf_model.specs.Closing.{and_then}
use Rattle.wf_base.specs.Set.Sets.{box_of}
use Rattle.wf_complex.specs.Protocol.{point_in}
use Rattle.wf_box.specs.Steps.{IsNamed, loss, reached, take_present}
use Rattle.wf_box.proofs.StepLemmas.{then_keeps}
use Rattle.std.specs.List.{slice_set}
use Rattle.wf_model.specs.Box.{count}
use Rattle.wf_box.proofs.TakingLemmas.{set_then}
use Rattle.wf_box.proofs.NameLemmas.{named_then}
use Rattle.wf_box.proofs.taking.take_in_turn.Goals.{else-contains-via-then-contains+else-take_out, else-contains-via-else-contains}
use Rattle.wf_box.proofs.taking.take_in_turn.Goals as goal

pub returns-then-take_out-clause-named : goal.returns-then-take_out-clause-named
returns-then-take_out-clause-named c = λ p at. named_then p _ _ _ _ _ _ (c.values.invariant.3 p at) (c.take_out.ensures.named p at)

named_on : (c : goal.Joined-else-contains) → (p : Problem) → point_in c.args.at.process (constraint_at p c.args.at.execution).scope ≡ Some c.args.at.point → IsNamed p c.args.lines.now.items c.args.sets.now c.else-contains.lines.items c.else-contains.sets
named_on c p at =
    elim c.else-contains.branch [
      | else-contains-via-then-contains+else-take_out w ↦
          rw (w.sets-is, w.lines-is) (named_then p _ _ _ _ _ _ (c.values.invariant.3 p at) (w.take_out.ensures.named p at))
      | else-contains-via-else-contains w ↦ rw (w.sets-is, w.lines-is) (c.values.invariant.3 p at)
    ]

others_on : (c : goal.Joined-else-contains) → c.else-contains.sets ≡ slice_set c.args.sets.now c.args.at.point (get_or c.else-contains.sets c.args.at.point [])
others_on c =
    elim c.else-contains.branch [
      | else-contains-via-then-contains+else-take_out w ↦ rw w.sets-is (set_then c.args.sets.now c.values.sets w.take_out.new.sets c.args.at.point c.values.invariant.5 w.take_out.ensures.others)
      | else-contains-via-else-contains w ↦ rw w.sets-is c.values.invariant.5
    ]

fewer_on : (c : goal.Joined-else-contains) → count (box_of c.else-contains.sets) ≤ count (box_of c.args.sets.now)
fewer_on c =
    elim c.else-contains.branch [
      | else-contains-via-then-contains+else-take_out w ↦ rw w.sets-is (omega (arith, c.values.invariant.6, w.take_out.ensures.fewer))
      | else-contains-via-else-contains w ↦ rw w.sets-is c.values.invariant.6
    ]

same_on : (c : goal.Joined-else-contains) → count (box_of c.else-contains.sets) ≡ count (box_of c.args.sets.now) → c.else-contains.sets ≡ c.args.sets.now
same_on c =
    elim c.else-contains.branch [
      | else-contains-via-then-contains+else-take_out w ↦
          rw w.sets-is (λ is. w.take_out.ensures.same (omega (arith, c.values.invariant.6, w.take_out.ensures.fewer, is)) ∙ c.values.invariant.7 (omega (arith, c.values.invariant.6, w.take_out.ensures.fewer, is)))
      | else-contains-via-else-contains w ↦ rw w.sets-is c.values.invariant.7
    ]

pub returns-then-take_out-clause-others : goal.returns-then-take_out-clause-others
returns-then-take_out-clause-others c = set_then c.args.sets.now c.values.sets c.take_out.new.sets c.args.at.point c.values.invariant.5 c.take_out.ensures.others

pub values-preserved : goal.values-preserved
values-preserved c = (grind (arith, common_steps), grind (arith, common_steps), grind (arith, common_steps), named_on c, grind (arith, common_steps), others_on c, fewer_on c, same_on c)

pub returns-clause-step : goal.returns-clause-step
returns-clause-step c =
    sym (then_keeps (reached c.values.lines.items None c.values.sets))
    ∙ sym (ap (λ vs. and_then (reached c.values.lines.items None c.values.sets) (take_present c.args.at.execution (map (loss c.args.at.process c.args.at.point) vs))) c.in_default.ensures)
    ∙ c.values.invariant.4
