use Rattle.std.proofs.Common.{◌<◌, None, Some, length, refl, arith, sym, ◌∙◌, subst, All}
use Rattle.std.proofs.lemmas.List.{length-map}
use Rattle.wf_network.specs.Problems.{IsWithin, constraint_seen, constraints_in, executions_in}
use Rattle.wf_box.specs.Quiet.{IsQuietBut}
use Rattle.wf_network.specs.Users.{no_execution}
use Rattle.wf_base.specs.Set.Sets.{box_of}
use Rattle.wf_box.proofs.NameLemmas.{named_none, named_then, seen_at}
use Rattle.wf_box.proofs.QuietLemmas.{next_turn, pass_all, quiet_again}
use Rattle.wf_box.proofs.WorkLemmas.{proceeds_marked, proceeds_none, proceeds_then}
use Rattle.wf_box.proofs.closing.sweep_marked.Goals as goal

pub marked-init : goal.marked-init
marked-init c = (
  λ p is. named_none p c.args.lines.now.items c.args.workspace.now.tracked.words.items,
  refl,
  proceeds_none _ _ _ _ c.requires.working,
  c.requires.marked,
  omega arith,
)

pub returns-then-number-execution_count-clause-step : goal.returns-then-number-execution_count-clause-step
returns-then-number-execution_count-clause-step c =
    let n = c.args.network.now in
    pass_all (constraints_in n) c.marked.lines.items c.marked.workspace.tracked.words.items c.marked.workspace.marks.words.items c.marked.next _ c.marked.invariant.3 (omega (arith, c.marked.invariant.4, length-map (executions_in n) (constraint_seen n.rules.items)))
    (λ e after before. c.in-Some.ensures.next.first e after (omega (arith, before, c.if-number-execution_count.true, c.execution_count.ensures, length-map (executions_in n) (constraint_seen n.rules.items)))) c.marked.invariant.1

pub returns-then-number-execution_count-clause-proceeds : goal.returns-then-number-execution_count-clause-proceeds
returns-then-number-execution_count-clause-proceeds c = proceeds_marked _ _ _ _ _ c.marked.workspace _ _ c.in-Some.ensures.long c.marked.invariant.2

pub returns-clause-step : goal.returns-clause-step
returns-clause-step c =
    let n = c.args.network.now in
    pass_all (constraints_in n) c.marked.lines.items c.marked.workspace.tracked.words.items c.marked.workspace.marks.words.items c.marked.next _ c.marked.invariant.3 (omega (arith, c.marked.invariant.4, length-map (executions_in n) (constraint_seen n.rules.items)))
    (λ e after before. c.in_default.ensures.last e after) c.marked.invariant.1

pub returns-clause-proceeds : goal.returns-clause-proceeds
returns-clause-proceeds c = proceeds_marked _ _ _ _ _ c.marked.workspace _ _ c.in_default.ensures.long c.marked.invariant.2

pub returns-in-Some-revise-clause-step : goal.returns-in-Some-revise-clause-step
returns-in-Some-revise-clause-step c =
    let n = c.args.network.now in
    next_turn n.rules.items (executions_in n) c.marked.lines.items c.revise.new.lines.items c.marked.workspace.tracked.words.items c.revise.new.workspace.tracked.words.items c.marked.workspace.marks.words.items (Some c.in-Some-revise.point) c.marked.next c.in-Some.number _ c.marked.invariant.3 c.in-Some.ensures.next
    (omega (arith, c.if-number-execution_count.false, c.execution_count.ensures)) c.in-Some-revise.ensures.step c.marked.invariant.1

pub returns-in-Some-revise-clause-proceeds : goal.returns-in-Some-revise-clause-proceeds
returns-in-Some-revise-clause-proceeds c = proceeds_then _ _ _ _ _ _ c.marked.workspace _ _ c.marked.invariant.2 c.in-Some-revise.ensures.proceeds

pub returns-in-Some-revise-clause-named : goal.returns-in-Some-revise-clause-named
returns-in-Some-revise-clause-named c = λ p is.
    named_then p _ _ _ _ _ _ (c.marked.invariant.0 p is) (c.revise.ensures.named p (seen_at p c.args.network.now.rules.items (executions_in c.args.network.now) c.in-Some.number no_execution is (omega (arith, c.if-number-execution_count.false, c.execution_count.ensures))))

pub marked-preserved : goal.marked-preserved
marked-preserved c =
    let n = c.args.network.now in
    let words = c.marked.workspace.tracked.words.items in
    let fewer = c.revise.new.workspace.tracked.words.items in
    let done = c.marked.invariant.2 in
    let low : c.in-Some.number < length (executions_in n) = omega (arith, c.if-number-execution_count.false, c.execution_count.ensures) in
    let r = c.in_default-revise.ensures in
    let step = next_turn n.rules.items (executions_in n) c.marked.lines.items c.revise.new.lines.items words fewer c.marked.workspace.marks.words.items None c.marked.next c.in-Some.number _ c.marked.invariant.3 c.in-Some.ensures.next low r.step c.marked.invariant.1 in
    let but : IsQuietBut c.in-Some.number (constraints_in n) c.take_next.new.self.words.items (box_of words) = λ e other inside none. c.marked.invariant.3 e inside (sym (c.in-Some.ensures.others e other) ∙ none) in
    let quiet = quiet_again n.rules.items (executions_in n) n.users c.in-Some.number words c.take_next.new.self.words.items fewer c.revise.new.workspace.marks.words.items
    (subst (λ m. All (IsWithin (length n.rules.items) m) (executions_in n)) (sym done.long) c.requires.network.within) c.requires.network.told (r.proceeds.long ∙ sym done.long) but r.untouched
    r.quiet in (
      λ p is. named_then p _ _ _ _ _ _ (c.marked.invariant.0 p is) (r.named p (seen_at p n.rules.items (executions_in n) c.in-Some.number no_execution is low)),
      step,
      proceeds_then _ _ _ _ _ _ c.marked.workspace _ _ done r.proceeds,
      quiet,
      omega (arith, low),
    )

-- no execution had the number that was taken
pub returns-then-number-execution_count-clause-marked : goal.returns-then-number-execution_count-clause-marked
returns-then-number-execution_count-clause-marked c =
    let n = c.args.network.now in
    λ e inside none.
    c.marked.invariant.3 e inside (sym (c.in-Some.ensures.others e (λ same. let bad : ⊥ = omega (arith, same, inside, c.if-number-execution_count.true, c.execution_count.ensures, length-map (executions_in n) (constraint_seen n.rules.items)) in bad)) ∙ none)

pub revise-requires : goal.revise-requires
revise-requires c = record {
  network = c.requires.network;
  number = omega (arith, c.if-number-execution_count.false, c.execution_count.ensures);
  working =
      let done = c.marked.invariant.2 in
      record { kept = done.kept; long = done.long; marks_long = omega (arith, done.marks_long, c.in-Some.ensures.long); room = done.ends.0; known = done.known };
}
