use Rattle.std.proofs.Common.{◌≡◌, All, length, drop, sym, ◌∙◌, subst, [], IfSome}
use Rattle.wf_model.specs.Closing.{sweep_from}
use Rattle.wf_base.specs.Set.Sets.{box_of}
use Rattle.wf_box.specs.Changes.{words_after}
use Rattle.wf_network.specs.Problems.{IsWithin, executions_in}
use Rattle.wf_box.specs.Quiet.{IsQuiet, WasClosed}
use Rattle.wf_box.proofs.QuietLemmas.{length_back, on_true, quiet_closed, still_filled}
use Rattle.wf_box.proofs.closing.mark_problem.Goals as goal

pub returns-in-Some-clause-full : goal.returns-in-Some-clause-full
returns-in-Some-clause-full c =
    let was : WasClosed c.args.problem.now c.args.tracked.now.trail.items c.args.tracked.now.words.items c.in-Some.changes = subst (λ o. IfSome o (WasClosed c.args.problem.now c.args.tracked.now.trail.items c.args.tracked.now.words.items)) c.in-Some.is c.requires.closed in
    on_true c.mark_changed.result _ _ (still_filled c.args.tracked.now.words.items (words_after c.in-Some.changes c.args.tracked.now.trail.items c.args.tracked.now.words.items) (length_back (drop c.in-Some.changes c.args.tracked.now.trail.items) c.args.tracked.now.words.items) was.filled) c.mark_changed.ensures.full

pub returns-in-Some-clause-quiet : goal.returns-in-Some-clause-quiet
returns-in-Some-clause-quiet c =
    let was : WasClosed c.args.problem.now c.args.tracked.now.trail.items c.args.tracked.now.words.items c.in-Some.changes = subst (λ o. IfSome o (WasClosed c.args.problem.now c.args.tracked.now.trail.items c.args.tracked.now.words.items)) c.in-Some.is c.requires.closed in
    let after = words_after c.in-Some.changes c.args.tracked.now.trail.items c.args.tracked.now.words.items in
    let n = c.network.result.now in
    let ks = c.network.ensures.constraints in
    let points : n.points ≡ length c.args.tracked.now.words.items = c.network.ensures.points ∙ sym c.requires.long in
    subst (λ xs. IsQuiet xs c.mark_changed.new.marks.words.items (box_of c.args.tracked.now.words.items)) ks
    (quiet_closed n.rules.items (executions_in n) n.users c.args.tracked.now.words.items after c.mark_changed.new.marks.words.items (length_back (drop c.in-Some.changes c.args.tracked.now.trail.items) c.args.tracked.now.words.items)
    (subst (λ xs. (sweep_from 0 xs (box_of after)).lines ≡ []) (sym ks) was.closed)
    (subst (λ m. All (IsWithin (length n.rules.items) m) (executions_in n)) points c.network.ensures.network.within) c.network.ensures.network.told c.mark_changed.ensures.untouched)
