use Rattle.std.proofs.Common.{[], ap, sym, ◌∙◌, arith}
use Rattle.wf_model.specs.Lists.{lists_of}
use Rattle.wf_task_presets.specs.Family.{allows}
use Rattle.wf_task.proofs.Lemmas.{length-lists_of}
use Rattle.wf_task_presets.proofs.FamilyLoops.{counted-out, counted-all}
use Rattle.wf_task_presets.proofs.family.Family.count_allowed.Goals as goal

pub returns-then-left-eq0 : goal.returns-then-left-eq0
returns-then-left-eq0 c =
    let lists = lists_of c.args.values.now c.args.size in
    counted-out (allows c.args.self) lists c.loop-number.number c.loop-number.left c.args.most [] c.list_at.result
    (omega (arith, c.loop-number-test.true, c.list_count-number-end.ensures, length-lists_of c.args.values.now c.args.size))
    c.list_at.ensures (ap (allows c.args.self) (sym c.as_slice.ensures) ∙ sym c.if-allows.ensures) c.if-left-eq0.true c.loop-number.invariant

pub returns : goal.returns
returns c =
    let lists = lists_of c.args.values.now c.args.size in
    counted-all (allows c.args.self) lists c.loop-number.number c.loop-number.left c.args.most
    (omega (arith, c.loop-number-test.false, c.list_count-number-end.ensures, length-lists_of c.args.values.now c.args.size)) c.loop-number.invariant
