use Rattle.std.proofs.Common.{filter, ap, ◌∙◌, arith, take_all}
use Rattle.wf_model.specs.Lists.{lists_of}
use Rattle.wf_task_presets.specs.Family.{allows}
use Rattle.wf_task.proofs.Lemmas.{length-lists_of}
use Rattle.wf_task_presets.proofs.family.Family.allowed.Goals as goal

pub returns : goal.returns
returns c =
    let lists = lists_of c.args.values.now c.args.size in
    c.loop-number.invariant
    ∙ ap (filter (allows c.args.self)) (take_all c.loop-number.number lists (omega (arith, c.loop-number-test.false, c.list_count-number-end.ensures, length-lists_of c.args.values.now c.args.size)))
