use Rattle.std.proofs.Common.{◌^◌, ◌<◌, length, map, zip, ap, ◌∙◌, subst, arith, take_all}
use Rattle.wf_model.specs.Lists.{lists_of}
use Rattle.wf_model.specs.Simplex.{processes_of}
use Rattle.wf_task.proofs.Lemmas.{length-lists_of}
use Rattle.wf_task_presets.proofs.FamilyLoops.{list_long}
use Rattle.wf_task_presets.proofs.preset.all_assignments.Goals as goal

pub with_values-requires : goal.with_values-requires
with_values-requires c =
    ap length c.list_at.ensures
    ∙ list_long c.args.values.now c.colours-size.result c.loop-number.number (subst (λ n. c.loop-number.number < n) c.list_count-number-end.ensures c.loop-number-test.true)
    ∙ c.colours-size.ensures.count

pub returns : goal.returns
returns c =
    let lists = lists_of c.args.values.now (length c.args.whole.now) in
    c.loop-number.invariant
    ∙ ap (map (zip (processes_of c.args.whole.now))) (take_all c.loop-number.number lists
    (omega (arith, c.loop-number-test.false, c.list_count-number-end.ensures, length-lists_of c.args.values.now (length c.args.whole.now), ap (λ n. length c.args.values.now ^ n) c.colours-size.ensures.count)))
