use Rattle.std.proofs.Common.{◌^◌, ◌≤◌, subst, sym, arith}
use Rattle.wf_task_presets.proofs.FamilyLoops.{few_lists}
use Rattle.wf_task_presets.proofs.family.list_count.Goals as goal

pub pow-requires : goal.pow-requires
pow-requires c =
    let few : c.args.values ^ c.from.result ≤ 16777216 = subst (λ n. c.args.values ^ n ≤ 16777216) (sym c.from.ensures) (few_lists c.args.values c.args.size c.requires.values c.requires.few) in
    omega (arith, few)
