use Rattle.std.proofs.Common.{◌∙◌, sym, ap}
use Rattle.wf_base.specs.Set.Sets.{box_of}
use Rattle.wf_report_check.proofs.BlockLemmas.{set_without, without_nothing}
use Rattle.wf_report_check.proofs.boxes.Blocks.take_out.Goals as goal

pub returns-in_ok-change-clause-boxed : goal.returns-in_ok-change-clause-boxed
returns-in_ok-change-clause-boxed c = ap box_of c.in_ok-change.ensures.sets ∙ set_without c.args.self.now.sets.items c.args.point c.args.value c.index-set.result.now c.without.result c.requires c.index-set.ensures c.without.ensures

pub returns-else-contains-clause-boxed : goal.returns-else-contains-clause-boxed
returns-else-contains-clause-boxed c = without_nothing c.args.self.now.sets.items c.args.point c.args.value c.index-set.result.now c.requires c.index-set.ensures (sym c.contains.ensures ∙ c.if-contains.false)
