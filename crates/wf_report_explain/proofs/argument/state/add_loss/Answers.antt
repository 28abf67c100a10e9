use Rattle.std.proofs.Common.{◌∷◌, [], vec_items}
use Rattle.wf_report_explain.proofs.OfArgument.Trails.{losses_added}
use Rattle.wf_report_explain.proofs.argument.state.add_loss.Goals as goal

pub returns : goal.returns
returns c = losses_added vec_items c.args.gone.now.items c.args.point c.index_mut.result.now c.push.new.self (c.args.loss ∷ []) c.requires c.index_mut.ensures.value c.in_ok-push.ensures.items
