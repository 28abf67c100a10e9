use Rattle.std.proofs.Common.{vec_items, arith}
use Rattle.wf_report_explain.proofs.OfArgument.Trails.{losses_cut}
use Rattle.wf_report_explain.proofs.argument.state.give_back.Goals as goal

pub returns-then-point-len : goal.returns-then-point-len
returns-then-point-len c = losses_cut vec_items c.args.gone.now.items c.args.point c.args.before c.index_mut.result.now c.truncate.new.self (omega arith) c.index_mut.ensures.value c.truncate.ensures.items
