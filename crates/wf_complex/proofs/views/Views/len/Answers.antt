use Rattle.std.proofs.Common.{arith}
use Rattle.wf_complex.proofs.ShownViews.{length-shown}
use Rattle.wf_complex.proofs.ViewsOnce.{apart_in_table}
use Rattle.wf_complex.proofs.ViewsWithin.{distinct-apart, apart_by_place}
use Rattle.wf_complex.proofs.views.Views.len.Goals as goal

pub returns-clause-count : goal.returns-clause-count
returns-clause-count c = grind (arith, length-shown c.self.inside.nodes.keys, c.self.view_is)

pub returns-clause-once : goal.returns-clause-once
returns-clause-once c = distinct-apart c.args.self.now (apart_by_place c.args.self.now (apart_in_table c.self.inside.nodes.keys c.self.invariant.entries c.self.invariant.once c.args.self.now c.self.view_is))
