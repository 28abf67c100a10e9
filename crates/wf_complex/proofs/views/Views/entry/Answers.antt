use Rattle.std.proofs.Common.{length, arith, ap}
use Rattle.wf_complex.proofs.ShownViews.{length-shown}
use Rattle.wf_complex.proofs.Entries.{entry_read}
use Rattle.wf_complex.proofs.views.Views.entry.Goals as goal

pub index-requires : goal.index-requires
index-requires c = omega (arith, c.requires, ap length c.self.view_is, length-shown c.self.inside.nodes.keys)

pub returns-clause-entry : goal.returns-clause-entry
returns-clause-entry c = (entry_read c.self.inside.nodes.keys c.self.invariant.entries c.args.self.now c.self.view_is c.args.id c.index.result.now c.requires c.index.ensures).0

pub returns-clause-view : goal.returns-clause-view
returns-clause-view c = (entry_read c.self.inside.nodes.keys c.self.invariant.entries c.args.self.now c.self.view_is c.args.id c.index.result.now c.requires c.index.ensures).1
