use Rattle.std.proofs.Common.{◌≡◌, arith, length, slice_get, Some, is_ok, IfOk, if◌then◌else◌, ap, subst, ◌∙◌}
use Rattle.wf_model.specs.View.{renamed}
use Rattle.wf_model.specs.Problem.{number_of}
use Rattle.wf_complex.specs.Views.{view_at, with_view}
use Rattle.wf_complex.specs.Table.{node_view}
use Rattle.wf_complex.specs.Renaming.{rank_in}
use Rattle.wf_complex.proofs.ShownViews.{length-shown}
use Rattle.wf_complex.proofs.Entries.{entry_read, entry_low, entry_count}
use Rattle.wf_complex.proofs.Renamed.{known, renamed_entry, renamed_view}
use Rattle.wf_complex.proofs.views.Views.put_renamed.Goals as goal

pub index-node-requires : goal.index-node-requires
index-node-requires c = omega (arith, c.requires.id, ap length c.self.view_is, length-shown c.self.inside.nodes.keys)

pub rank-requires : goal.rank-requires
rank-requires c =
    let read = entry_read c.self.inside.nodes.keys c.self.invariant.entries c.args.self.now c.self.view_is c.args.id c.index-node.result.now c.requires.id c.index-node.ensures in
    entry_low c.args.id c.index-node.result.now read.0

pub renumber-requires-clause-count : goal.renumber-requires-clause-count
renumber-requires-clause-count c =
    let read = entry_read c.self.inside.nodes.keys c.self.invariant.entries c.args.self.now c.self.view_is c.args.id c.index-node.result.now c.requires.id c.index-node.ensures in
    entry_count c.args.id c.index-node.result.now read.0

pub renumber-requires-clause-known : goal.renumber-requires-clause-known
renumber-requires-clause-known c =
    known c.self.inside.nodes.keys c.self.invariant.entries c.self.invariant.once c.args.self.now c.self.view_is c.args.id c.index-node.result.now c.requires.id c.index-node.ensures
    c.args.processes c.args.old.now c.args.new.now c.requires.numbers c.requires.parts

pub number-requires-clause-entry : goal.number-requires-clause-entry
number-requires-clause-entry c =
    renamed_entry c.self.inside.nodes.keys c.self.invariant.entries c.self.invariant.once c.args.self.now c.self.view_is c.args.id c.index-node.result.now c.requires.id c.index-node.ensures
    c.args.processes c.args.old.now c.args.new.now c.requires.numbers c.requires.parts c.requires.renamed c.rank.result c.rank.ensures c.renumber.result c.renumber.ensures

view_made : (c : goal.After-number) → node_view c.args.self.now c.renumber.result ≡ renamed (rank_in c.args.processes) (view_at c.args.self.now c.args.id)
view_made c =
    renamed_view c.self.inside.nodes.keys c.self.invariant.entries c.self.invariant.once c.args.self.now c.self.view_is c.args.id c.index-node.result.now c.requires.id c.index-node.ensures
    c.args.processes c.args.old.now c.args.new.now c.requires.numbers c.requires.parts c.requires.renamed c.rank.result c.rank.ensures c.renumber.result c.renumber.ensures

pub returns-clause-table : goal.returns-clause-table
returns-clause-table c = c.number.ensures.table ∙ ap (λ v. if is_ok c.number.result then with_view c.args.self.now v else c.args.self.now) (view_made c)

pub returns-clause-number : goal.returns-clause-number
returns-clause-number c = subst (λ v. IfOk c.number.result (λ n. n ≡ number_of c.number.new.self v)) (view_made c) c.number.ensures.number

pub returns-clause-stands : goal.returns-clause-stands
returns-clause-stands c = subst (λ v. IfOk c.number.result (λ n. slice_get c.number.new.self n ≡ Some v)) (view_made c) c.number.ensures.stands
