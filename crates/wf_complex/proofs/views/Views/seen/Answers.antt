use Rattle.std.proofs.Common.{◌≡◌, slice_get, Some, is_ok, IfOk, if◌then◌else◌, ap, subst, ◌∙◌}
use Rattle.wf_model.specs.Problem.{number_of}
use Rattle.wf_complex.specs.Views.{with_view}
use Rattle.wf_complex.proofs.Entries.{few, seen_view, seen_entry}
use Rattle.wf_complex.proofs.views.Views.seen.Goals as goal

pub snapshot-requires : goal.snapshot-requires
snapshot-requires c = few c.self.inside.nodes.keys c.self.invariant.entries c.args.self.now c.self.view_is c.args.process c.args.parts.now c.requires.numbers c.requires.ascending c.requires.own

pub number-requires-clause-entry : goal.number-requires-clause-entry
number-requires-clause-entry c =
    seen_entry c.self.inside.nodes.keys c.self.invariant.entries c.args.self.now c.self.view_is c.args.process c.args.parts.now c.requires.numbers c.requires.ascending c.requires.own
    c.snapshot.result c.snapshot.ensures c.requires.process

pub returns-clause-table : goal.returns-clause-table
returns-clause-table c =
    let is = seen_view c.self.inside.nodes.keys c.self.invariant.entries c.args.self.now c.self.view_is c.args.process c.args.parts.now c.requires.numbers c.requires.ascending c.requires.own c.snapshot.result c.snapshot.ensures in
    c.number.ensures.table ∙ ap (λ v. if is_ok c.number.result then with_view c.args.self.now v else c.args.self.now) is

pub returns-clause-number : goal.returns-clause-number
returns-clause-number c =
    let is = seen_view c.self.inside.nodes.keys c.self.invariant.entries c.args.self.now c.self.view_is c.args.process c.args.parts.now c.requires.numbers c.requires.ascending c.requires.own c.snapshot.result c.snapshot.ensures in
    subst (λ v. IfOk c.number.result (λ n. n ≡ number_of c.number.new.self v)) is c.number.ensures.number

pub returns-clause-stands : goal.returns-clause-stands
returns-clause-stands c =
    let is = seen_view c.self.inside.nodes.keys c.self.invariant.entries c.args.self.now c.self.view_is c.args.process c.args.parts.now c.requires.numbers c.requires.ascending c.requires.own c.snapshot.result c.snapshot.ensures in
    subst (λ v. IfOk c.number.result (λ n. slice_get c.number.new.self n ≡ Some v)) is c.number.ensures.stands
