use Rattle.std.proofs.Common.{subst}
use Rattle.wf_complex.specs.Table.{StandsAt, node_view}
use Rattle.wf_complex.proofs.Steps.{IsNumbered, found}
use Rattle.wf_complex.proofs.views.Views.number.Goals as goal

-- a guess that stands at its place is the entry's number
stands_recently : (c : goal.In-Some) → IsNumbered c.args.self.now c.args.self.now (node_view c.args.self.now c.args.node) c.in-Some.number
stands_recently c =
    let nodes = c.self.inside.nodes.keys in
    let n = c.in-Some.number in
    let stands : StandsAt nodes n c.args.node = subst (λ ns. StandsAt ns n c.args.node) c.as_slice.ensures.keys c.in-Some.ensures in
    subst (λ vs. IsNumbered vs vs (node_view vs c.args.node) n) c.self.view_is (found nodes c.self.inside.bits.items c.self.invariant c.args.node n stands)

pub returns-in-Some-clause-table : goal.returns-in-Some-clause-table
returns-in-Some-clause-table c = (stands_recently c).table

pub returns-in-Some-clause-number : goal.returns-in-Some-clause-number
returns-in-Some-clause-number c = (stands_recently c).number

pub returns-in-Some-clause-stands : goal.returns-in-Some-clause-stands
returns-in-Some-clause-stands c = (stands_recently c).stands
