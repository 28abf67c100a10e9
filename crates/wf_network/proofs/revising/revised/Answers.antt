use Rattle.std.proofs.Common.{◌≡◌, ◌∙◌, subst, sym, arith}
use Rattle.wf_lane.specs.Table.{HasSupported}
use Rattle.wf_network.specs.Revising.{widened}
use Rattle.wf_network.proofs.MemoLemmas.{first_supported}
use Rattle.wf_network.proofs.revising.revised.Goals as goal

pub returns-clause-supported : goal.returns-clause-supported
returns-clause-supported c =
    let table = c.args.rule.now.table in
    let raw : HasSupported c.revise.result.masks table (widened c.args.candidates) = subst (HasSupported c.revise.result.masks table) c.widened.ensures c.revise.ensures.supported in
    let wide : table.width ≡ c.places.result = c.requires.wide ∙ sym c.places.ensures.count in
    first_supported c.revise.result.masks c.args.candidates c.first_parts.result c.up_to.result table c.up_to.ensures.long c.requires.long
    (omega (arith, wide, c.places.ensures.few)) c.first_parts.ensures.parts (λ i low. c.up_to.ensures.firsts i (omega (arith, low, wide))) raw
