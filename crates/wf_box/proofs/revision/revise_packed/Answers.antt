use Rattle.std.proofs.Common.{sym, ◌∙◌, subst}
use Rattle.wf_lane.specs.Table.{HasSupported}
use Rattle.wf_network.specs.Problems.{rule_at, rule_in}
use Rattle.wf_network.specs.Revising.{found_in, widened}
use Rattle.wf_box.proofs.RevisingLemmas.{revises_none, revising_still}
use Rattle.wf_box.proofs.revision.revise_packed.Goals as goal

pub returns-then-eq : goal.returns-then-eq
returns-then-eq g c =
    let n = c.args.network.now in
    let parts = g.P.Packed.parts in
    let same = g.met.P.Packed.same_parts c.supported-supported.result c.args.found (sym c.eq.ensures ∙ c.if-eq.true) in
    -- all candidates are supported
    let all : HasSupported (found_in n c.args.at.number c.args.workspace.now.tracked.words.items) (rule_in n c.args.at.number).table (found_in n c.args.at.number c.args.workspace.now.tracked.words.items) =
    subst (λ found. HasSupported found (rule_in n c.args.at.number).table found) c.requires.found
    (subst (λ ps. HasSupported (widened ps) (rule_in n c.args.at.number).table (widened (parts c.args.found))) same
    (subst (λ r. HasSupported (widened (parts c.supported-supported.result)) (rule_at n r).table (widened (parts c.args.found))) c.requires.rule c.supported-supported.ensures.supported)) in
    revises_none n c.args.at.number c.args.lines.now c.args.workspace.now c.supported-supported.new.memo c.requires.revising c.supported-supported.ensures.known all

pub remove_packed-requires-clause-revising : goal.remove_packed-requires-clause-revising
remove_packed-requires-clause-revising g c = revising_still c.args.network.now c.args.at.number c.args.lines.now c.args.workspace.now c.supported-supported.new.memo c.requires.revising c.supported-supported.ensures.known

pub returns : goal.returns
returns g c =
    let r = c.remove_packed.ensures in
    record { step = r.step; proceeds = r.proceeds; untouched = r.untouched; quiet = r.quiet; named = r.named }
