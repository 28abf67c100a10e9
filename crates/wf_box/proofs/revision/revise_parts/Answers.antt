use Rattle.std.proofs.Common.{subst}
use Rattle.wf_lane.specs.Table.{HasSupported}
use Rattle.wf_network.specs.Problems.{rule_at, rule_in}
use Rattle.wf_network.specs.Revising.{found_in, left_of, widened}
use Rattle.wf_box.proofs.RevisingLemmas.{revises_none, revising_still}
use Rattle.wf_box.proofs.revision.revise_parts.Goals as goal

-- all candidates are supported
all_supported : (c : goal.In_default) → HasSupported (found_in c.args.network.now c.args.at.number c.args.workspace.now.tracked.words.items) (rule_in c.args.network.now c.args.at.number).table (found_in c.args.network.now c.args.at.number c.args.workspace.now.tracked.words.items)
all_supported c =
    let n = c.args.network.now in
    subst (λ found. HasSupported found (rule_in n c.args.at.number).table found) c.requires.found
    (subst (λ o. HasSupported (widened (left_of c.args.found o)) (rule_in n c.args.at.number).table (widened c.args.found)) c.in_default.is
    (subst (λ r. HasSupported (widened (left_of c.args.found c.supported_narrow.result)) (rule_at n r).table (widened c.args.found)) c.requires.rule c.supported_narrow.ensures.supported))

pub returns-in_default : goal.returns-in_default
returns-in_default c = revises_none c.args.network.now c.args.at.number c.args.lines.now c.args.workspace.now c.supported_narrow.new.memo c.requires.revising c.supported_narrow.ensures.known (all_supported c)

pub remove_unsupported-requires-clause-revising : goal.remove_unsupported-requires-clause-revising
remove_unsupported-requires-clause-revising c = revising_still c.args.network.now c.args.at.number c.args.lines.now c.args.workspace.now c.supported_narrow.new.memo c.requires.revising c.supported_narrow.ensures.known

pub returns : goal.returns
returns c =
    let r = c.remove_unsupported.ensures in
    record { step = r.step; proceeds = r.proceeds; untouched = r.untouched; quiet = r.quiet; named = r.named }
