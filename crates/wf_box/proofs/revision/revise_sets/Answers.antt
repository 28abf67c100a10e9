use Rattle.wf_box.proofs.RevisingLemmas.{revising_still}
use Rattle.wf_box.proofs.revision.revise_sets.Goals as goal

pub remove_unsupported-requires-clause-revising : goal.remove_unsupported-requires-clause-revising
remove_unsupported-requires-clause-revising c = revising_still c.args.network.now c.args.at.number c.args.lines.now c.args.workspace.now c.supported_sets-supported.new.memo c.requires.revising c.supported_sets-supported.ensures.known

pub returns : goal.returns
returns c =
    let r = c.remove_unsupported.ensures in
    record { step = r.step; proceeds = r.proceeds; untouched = r.untouched; quiet = r.quiet; named = r.named }
