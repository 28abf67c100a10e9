use Rattle.std.proofs.Common.{ap, refl, ◌∙◌, slice_set}
use Rattle.std.proofs.lemmas.Option.{slice_get_read}
use Rattle.wf_core.specs.Core.{State}
use Rattle.wf_core.proofs.HeldBranches.{same_ties}
use Rattle.wf_core.proofs.Writes.{active_place, seen_shown}
use Rattle.wf_core.proofs.machine.Core.see.Goals as goal

pub invariant_of-self : goal.invariant_of-self
invariant_of-self c =
    let place = active_place c.self.inside.branches.items c.self.inside.workers.items c.self.inside.least c.args.self.now c.args.w c.self.view_is c.requires in
    same_ties _ _ _ _ _ c.self.invariant (slice_get_read c.self.inside.workers.items _ c.args.w c.index_mut-worker.result.now refl place c.index_mut-worker.ensures.value) refl

pub returns : goal.returns
returns c =
    seen_shown _ _ _ _ _ _ c.index_mut-worker.ensures.value _ refl refl
    ∙ ap (λ (s : State). record s { seen = slice_set s.seen c.args.w c.args.n }) c.self.view_is
