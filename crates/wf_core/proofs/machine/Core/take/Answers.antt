use Rattle.std.proofs.Common.{ap, refl, ◌∙◌, slice_set}
use Rattle.std.specs.Prelude.{slice_get, ℕ}
use Rattle.std.proofs.lemmas.Option.{slice_get_read}
use Rattle.wf_core.specs.declared.event.Status.TheVariants.{Held}
use Rattle.wf_core.specs.Core.{State}
use Rattle.wf_core.proofs.HeldBranches.{take_ties}
use Rattle.wf_core.proofs.Writes.{active_place, same_shown}
use Rattle.wf_core.proofs.machine.Core.take.Goals as goal

pub invariant_of-self : goal.invariant_of-self
invariant_of-self c =
    let place = active_place c.self.inside.branches.items c.self.inside.workers.items c.self.inside.least c.args.self.now c.args.w c.self.view_is c.requires.0 in
    let at = slice_get_read c.self.inside.workers.items _ c.args.w c.index_mut-worker.result.now refl place c.index_mut-worker.ensures.value in
    let was = λ (i : ℕ). ap (λ (s : State). slice_get s.branches i) c.self.view_is in
    take_ties _ _ _ _ _ _ c.self.invariant at refl (λ j h. c.requires.1 j (Rattle.std.proofs.Common.sym (was j) ∙ h)) (was c.args.i ∙ c.requires.2)

pub returns : goal.returns
returns c =
    same_shown _ _ _ _ _ _ c.index_mut-worker.ensures.value refl refl
    ∙ ap (λ (s : State). record s { branches = slice_set s.branches c.args.i (Held c.args.w) }) c.self.view_is
