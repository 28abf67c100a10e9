use Rattle.std.proofs.Common.{◌≡◌, ap, refl, ◌∙◌, arith, slice_set}
use Rattle.std.specs.Prelude.{Some, slice_get}
use Rattle.std.proofs.lemmas.Option.{slice_get_read}
use Rattle.wf_core.specs.declared.event.Status.TheVariants.{Held}
use Rattle.wf_core.specs.Core.{State}
use Rattle.wf_core.proofs.HeldBranches.{settle_ties}
use Rattle.wf_core.proofs.Writes.{holder_place, same_shown}
use Rattle.wf_core.proofs.machine.Core.settle.Goals as goal

pub index_mut-worker-requires : goal.index_mut-worker-requires
index_mut-worker-requires c =
    let mine : slice_get c.self.inside.branches.items c.args.i ≡ Some (Held c.args.w) = ap (λ (s : State). slice_get s.branches c.args.i) c.self.view_is ∙ c.requires.0 in
    let place = holder_place c.self.inside.workers.items c.args.w c.args.i (c.self.invariant.held c.args.w c.args.i mine) in
    omega (arith, c.self.inside.workers.ok.0)

pub invariant_of-self : goal.invariant_of-self
invariant_of-self c =
    let mine : slice_get c.self.inside.branches.items c.args.i ≡ Some (Held c.args.w) = ap (λ (s : State). slice_get s.branches c.args.i) c.self.view_is ∙ c.requires.0 in
    let place = holder_place c.self.inside.workers.items c.args.w c.args.i (c.self.invariant.held c.args.w c.args.i mine) in
    let at = slice_get_read c.self.inside.workers.items _ c.args.w c.index_mut-worker.result.now refl place c.index_mut-worker.ensures.value in
    settle_ties _ _ _ _ _ _ _ c.self.invariant at refl mine c.requires.1

pub returns : goal.returns
returns c =
    same_shown _ _ _ _ _ _ c.index_mut-worker.ensures.value refl refl
    ∙ ap (λ (s : State). record s { branches = slice_set s.branches c.args.i c.args.status }) c.self.view_is
