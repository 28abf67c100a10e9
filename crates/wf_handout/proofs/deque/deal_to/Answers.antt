use Rattle.std.proofs.Common.{◌+◌, ◌*◌, ◌<◌, ap, sym, subst, ◌∙◌, arith, ℕ}
use Rattle.std.proofs.Math.Nat.{add-mod_right}
use Rattle.crossbeam_deque.specs.Handles.{worker_view}
use Rattle.wf_handout.specs.declared.deque.Pile.{Pile}
use Rattle.wf_handout.specs.Parts.{IsDealt}
use Rattle.wf_handout.proofs.DealtBranches.{goes_on, ends}
use Rattle.wf_handout.proofs.deque.deal_to.Goals as goal

pub loop-branch-preserved : goal.loop-branch-preserved
loop-branch-preserved c =
    let i = c.loop-branch.invariant in
    let v = c.push.ensures.view in
    let k = c.push.ensures in
    let step = c.from-step.result in
    let b = c.loop-branch.branch in
    let some : 0 < step = (let a = c.requires in let e = c.from-step.ensures in omega arith) in
    let index = ap (λ n. n * step) k.index in (
      ap (λ (p : Pile). p.parts) v ∙ i.0,
      ap (λ (p : Pile). p.taken) v ∙ i.1,
      k.flavor ∙ i.2,
      subst (IsDealt (b + step) step c.args.worker) (sym (ap (λ (p : Pile). p.dealt) v)) (goes_on b step c.args.worker _ some i.4 i.3),
      add-mod_right b step ∙ i.4,
      (let t = c.loop-branch-test.true in omega arith),
      (let old = i.6 in omega arith),
      (let old = i.7 in let more = k.capacity in omega arith),
    )

pub returns-clause-dealt : goal.returns-clause-dealt
returns-clause-dealt c =
    let i = c.loop-branch.invariant in
    let worker = c.args.worker in
    let dealt = (worker_view c.loop-branch.deque).dealt in
    let all = ends c.loop-branch.branch c.from-end.result c.from-step.result worker dealt i.4 (let t = c.loop-branch-test.false in omega arith) i.5 i.3 in
    subst (λ (n : ℕ). IsDealt n c.args.workers worker dealt) c.from-end.ensures (subst (λ (n : ℕ). IsDealt c.from-end.result n worker dealt) c.from-step.ensures all)
