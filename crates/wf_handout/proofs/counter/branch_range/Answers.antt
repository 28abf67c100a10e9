use Rattle.std.proofs.Common.{[], ◌∷◌, arith, ap}
use Rattle.wf_core.specs.Count.{times}
use Rattle.wf_core.proofs.Lemmas.{times-append, once_next}
use Rattle.wf_handout.proofs.counter.branch_range.Goals as goal

pub loop-i-preserved : goal.loop-i-preserved
loop-i-preserved c = (
  (λ x.
      let a = c.loop-i.invariant.0 x in
      let b = ap (times x) c.in_ok-push.ensures.items in
      let d = times-append x c.loop-i.left.items (c.loop-i.i ∷ []) in
      let e = once_next x c.loop-i.i in
      omega arith),
  (λ e. let a = c.loop-i.auto.i in absurd (omega arith)),
)
