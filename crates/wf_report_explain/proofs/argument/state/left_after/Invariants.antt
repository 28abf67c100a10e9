use Rattle.std.proofs.Common.{◌≡◌, drop, filter, not}
use Rattle.wf_base.specs.Set.Sets.{values_in}
use Rattle.wf_report_explain.specs.Argument.ArgumentState.{has_loss}
use Rattle.wf_report_explain.proofs.argument.state.left_after.Given as goal

abbrev pub invariant-loop-loss : goal.invariant-loop-loss
invariant-loop-loss l = filter (λ a. not (has_loss a (drop l.loss-index l.losses))) (values_in l.left) ≡ filter (λ a. not (has_loss a l.losses)) (values_in l.initial.left)
