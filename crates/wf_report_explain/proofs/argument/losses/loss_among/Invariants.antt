use Rattle.std.proofs.Common.{◌≡◌, drop}
use Rattle.wf_report_explain.specs.Argument.ArgumentState.{loss_among}
use Rattle.wf_report_explain.proofs.argument.losses.loss_among.Given as goal

abbrev pub invariant-loop-loss : goal.invariant-loop-loss
invariant-loop-loss l = loss_among l.value (drop l.loss-index l.losses) ≡ loss_among l.value l.losses
