use Rattle.std.proofs.Common.{◌≡◌, drop, map, vec_items}
use Rattle.wf_report_explain.specs.Argument.ArgumentState.{first_gone}
use Rattle.wf_report_explain.proofs.argument.reasons.first_gone.Given as goal

abbrev pub invariant-loop-place : goal.invariant-loop-place
invariant-loop-place l = first_gone (map vec_items l.gone) (drop l.place l.points) (drop l.place l.tuple) ≡ first_gone (map vec_items l.gone) l.points l.tuple
