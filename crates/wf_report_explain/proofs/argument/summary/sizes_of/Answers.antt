use Rattle.std.proofs.Common.{◌+◌, arith, ap, ◌∙◌}
use Rattle.wf_report_explain.specs.Argument.Used.{scopes_in}
use Rattle.wf_report_explain.proofs.OfArgument.Summaries.{no_size, one_size}
use Rattle.wf_report_explain.proofs.argument.summary.sizes_of.Goals as goal
use Rattle.wf_report_explain.proofs.argument.summary.sizes_of.Goals.{then-count-gt0+in_ok-push, else-count-gt0}

pub loop-others-preserved : goal.loop-others-preserved
loop-others-preserved c =
    let scopes = scopes_in c.args.used.now in let size = c.from-size.result + 1 in let count = c.count_of_size-count.result in
    elim c.if-count-gt0.branch [
      | then-count-gt0+in_ok-push w ↦ one_size scopes c.loop-others.others size count c.loop-others.sizes.items c.if-count-gt0.sizes.items _ c.loop-others-test.true (omega (arith, c.from-size.ensures)) c.count_of_size-count.ensures w.if-count-gt0.true (ap (λ v. v.items) w.sizes-is ∙ w.in_ok-push.ensures.items) c.loop-others.invariant
      | else-count-gt0 w ↦ no_size scopes c.loop-others.others size count c.loop-others.sizes.items c.if-count-gt0.sizes.items _ c.loop-others-test.true (omega (arith, c.from-size.ensures)) c.count_of_size-count.ensures w.if-count-gt0.false (ap (λ v. v.items) w.sizes-is) c.loop-others.invariant
    ]
