use Rattle.std.proofs.Common.{◌≡◌, ◌∷◌, [], map, vec_items, length, ap, ◌∙◌, arith}
use Rattle.wf_report_explain.specs.Argument.Trail.{values_of}
use Rattle.wf_report_explain.specs.Argument.ArgumentState.{with_losses}
use Rattle.wf_report_explain.specs.Argument.Trail as trail
use Rattle.wf_report_explain.proofs.OfArgument.Trails.{later_lost, losses_there}
use Rattle.wf_report_explain.proofs.argument.state.ArgumentState.lose.Goals as goal

pub returns-in_ok-add_loss-clause-state : goal.returns-in_ok-add_loss-clause-state
returns-in_ok-add_loss-clause-state c =
    let s = c.args.self.now in let v = c.args.point in let gone = map vec_items s.gone.items in let after = c.push.new.self.items in
    let long : c.len-before.result ≡ length c.index.result.now.items = omega (arith, c.len-before.ensures, c.index.result.now.ok.0) in
    let there = losses_there vec_items s.gone.items v c.index.result.now (omega arith) c.index.ensures in
    (λ i. record { number = s.number; depth = s.depth; gone = c.in_ok-add_loss.ensures i; later = trail.later (values_of s) after (c.in_ok-add_loss.ensures i) })
    ∙ ap (λ later. record { number = s.number; depth = s.depth; gone = with_losses gone v (c.args.loss ∷ []); later = later })
    (later_lost (values_of s) s.trail.items after gone v c.len-before.result (c.args.loss ∷ []) c.in_ok-push.ensures.items (long ∙ ap length there))
