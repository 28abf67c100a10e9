use Rattle.std.proofs.Common.{map, vec_items, sym, ap, ◌∙◌}
use Rattle.std.specs.Option.{is_some}
use Rattle.wf_report_explain.specs.Argument.ArgumentState.{loss_among, losses}
use Rattle.wf_report_explain.specs.Argument.Trail.{later, values_of}
use Rattle.wf_report_explain.proofs.OfArgument.Trails.{taken_again, taken_now}
use Rattle.wf_report_explain.proofs.argument.state.ArgumentState.take.Goals as goal

pub returns-then-is_some-clause-state : goal.returns-then-is_some-clause-state
returns-then-is_some-clause-state c =
    let s = c.args.self.now in let gone = map vec_items s.gone.items in
    ap (λ gone'. record { number = s.number; depth = s.depth; gone = gone'; later = later (values_of s) s.trail.items gone })
    (sym (taken_again s.number c.args.point c.args.value gone (ap (λ xs. is_some (loss_among c.args.value (losses (map vec_items xs) c.args.point))) (sym c.deref.ensures.value) ∙ ap is_some (sym c.loss_of.ensures) ∙ sym c.is_some.ensures ∙ c.if-is_some.true)))

pub returns-clause-state : goal.returns-clause-state
returns-clause-state c =
    let s = c.args.self.now in let gone = map vec_items s.gone.items in
    c.in_ok-lose.ensures.state
    ∙ ap (λ gone'. record { number = s.number; depth = s.depth; gone = gone'; later = later (values_of s) s.trail.items gone })
    (sym (taken_now s.number c.args.point c.args.value gone (ap (λ xs. is_some (loss_among c.args.value (losses (map vec_items xs) c.args.point))) (sym c.deref.ensures.value) ∙ ap is_some (sym c.loss_of.ensures) ∙ sym c.is_some.ensures ∙ c.if-is_some.false)))
