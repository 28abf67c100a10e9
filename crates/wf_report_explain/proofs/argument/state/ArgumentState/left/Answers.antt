use Rattle.std.proofs.Common.{filter, map, not, vec_items, sym, ap, ◌∙◌}
use Rattle.wf_report_explain.specs.Argument.ArgumentState.{has_loss, losses}
use Rattle.wf_report_explain.specs.Argument.Trail.{values_of}
use Rattle.wf_report_explain.proofs.OfArgument.Trails.{all_left, losses_past, losses_there}
use Rattle.wf_report_explain.proofs.argument.state.ArgumentState.left.Goals as goal

pub returns-in-None : goal.returns-in-None
returns-in-None c =
    let values = values_of c.args.self.now in
    sym (all_left values)
    ∙ ap (λ ls. filter (λ a. not (has_loss a ls)) values) (sym (losses_past vec_items c.deref.result.now c.args.point c.in-None.ensures.lookup.3))
    ∙ ap (λ xs. filter (λ a. not (has_loss a (losses (map vec_items xs) c.args.point))) values) c.deref.ensures.value

pub returns-in-Some : goal.returns-in-Some
returns-in-Some c =
    let values = values_of c.args.self.now in let found = c.in-Some.ensures.lookup in
    c.left_after.ensures
    ∙ ap (λ ls. filter (λ a. not (has_loss a ls)) values) (c.deref-in-Some.ensures.value ∙ losses_there vec_items c.deref.result.now c.args.point c.in-Some.losses.now found.3.0 found.1)
    ∙ ap (λ xs. filter (λ a. not (has_loss a (losses (map vec_items xs) c.args.point))) values) c.deref.ensures.value
