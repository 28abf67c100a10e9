use Rattle.std.proofs.Common.{◌==◌, map, filter, not, vec_items, ap, ◌∙◌}
use Rattle.wf_report_explain.specs.Argument.Trail.{state_of, values_of}
use Rattle.wf_report_explain.proofs.OfArgument.Trails.{entered_first}
use Rattle.wf_report_explain.proofs.argument.state.ArgumentState.enter.Goals as goal

pub returns-clause-state : goal.returns-clause-state
returns-clause-state c =
    let s = c.args.self.now in
    entered_first s.number c.args.depth c.args.point c.in-Some.split.0 (values_of s) s.trail.items c.push.new.self.items c.args.values c.in-Some.split.1 c.without-lost.result (map vec_items s.gone.items) (state_of c.suppose.new.self)
    c.in_ok-push.ensures.items c.in-Some.ensures (c.without-lost.ensures ∙ ap (filter (λ b. not (b == c.in-Some.split.0))) c.left.ensures) c.in_ok-suppose.ensures.state
