use Rattle.std.proofs.Common.{◌∷◌, [], map, sym, ap, ◌∙◌}
use Rattle.wf_base.specs.Set.Sets.{values_in}
use Rattle.wf_report_explain.specs.Argument.ArgumentState.{in_this_case}
use Rattle.wf_report_explain.specs.Argument.Trail.{losing, state_of}
use Rattle.wf_report_explain.proofs.OfArgument.Trails.{losing_twice}
use Rattle.wf_report_explain.proofs.argument.state.ArgumentState.suppose.Goals as goal

pub lost-preserved : goal.lost-preserved
lost-preserved c =
    let s = state_of c.lost.self in let v = c.args.point in let rest = map in_this_case (values_in c.in-Some.split.1) in record {
      state = ap (λ s. losing s v rest) c.in_ok-lose.ensures.state
          ∙ losing_twice s v (in_this_case c.in-Some.split.0 ∷ []) rest
          ∙ ap (λ xs. losing s v (map in_this_case xs)) (sym c.in-Some.ensures)
          ∙ c.lost.invariant.state;
      number = c.in_ok-lose.ensures.number ∙ c.lost.invariant.number;
      values = c.in_ok-lose.ensures.values ∙ c.lost.invariant.values;
    }
