use Rattle.std.proofs.Common.{ap, ◌∙◌}
use Rattle.wf_search.specs.SearchStack.{Boxes, others}
use Rattle.wf_search.proofs.PendingLemmas.{closed_pending, left_grown, on_ok}
use Rattle.wf_search.proofs.pending.SearchStack.close.Goals as goal

pub invariant_of-self : goal.invariant_of-self
invariant_of-self c =
    let kept = closed_pending c.self.inside.problem.now c.self.inside.current c.close.new.boxed c.self.inside.frames.items c.close.result c.close.ensures.is c.close.ensures.grown c.close.ensures.refused_box c.self.invariant.current c.self.invariant.frames in
    record { current = kept.0; frames = kept.1; earlier = c.self.invariant.earlier }

pub returns-clause-others : goal.returns-clause-others
returns-clause-others c =
    on_ok c.close.result _ _
    (λ grown. left_grown c.self.inside.problem.now c.self.inside.current c.close.new.boxed c.self.inside.frames.items grown c.self.invariant.frames ∙ ap (λ (b : Boxes). others b.boxes) c.self.view_is) c.close.ensures.grown
