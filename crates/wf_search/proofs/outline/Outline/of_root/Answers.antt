use Rattle.std.proofs.Common.{ap, ◌∙◌, ◌++◌}
use Rattle.wf_model.specs.Closing.{closing}
use Rattle.wf_model.specs.Outline.{closed_to}
use Rattle.wf_box.specs.Boxes.{Tracked}
use Rattle.wf_search.proofs.OutlineLemmas.{root_boxes}
use Rattle.wf_search.proofs.outline.Outline.of_root.Goals as goal

pub returns-clause-boxes : goal.returns-clause-boxes
returns-clause-boxes c =
    let box = c.in_ok-root.root.sets in
    root_boxes c.args.problem.now box c.in_ok-root.ensures.is.is_box c.close.new.self (c.in_ok-close.ensures.items ∙ ap (λ (b : Tracked). c.new-outline.result ++ closed_to (closing c.args.problem.now b.sets)) c.swap_cache.ensures.same ∙ ap (λ items. items ++ closed_to (closing c.args.problem.now box)) c.new-outline.ensures)
