use Rattle.std.proofs.Common.{◌≤◌, ◌∙◌, sym, ap, subst}
use Rattle.wf_model.specs.Task.{first_block}
use Rattle.wf_task.proofs.LeastBlock.{block-some, block-few}
use Rattle.wf_task.proofs.task.Task.first_block.Goals as goal

pub returns : goal.returns
returns c =
    let first = c.self.invariant.task.limits.first_block in
    let is = c.unwrap_or.ensures in
    record {
      first_block = is ∙ ap first_block c.self.view_is;
      some = subst (λ n. 1 ≤ n) (sym is) (block-some c.self.inside.least_block first);
      few = subst (λ n. n ≤ 4) (sym is) (block-few c.self.inside.least_block first);
    }
