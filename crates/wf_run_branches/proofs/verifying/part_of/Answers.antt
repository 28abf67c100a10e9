use Rattle.std.proofs.Common.{ap, refl, sym, ◌∙◌, ◌++◌}
use Rattle.wf_run_branches.specs.Solving.{part_head}
use Rattle.wf_run_branches.proofs.verifying.part_of.Goals as goal

pub returns-clause-read : goal.returns-clause-read
returns-clause-read c = λ rest is.
    let branch = c.args.branch.now in
    let head = c.as_bytes.ensures.value ∙ c.in_ok-head.ensures ∙ ap (λ n. part_head n c.index-index.result.count) c.index-index.ensures.number ∙ ap (part_head branch.number) c.index-index.ensures.count in
    c.in-None.ensures.elsewhere refl rest (is ∙ ap (λ head. head ++ rest) (sym head))
