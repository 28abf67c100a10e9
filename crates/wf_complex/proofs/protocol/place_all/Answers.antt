use Rattle.std.proofs.Common.{Vec, Global, All, ◌<◌, ap, ◌∙◌, subst}
use Rattle.wf_complex.specs.declared.packed.PackedExecution.{PackedExecution}
use Rattle.wf_complex.proofs.protocol.place_all.Goals as goal

pub firsts_among-requires-clause-places : goal.firsts_among-requires-clause-places
firsts_among-requires-clause-places c = subst (λ n. All (λ j. j < n) c.args.places.now) c.requires.numbers c.requires.places

pub returns-clause-executions : goal.returns-clause-executions
returns-clause-executions c = ap (λ (v : Vec PackedExecution Global). v.items) c.in_ok-new.ensures.ok ∙ c.in_ok-packed.ensures

pub returns-clause-inputs : goal.returns-clause-inputs
returns-clause-inputs c = c.in_ok-inputs.ensures.items_if_clones_equal (λ x y e. e)
