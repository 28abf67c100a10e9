use Rattle.std.proofs.Common.{Some, slice_get, sym, ap, ◌∙◌}
use Rattle.std.proofs.lemmas.Option.{slice_get-get_or}
use Rattle.wf_simplex.specs.Order.{same_simplex-decides}
use Rattle.wf_task.proofs.tuples.index_near.Goals as goal

pub returns-then-eq-clause-place : goal.returns-then-eq-clause-place
returns-then-eq-clause-place c =
    let searched = c.simplices-simplices.result.now in
    let found = c.index-simplices-place.result in
    let same = (same_simplex-decides found c.args.simplex).0 (sym c.eq.ensures ∙ c.if-eq.true) in
    ap (λ xs. slice_get xs c.args.guess) (sym c.simplices-simplices.ensures.simplices)
    ∙ slice_get-get_or searched c.args.guess found c.if-place-simplices.true
    ∙ ap Some (sym c.index-simplices-place.is ∙ same)
