use Rattle.std.proofs.Common.{◌∙◌}
use Rattle.wf_pool.proofs.Branches.{count_of_cover}
use Rattle.wf_pool.proofs.solving.solve.Goals as goal

pub answer_of-requires-clause-branches : goal.answer_of-requires-clause-branches
answer_of-requires-clause-branches g c =
    c.in_ok-account.ensures.branches ∙ c.in_ok-board.ensures.board.0 ∙ c.branches-branches.ensures.branches ∙ count_of_cover c.args.spec.problem.now c.in_ok-cover.cover c.in_ok-cover.ensures.cover
