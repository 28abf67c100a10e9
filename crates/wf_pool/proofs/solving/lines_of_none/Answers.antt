use Rattle.std.proofs.Common.{sym, ◌∙◌}
use Rattle.wf_pool.proofs.RootAnswers.{bare_answer, filled_lines}
use Rattle.wf_pool.proofs.Branches.{count_of_cover, lines_are}
use Rattle.wf_pool.proofs.solving.lines_of_none.Goals as goal

pub fill-requires : goal.fill-requires
fill-requires c = c.requires.count ∙ sym (count_of_cover c.args.spec.problem.now c.args.cover.now c.requires.cover)

pub returns-in-All : goal.returns-in-All
returns-in-All c = filled_lines c.args.spec.problem.now c.args.spec.kept c.args.cover.now c.args.lists.items c.fill.result c.requires.cover c.in-All.is c.requires.count c.requires.lists c.fill.ensures.canonical

pub returns-in-Neither : goal.returns-in-Neither
returns-in-Neither c =
    let p = c.args.spec.problem.now in
    bare_answer p c.args.spec.kept c.new.result.items c.in-Neither.is c.new.ensures.items (λ i inside. lines_are p c.args.spec.kept i _ (c.requires.lists i inside))
