use Rattle.std.proofs.Common.{◌∷◌, [], length, map, refl, ap, sym, ◌∙◌, subst, arith, vec_items, length-append}
use Rattle.std.proofs.lemmas.List.{map-append, length-map}
use Rattle.wf_pool.specs.Branches.{HasLines, LeadIfKept}
use Rattle.wf_pool.specs.Answers.{IsAnswerAt}
use Rattle.wf_pool.proofs.Branches.{count_of_cover, lines_are}
use Rattle.wf_pool.proofs.RootAnswers.{account_of_map, account_of_none, first_answer}
use Rattle.wf_pool.proofs.LinesInPlace.{one_more}
use Rattle.wf_pool.proofs.solving.solve_one_watched.Goals as goal

pub lines_to_map-requires-clause-branch : goal.lines_to_map-requires-clause-branch
lines_to_map-requires-clause-branch g c =
    let here = c.loop-branch.invariant.0 in
    let count = c.branches-branches.ensures.branches ∙ count_of_cover c.args.problem.now c.in_ok-cover.cover c.in_ok-cover.ensures.cover in
    let low = c.loop-branch-test.true in
    omega arith

pub returns-in-Map-clause-answer : goal.returns-in-Map-clause-answer
returns-in-Map-clause-answer g c =
    let p = c.args.problem.now in
    let own = c.in-Map.own.items in
    let lines = c.in_ok-lines-in-Map.lines.items in
    first_answer p c.args.kept c.loop-branch.branch c.in-Map.map.items own lines c.in_ok-cover.ensures.cover.well_formed
    (subst (IsAnswerAt p c.args.kept c.loop-branch.branch) c.in-Map.is c.in_ok-map.ensures.branch)
    (λ j low. lines_are p c.args.kept j _ (c.loop-branch.invariant.1 j low))
    (subst (λ n. LeadIfKept p c.args.kept n own lines) c.loop-branch.invariant.0 c.in_ok-lines-in-Map.ensures)

pub returns-in-Map-clause-account : goal.returns-in-Map-clause-account
returns-in-Map-clause-account g c =
    let p = c.args.problem.now in
    let low = c.loop-branch-test.true in
    let count = c.branches-branches.ensures.branches ∙ count_of_cover p c.in_ok-cover.cover c.in_ok-cover.ensures.cover in
    account_of_map p c.args.kept c.in-Map.map.items c.in-Map.own.items _ c.in_ok-cover.ensures.cover.well_formed count
    (subst (IsAnswerAt p c.args.kept c.loop-branch.branch) c.in-Map.is c.in_ok-map.ensures.branch) (omega arith) (omega arith)

pub loop-branch-preserved : goal.loop-branch-preserved
loop-branch-preserved g c =
    let p = c.args.problem.now in
    let lists = c.loop-branch.lists.items in
    let lines = c.in-Nothing.lines in
    let h = c.loop-branch.invariant in
    let more = c.in_ok-push-in-Nothing.ensures.items in
    let a = length-append lists (lines ∷ []) in
    let l = ap length more in
    let n = h.0 in (
      omega arith,
      λ i lt. subst (λ xs. HasLines p c.args.kept xs i) (sym (ap (map vec_items) more ∙ map-append vec_items lists (lines ∷ [])))
          (one_more p c.args.kept (map vec_items lists) lines.items c.loop-branch.branch (length-map lists vec_items ∙ h.0) h.1 (subst (IsAnswerAt p c.args.kept c.loop-branch.branch) c.in-Nothing.is c.in_ok-map.ensures.branch) i lt),
      c.in_ok-map.ensures.answers,
    )

pub lines_of_none-requires-clause-count : goal.lines_of_none-requires-clause-count
lines_of_none-requires-clause-count g c =
    let p = c.args.problem.now in
    let count = c.branches-branches.ensures.branches ∙ count_of_cover p c.in_ok-cover.cover c.in_ok-cover.ensures.cover in
    let here = c.loop-branch.invariant.0 in
    let low = c.loop-branch-test.false in
    let end = c.loop-branch.auto.branch-end in
    omega arith

pub lines_of_none-requires-clause-lists : goal.lines_of_none-requires-clause-lists
lines_of_none-requires-clause-lists g c = λ i inside.
    let p = c.args.problem.now in
    let count = c.branches-branches.ensures.branches ∙ count_of_cover p c.in_ok-cover.cover c.in_ok-cover.ensures.cover in
    let low = c.loop-branch-test.false in
    let end = c.loop-branch.auto.branch-end in
    c.loop-branch.invariant.1 i (omega arith)

pub returns-clause-account : goal.returns-clause-account
returns-clause-account g c =
    account_of_none c.args.problem.now _ (c.branches-branches.ensures.branches ∙ count_of_cover c.args.problem.now c.in_ok-cover.cover c.in_ok-cover.ensures.cover) refl refl refl
