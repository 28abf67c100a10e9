use Rattle.std.proofs.Common.{ℕ, ◌<◌, length, subst}
use Rattle.wf_pool.specs.Branches.{HasEachLines}
use Rattle.wf_pool.proofs.RootAnswers.{account_of_map, dropped_answer, kept_answer}
use Rattle.wf_pool.proofs.solving.map_answer.Goals as goal

pub join_lines_to_map-requires-clause-below : goal.join_lines_to_map-requires-clause-below
join_lines_to_map-requires-clause-below c =
    let below = c.in_ok-below-in-All.below.items in
    let has = c.in_ok-below-in-All.ensures in
    subst (λ kept. HasEachLines c.args.spec.problem.now kept (length below) below) c.in-All.is (λ i inside. has.lists i (subst (λ (n : ℕ). i < n) has.count inside))

pub returns-in_ok-lines-in-All-clause-answer : goal.returns-in_ok-lines-in-All-clause-answer
returns-in_ok-lines-in-All-clause-answer c =
    let found = c.map_of-map in
    kept_answer c.args.spec.problem.now c.args.spec.kept c.args.account.least _ found.result.0.items found.result.1.items c.in_ok-lines-in-All.lines.items
    c.requires.cover.well_formed c.in-All.is c.in_ok-below-in-All.ensures.count found.ensures c.requires.tells.none c.in_ok-lines-in-All.ensures

pub returns-in_ok-lines-in-All-clause-account : goal.returns-in_ok-lines-in-All-clause-account
returns-in_ok-lines-in-All-clause-account c =
    let tells = c.requires.tells in
    let found = c.map_of-map in
    account_of_map c.args.spec.problem.now c.args.spec.kept found.result.0.items found.result.1.items c.args.account c.requires.cover.well_formed c.requires.branches found.ensures (tells.enough c.requires.some) tells.all

pub returns-in-Refuting-clause-answer : goal.returns-in-Refuting-clause-answer
returns-in-Refuting-clause-answer c =
    let found = c.map_of-map in
    dropped_answer c.args.spec.problem.now c.args.spec.kept c.args.account.least found.result.0.items found.result.1.items c.requires.cover.well_formed c.in-Refuting.is found.ensures c.requires.tells.none

pub returns-in-Refuting-clause-account : goal.returns-in-Refuting-clause-account
returns-in-Refuting-clause-account c =
    let tells = c.requires.tells in
    let found = c.map_of-map in
    account_of_map c.args.spec.problem.now c.args.spec.kept found.result.0.items found.result.1.items c.args.account c.requires.cover.well_formed c.requires.branches found.ensures (tells.enough c.requires.some) tells.all
