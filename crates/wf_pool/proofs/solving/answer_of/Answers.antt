use Rattle.std.proofs.Common.{◌≡◌, ◌<◌, ◌≤◌, ℕ, sym, ◌∙◌, subst, arith}
use Rattle.wf_model.specs.Problem.{Problem}
use Rattle.wf_core.specs.declared.event.Account.{Account}
use Rattle.wf_pool.specs.declared.answer.AllFinds.{AllFinds}
use Rattle.wf_pool.specs.declared.answer.KeptLines.{KeptLines}
use Rattle.wf_pool.specs.Answers.{HasAccountOfNone}
use Rattle.wf_pool.specs.Branches.{branch_count}
use Rattle.wf_pool.specs.Together.{Tells}
use Rattle.wf_pool.proofs.Branches.{count_of_cover}
use Rattle.wf_pool.proofs.RootAnswers.{account_of_none, bare_answer, filled_answer}
use Rattle.wf_pool.proofs.solving.answer_of.Goals as goal

account : (p : Problem) (kept : KeptLines) (a : Account) (finds : AllFinds) → a.branches ≡ branch_count p → Tells p kept a finds → a.branches ≤ a.least → HasAccountOfNone p a
account p kept a finds count tells above =
    let is : a.least ≡ a.branches = (let k = tells.least in omega arith) in
    let cut = tells.none_cut is in
    account_of_none p a count is (let all = tells.all in omega arith) cut

pub in_order-requires-clause-there : goal.in_order-requires-clause-there
in_order-requires-clause-there c = λ i inside.
    let tells = c.requires.tells in
    tells.lines i (let n = c.if-account.false in let k = tells.least in omega arith)

pub fill-requires : goal.fill-requires
fill-requires c = c.in_ok-lists-in-All.ensures.count ∙ c.requires.branches ∙ sym (count_of_cover c.args.spec.problem.now c.args.cover.now c.requires.cover)

pub returns-in_ok-fill-in-All-clause-answer : goal.returns-in_ok-fill-in-All-clause-answer
returns-in_ok-fill-in-All-clause-answer c =
    let p = c.args.spec.problem.now in
    let lists = c.in_ok-lists-in-All.ensures in
    let count = c.requires.branches in
    filled_answer p c.args.spec.kept c.args.cover.now c.in_ok-lists-in-All.lists.items c.in_ok-fill-in-All.field-0 c.requires.cover c.in-All.is (lists.count ∙ count)
    (λ i inside. lists.lists i (subst (λ (n : ℕ). i < n) (sym count) inside)) c.in_ok-fill-in-All.ensures.canonical

pub returns-in_ok-fill-in-All-clause-account : goal.returns-in_ok-fill-in-All-clause-account
returns-in_ok-fill-in-All-clause-account c = account c.args.spec.problem.now c.args.spec.kept c.args.account c.args.finds c.requires.branches c.requires.tells c.if-account.false

pub returns-in-Neither-clause-answer : goal.returns-in-Neither-clause-answer
returns-in-Neither-clause-answer c =
    let tells = c.requires.tells in
    let count = c.requires.branches in
    let n = c.if-account.false in
    bare_answer c.args.spec.problem.now c.args.spec.kept c.new.result.items c.in-Neither.is c.new.ensures.items (λ i inside. tells.none i (omega arith))

pub returns-in-Neither-clause-account : goal.returns-in-Neither-clause-account
returns-in-Neither-clause-account c = account c.args.spec.problem.now c.args.spec.kept c.args.account c.args.finds c.requires.branches c.requires.tells c.if-account.false
