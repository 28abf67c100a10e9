use Rattle.std.proofs.Common.{ap, subst, ◌∙◌, map}
use Rattle.wf_model.specs.Problem.{problem_of}
use Rattle.wf_base.specs.Lines.Lines.{line_of}
use Rattle.wf_pool.specs.Answers.{IsAnswer, HasAccount}
use Rattle.wf_run.specs.Texts.{text_of_report}
use Rattle.wf_run_solve.specs.Texts.{lines_kept}
use Rattle.wf_run_solve.proofs.AnswersOfSearches.{map_account, map_verdict, none_verdict}
use Rattle.wf_run_solve.proofs.solve.with_text.Goals as goal

pub returns-in_ok-text-in-Map-clause-found : goal.returns-in_ok-text-in-Map-clause-found
returns-in_ok-text-in-Map-clause-found c =
    let t = c.args.task.now in
    let r = c.args.wanted.rounds in
    let answer = subst (IsAnswer (problem_of t r) (lines_kept c.args.wanted.form)) c.in-Map.is c.requires.answer in
    let lines = map line_of c.in-Map.lines.items in
    map_verdict t r c.args.wanted.form c.in-Map.values.items lines _ c.requires.header.task answer.0 answer.1
    (c.in_ok-text-in-Map.ensures ∙ ap (text_of_report t r) c.body_of_map-body.ensures)

pub returns-in_ok-text-in-Nothing-clause-found : goal.returns-in_ok-text-in-Nothing-clause-found
returns-in_ok-text-in-Nothing-clause-found c =
    let t = c.args.task.now in
    let r = c.args.wanted.rounds in
    let answer = subst (IsAnswer (problem_of t r) (lines_kept c.args.wanted.form)) c.in-Nothing.is c.requires.answer in
    let lines = map line_of c.in-Nothing.lines.items in
    none_verdict t r c.args.wanted.form lines _ c.requires.header.task answer.0 answer.1
    c.in_ok-text-in-Nothing.ensures

pub returns-in_ok-text-in-Map-clause-account : goal.returns-in_ok-text-in-Map-clause-account
returns-in_ok-text-in-Map-clause-account c a account =
    let t = c.args.task.now in
    let r = c.args.wanted.rounds in
    let answer = subst (IsAnswer (problem_of t r) (lines_kept c.args.wanted.form)) c.in-Map.is c.requires.answer in
    map_account t r c.in-Map.values.items a c.requires.header.task answer.0 (subst (λ x. HasAccount (problem_of t r) x a) c.in-Map.is account)

pub returns-in_ok-text-in-Nothing-clause-account : goal.returns-in_ok-text-in-Nothing-clause-account
returns-in_ok-text-in-Nothing-clause-account c a account = subst (λ x. HasAccount (problem_of c.args.task.now c.args.wanted.rounds) x a) c.in-Nothing.is account
