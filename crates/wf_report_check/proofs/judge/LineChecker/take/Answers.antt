use Rattle.std.proofs.Common.{◌≡◌, ◌+◌, ◌∷◌, suc, length, sym, ap, ◌∙◌, subst, arith}
use Rattle.std.proofs.lemmas.Result.{err_from_is_err_and}
use Rattle.wf_base.specs.Lines.Lines.{line_of}
use Rattle.wf_report_check.specs.Claims.{fault_left}
use Rattle.wf_report_check.specs.Faults.{Fails}
use Rattle.wf_report_check.specs.Left.{claimed, fault_of, left_of}
use Rattle.wf_report_check.specs.Rules.{problem_in}
use Rattle.wf_report_check.proofs.ClaimLemmas.{seen_left, takes_fault, trailing_now}
use Rattle.wf_report_check.proofs.judge.LineChecker.take.Goals as goal

pub returns-in_default-clause-judged : goal.returns-in_default-clause-judged
returns-in_default-clause-judged c = λ ls.
    let p = problem_in c.args.rules.now in
    let claim = c.args.rules.now.claim in
    let l = line_of c.args.line in
    let self = c.self.inside in
    ap (fault_of p (claimed claim) (l ∷ ls)) (sym c.self.view_is)
    ∙ seen_left p claim self.at (l ∷ ls) self.progress self.blocks
    ∙ trailing_now p claim self.at l ls self.progress self.blocks c.in_default.not-Going

pub returns-in_err-self-inside-clause-judged : goal.returns-in_err-self-inside-clause-judged
returns-in_err-self-inside-clause-judged c =
    let p = problem_in c.args.rules.now in
    let claim = c.args.rules.now.claim in
    let l = line_of c.args.line in
    let self = c.self.inside in
    let fault = c.in_err-self-inside.field-0.0 in
    let e = err_from_is_err_and c.from_residual.result c.from_residual.ensures.1 in
    takes_fault c.from_residual.result e.0 fault p (claimed claim) l c.args.self.now
    (record { line = self.at; points = length c.judge_line.new.blocks.sets.items; left = left_of self.progress c.judge_line.new.blocks }) e.1 e.2
    (λ ls.
    subst (Fails fault)
    (sym (ap (fault_of p (claimed claim) (l ∷ ls)) (sym c.self.view_is)
    ∙ seen_left p claim self.at (l ∷ ls) self.progress self.blocks
    ∙ ap (λ progress. fault_left p claim self.at (l ∷ ls) progress self.blocks) c.in-Going.is))
    (c.in_err-self-inside.ensures.step ls))

pub returns-clause-judged : goal.returns-clause-judged
returns-clause-judged c = λ ls.
    let p = problem_in c.args.rules.now in
    let claim = c.args.rules.now.claim in
    let l = line_of c.args.line in
    let self = c.self.inside in
    let progress = c.in_ok-self-inside.field-0 in
    let blocks = c.judge_line.new.blocks in
    let next : suc self.at ≡ self.at + 1 = omega arith in
    ap (fault_of p (claimed claim) (l ∷ ls)) (sym c.self.view_is)
    ∙ seen_left p claim self.at (l ∷ ls) self.progress self.blocks
    ∙ ap (λ progress. fault_left p claim self.at (l ∷ ls) progress self.blocks) c.in-Going.is
    ∙ c.in_ok-self-inside.ensures.step ls
    ∙ ap (λ n. fault_left p claim n ls progress blocks) next
    ∙ sym (seen_left p claim (self.at + 1) ls progress blocks)
