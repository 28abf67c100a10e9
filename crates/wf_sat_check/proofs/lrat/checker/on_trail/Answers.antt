use Rattle.std.proofs.Common.{◌≡◌, ◌∙◌, IfOk, ap, subst, sym}
use Rattle.wf_sat_check.specs.Lrat.Hints.{by_pivot, goes_on, stops, with_false}
use Rattle.wf_sat_check.specs.Lrat.Slots.{clause_of, told}
use Rattle.wf_sat_check.proofs.OfLrat.JudgeLemmas.{at_followed, at_tautology}
use Rattle.wf_sat_check.proofs.lrat.checker.on_trail.Goals as goal

pub returns-then-is_one_true : goal.returns-then-is_one_true
returns-then-is_one_true c =
    at_tautology c.args.clauses.now (clause_of c.args.clause.now) c.args.hints.now (clause_of c.assume.new.trail)
    (c.in_ok-assume.ensures ∙ ap (λ t. with_false (clause_of t) (clause_of c.args.clause.now)) c.requires)
    (sym c.is_one_true.ensures ∙ c.if-is_one_true.true)

pub returns-in-Stops : goal.returns-in-Stops
returns-in-Stops c =
    at_followed c.args.clauses.now (clause_of c.args.clause.now) c.args.hints.now (clause_of c.assume.new.trail)
    (c.in_ok-assume.ensures ∙ ap (λ t. with_false (clause_of t) (clause_of c.args.clause.now)) c.requires)
    (stops c.in-Stops.verdict) (sym c.is_one_true.ensures ∙ c.if-is_one_true.false)
    (ap (λ x. told x (clause_of c.follow.new.trail)) (sym c.in-Stops.is) ∙ c.in_ok-verdict.ensures.course)

pub returns-in-GoesOn : goal.returns-in-GoesOn
returns-in-GoesOn c =
    let trail = clause_of c.follow.new.trail in
    subst (λ x. IfOk c.check_rat.result (λ v. v ≡ x))
    (ap (by_pivot c.args.clauses.now trail (clause_of c.args.clause.now)) c.next_group.ensures
    ∙ at_followed c.args.clauses.now (clause_of c.args.clause.now) c.args.hints.now (clause_of c.assume.new.trail)
    (c.in_ok-assume.ensures ∙ ap (λ t. with_false (clause_of t) (clause_of c.args.clause.now)) c.requires)
    (goes_on trail) (sym c.is_one_true.ensures ∙ c.if-is_one_true.false)
    (ap (λ x. told x trail) (sym c.in-GoesOn.is) ∙ c.in_ok-verdict.ensures.course))
    c.check_rat.ensures
