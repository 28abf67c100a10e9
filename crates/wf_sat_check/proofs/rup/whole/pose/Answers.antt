use Rattle.std.proofs.Common.{◌≡◌, ◌+◌, refl, subst, take}
use Rattle.std.proofs.lemmas.List.{take_all}
use Rattle.wf_sat_check.specs.Rup.Posed.{IsPosed}
use Rattle.wf_sat_check.specs.Rup.Whole.{formula_of}
use Rattle.wf_sat_check.proofs.OfRup.PosedLemmas.{clauses_more, posed_more, posed_none}
use Rattle.wf_sat_check.proofs.rup.whole.pose.Goals as goal

pub clauses-init : goal.clauses-init
clauses-init c = posed_none c.args.variables c.in_ok-checker.checker c.in_ok-checker.ensures.nothing c.in_ok-checker.ensures.empty c.in_ok-checker.ensures.variables

pub clauses-preserved : goal.clauses-preserved
clauses-preserved c =
    let vectors = c.args.clauses.now in
    let i = c.clauses.clause-index in
    posed_more (formula_of c.args.variables (take i vectors)) (formula_of c.args.variables (take (i + 1) vectors)) _ _ _ refl
    (clauses_more vectors i c.clause-item.result _ c.clauses-test.true c.clause-item.is c.deref.ensures.value)
    c.clauses.invariant c.add.ensures.sound c.in_ok-add.ensures.kept c.in_ok-add.ensures.still c.in_ok-add.ensures.alone

pub returns : goal.returns
returns c =
    let all : take c.clauses.clause-index c.args.clauses.now ≡ c.args.clauses.now = take_all _ _ c.clauses-test.false in
    subst (λ vs. IsPosed (formula_of c.args.variables vs) c.clauses.checker) all c.clauses.invariant
