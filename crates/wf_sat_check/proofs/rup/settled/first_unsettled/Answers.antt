use Rattle.std.proofs.Common.{◌≡◌, ◌<◌, ◌≤◌, subst, arith, length, take}
use Rattle.std.specs.List.{All}
use Rattle.std.proofs.lemmas.List.{take_all}
use Rattle.wf_sat_check.specs.Rup.Settled.{IsSettled, Stands}
use Rattle.wf_sat_check.specs.Rup.Stored.{kept_of}
use Rattle.wf_sat_check.proofs.OfRup.KeptLemmas.{All-kept_more, Contains-kept}
use Rattle.wf_sat_check.proofs.OfRup.SettledLemmas.{stands-one}
use Rattle.wf_sat_check.proofs.rup.settled.first_unsettled.Goals as goal

pub loop-number-preserved-then-is_empty : goal.loop-number-preserved-then-is_empty
loop-number-preserved-then-is_empty c =
    let within : c.loop-number.number < length c.args.clauses.now = omega (arith, c.loop-number-test.true, c.len-number-end.ensures) in
    All-kept_more (IsSettled c.args.trail.now) c.args.clauses.now c.loop-number.number c.literals-clause.result.now within c.literals-clause.ensures
    (λ long. absurd (grind (arith, long, c.is_empty.ensures, c.if-is_empty.true)))
    c.loop-number.invariant

pub returns-in_default : goal.returns-in_default
returns-in_default c =
    let within : c.loop-number.number < length c.args.clauses.now = omega (arith, c.loop-number-test.true, c.len-number-end.ensures) in
    let long : 0 < length c.literals-clause.result.now = grind (arith, c.is_empty.ensures, c.if-is_empty.false) in
    stands-one (kept_of c.args.clauses.now) c.args.trail.now c.literals-clause.result.now c.judge.result
    (Contains-kept c.args.clauses.now c.loop-number.number c.literals-clause.result.now within c.literals-clause.ensures long)
    c.in_default.not-Settled c.judge.ensures

pub loop-number-preserved : goal.loop-number-preserved
loop-number-preserved c =
    let within : c.loop-number.number < length c.args.clauses.now = omega (arith, c.loop-number-test.true, c.len-number-end.ensures) in
    All-kept_more (IsSettled c.args.trail.now) c.args.clauses.now c.loop-number.number c.literals-clause.result.now within c.literals-clause.ensures
    (λ long. subst (Stands c.args.trail.now c.literals-clause.result.now) c.in-Settled.is c.judge.ensures)
    c.loop-number.invariant

pub returns : goal.returns
returns c =
    let beyond : length c.args.clauses.now ≤ c.loop-number.number = omega (arith, c.loop-number-test.false, c.len-number-end.ensures) in
    let whole : take c.loop-number.number c.args.clauses.now ≡ c.args.clauses.now = take_all c.loop-number.number c.args.clauses.now beyond in
    subst (λ cs. All (IsSettled c.args.trail.now) (kept_of cs)) whole c.loop-number.invariant
