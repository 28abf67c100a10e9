use Rattle.std.proofs.Common.{◌≡◌, ◌<◌, ◌∙◌, sym, arith, length, true}
use Rattle.std.proofs.lemmas.Bool.{false≢true}
use Rattle.wf_sat_text.specs.Drat.Codes.{satisfies_codes}
use Rattle.wf_sat_check.proofs.OfRup.KeptLemmas.{satisfies_codes-kept}
use Rattle.wf_sat_check.proofs.rup.propagation.visit.Goals as goal

pub returns-then-is_false-clause-sound : goal.returns-then-is_false-clause-sound
returns-then-is_false-clause-sound c = λ a model all.
    let long : 0 < length c.literals_at-literals.result.now = grind (arith, c.is_empty.ensures, c.if-is_empty.false) in
    let (n, within, is) = c.literals_at-literals.ensures long in
    let satisfied : satisfies_codes a c.literals_at-literals.result.now ≡ true =
    satisfies_codes-kept a c.args.clauses.now n _ model within (sym is) long in
    false≢true (sym (c.is_false.ensures.sound c.if-is_false.true a all) ∙ c.in-None.ensures.none a all satisfied)

pub returns-else-is_false-clause-sound : goal.returns-else-is_false-clause-sound
returns-else-is_false-clause-sound c = λ a model all.
    let long : 0 < length c.literals_at-literals.result.now = grind (arith, c.is_empty.ensures, c.if-is_empty.false) in
    let (n, within, is) = c.literals_at-literals.ensures long in
    c.in-None.ensures.none a all (satisfies_codes-kept a c.args.clauses.now n _ model within (sym is) long)
