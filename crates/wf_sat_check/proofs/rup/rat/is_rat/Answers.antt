use Rattle.std.proofs.Common.{◌∙◌, ap, arith, sym, get_or, subst}
use Rattle.wf_sat_check.specs.Rup.Rat.{resolvent_of}
use Rattle.wf_sat_check.specs.Rup.Resolving.{StopsShort}
use Rattle.wf_sat_check.specs.Rup.Stored.{kept_of}
use Rattle.wf_sat_check.proofs.OfRup.DeletedLemmas.{has-contained}
use Rattle.wf_sat_check.proofs.OfRup.ResolvingLemmas.{resolves-on, short-resolvent, stops-at}
use Rattle.wf_sat_check.proofs.rup.rat.is_rat.Goals as goal

pub returns-then-not-branch-clause-refused : goal.returns-then-not-branch-clause-refused
returns-then-not-branch-clause-refused c = λ no effort.
    let f = c.args.clauses.now in
    let trail = c.args.trail.now in
    let lemma = c.args.lemma.now.clause.now in
    let pivot = c.in-Some.pivot.now in
    let negation = c.negated-negation.result in
    let first = c.in-Some.ensures.item in
    let same = c.clauses.invariant.clauses in
    let clause = c.literals-clause.result.now in
    short-resolvent (kept_of f) trail lemma pivot first.1 first.3.0
    (stops-at f trail lemma negation c.clauses.number clause (omega (arith, c.clauses-test.true, c.len-number-end.ensures))
    (c.literals-clause.ensures ∙ ap (λ g. get_or g c.clauses.number clause) same) pivot c.negated-negation.ensures.exact
    (sym c.has_literal.ensures ∙ c.if-not-has_literal.false)
    (subst (λ g. StopsShort (kept_of g) trail (resolvent_of lemma negation clause)) same
    (subst (λ t. StopsShort (kept_of c.clauses.clauses) t (resolvent_of lemma negation clause)) c.clauses.invariant.trail
    (subst (StopsShort (kept_of c.clauses.clauses) c.clauses.trail) (c.deref.ensures.value ∙ c.in_ok-put_resolvent.ensures)
    (c.in_ok-follows.ensures.refused c.if-not-branch.true effort)))))

pub returns-clause-resolves : goal.returns-clause-resolves
returns-clause-resolves c = λ yes.
    let f = c.args.clauses.now in
    let lemma = c.args.lemma.now.clause.now in
    let pivot = c.in-Some.pivot.now in
    let first = c.in-Some.ensures.item in (
      pivot,
      resolves-on f c.args.trail.now lemma pivot c.negated-negation.result c.clauses.number c.negated-negation.ensures.exact
          (has-contained lemma pivot (0, first.3.0, sym first.1)) (sym c.is_true.ensures.exact ∙ c.if-is_true.false)
          (omega (arith, c.clauses-test.false, c.len-number-end.ensures)) c.clauses.invariant.resolved,
    )
