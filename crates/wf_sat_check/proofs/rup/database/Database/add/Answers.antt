use Rattle.std.proofs.Common.{inl, inr}
use Rattle.wf_sat_check.proofs.OfRup.StoredLemmas.{kept-pushed, stores-one, stores-pushed}
use Rattle.wf_sat_check.proofs.rup.database.Database.add.Goals as goal

pub returns-in_ok-store-in-Some-other_open_literal-clause-kept :
    goal.returns-in_ok-store-in-Some-other_open_literal-clause-kept
returns-in_ok-store-in-Some-other_open_literal-clause-kept c =
    inr (inl (kept-pushed c.self.inside.clauses c.store.new.clauses c.args.clause.now c.in-Some.first c.in-Some.ensures.some.inside
    c.in_ok-store-in-Some-other_open_literal.ensures.exact))

pub returns-in_ok-store-in-Some-other_open_literal-clause-still :
    goal.returns-in_ok-store-in-Some-other_open_literal-clause-still
returns-in_ok-store-in-Some-other_open_literal-clause-still c =
    stores-pushed c.self.inside.trail c.self.inside.clauses c.store.new.clauses c.self.inside.is_refuted c.args.clause.now c.in-Some.first
    c.args.self.now c.self.view_is c.in-Some.ensures.some.inside c.in_ok-store-in-Some-other_open_literal.ensures.exact

pub returns-in_ok-store-in-Some-other_open_literal-clause-alone :
    goal.returns-in_ok-store-in-Some-other_open_literal-clause-alone
returns-in_ok-store-in-Some-other_open_literal-clause-alone c =
    inr (stores-one c.self.inside.trail c.self.inside.clauses c.store.new.clauses c.self.inside.is_refuted c.args.clause.now c.in-Some.first
    c.args.self.now c.self.view_is c.in-Some.ensures.some.inside c.in_ok-store-in-Some-other_open_literal.ensures.exact)
