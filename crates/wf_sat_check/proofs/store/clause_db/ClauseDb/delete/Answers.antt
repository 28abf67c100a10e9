use Rattle.std.proofs.Common.{◌≡◌, sym, subst, get_or}
use Rattle.std.specs.Option.{IfSome}
use Rattle.wf_sat_check.specs.Store.FirstOccurrence.{AreFirsts}
use Rattle.wf_sat_check.specs.Store.Index.{IsAlikeAt, IsFoundAt, IsIndexed}
use Rattle.wf_sat_check.proofs.OfStore.CatalogueLemmas.{indexed-forgotten, none-alike}
use Rattle.wf_sat_check.proofs.OfStore.FirstsLemmas.{firsts-forgotten}
use Rattle.wf_sat_check.proofs.store.clause_db.ClauseDb.delete.Goals as goal

pub returns-in_default-clause-none : goal.returns-in_default-clause-none
returns-in_default-clause-none c = λ no n alike.
    none-alike c.self.inside.clauses c.self.inside.index c.bucket.result.now c.in_ok-hash.hash n c.args.clause.now c.self.invariant.0 c.bucket.ensures
    c.in_ok-hash.ensures (c.in_ok-found.ensures.none c.in_default.is) (subst (λ cs. IsAlikeAt cs c.args.clause.now n) (sym c.self.view_is) alike)

pub invariant_of-self-2 : goal.invariant_of-self-2
invariant_of-self-2 c =
    let found : IsFoundAt c.bucket.result.now c.self.inside.clauses c.args.clause.now c.in-Some.found
    = subst (λ o. IfSome o (IsFoundAt c.bucket.result.now c.self.inside.clauses c.args.clause.now)) c.in-Some.is c.in_ok-found.ensures.some in (
      subst (λ cs. IsIndexed cs c.take.new.self) (sym c.forget.ensures)
          (indexed-forgotten c.self.inside.clauses c.self.inside.index c.take.new.self found.entry c.in-Some.found.number c.self.invariant.0
          (c.take.ensures found.entry (subst (λ xs. found.entry ≡ get_or xs c.in-Some.found.place found.entry) c.bucket.ensures found.is)) found.numbered),
      subst (AreFirsts c.self.inside.firsts) (sym c.forget.ensures)
          (firsts-forgotten c.self.inside.firsts c.self.inside.clauses c.in-Some.found.number c.self.invariant.1),
    )
