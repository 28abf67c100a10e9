use Rattle.std.proofs.Common.{sym, ◌∙◌}
use Rattle.std.proofs.lemmas.Bool.{false≢true}
use Rattle.std.proofs.lemmas.List.Elements.{All-more}
use Rattle.wf_sat_check.specs.Store.Index.{IsOther}
use Rattle.wf_sat_check.proofs.OfStore.CatalogueLemmas.{all-so_far}
use Rattle.wf_sat_check.proofs.store.clause_db.find.Goals as goal
use Rattle.wf_sat_check.proofs.store.clause_db.find.Goals.{else-entry-hash-via-then-entry-hash+in_ok-is_alike+else-branch, else-entry-hash-via-else-entry-hash}

pub loop-place-preserved : goal.loop-place-preserved
loop-place-preserved c = elim c.else-entry-hash.branch [
  | else-entry-hash-via-then-entry-hash+in_ok-is_alike+else-branch w ↦
      All-more (IsOther c.args.clauses.now c.args.hash c.args.clause.now) c.args.entries.now c.loop-place.place (record { hash = 0; number = 0 }) c.loop-place-test.true
      c.loop-place.invariant (λ same alike. false≢true (sym w.if-branch.false ∙ w.in_ok-is_alike.ensures.1 alike))
  | else-entry-hash-via-else-entry-hash w ↦
      All-more (IsOther c.args.clauses.now c.args.hash c.args.clause.now) c.args.entries.now c.loop-place.place (record { hash = 0; number = 0 }) c.loop-place-test.true
      c.loop-place.invariant (λ same alike. w.if-entry-hash.false same)
]

pub returns-clause-none : goal.returns-clause-none
returns-clause-none c = λ none. all-so_far (IsOther c.args.clauses.now c.args.hash c.args.clause.now) c.args.entries.now c.loop-place.place
    c.loop-place-test.false c.loop-place.invariant
