use Rattle.std.proofs.lemmas.List.Elements.{All-more}
use Rattle.wf_sat_check.specs.Store.Index.{Finds}
use Rattle.wf_sat_check.proofs.OfStore.CatalogueLemmas.{all-so_far}
use Rattle.wf_sat_check.proofs.OfStore.IndexLemmas.{each-still}
use Rattle.wf_sat_check.proofs.store.index.Index.put_all.Goals as goal

pub entries-preserved : goal.entries-preserved
entries-preserved c = record {
  found = All-more (Finds c.put.new.self) c.args.entries.now c.entries.entry-index (record { hash = 0; number = 0 }) c.entries-test.true
      (each-still c.entries.self c.put.new.self _ c.put.ensures.still c.entries.invariant.found) c.in_ok-put.ensures.found;
  still = λ entry found. c.put.ensures.still entry (c.entries.invariant.still entry found);
}

pub returns-clause-found : goal.returns-clause-found
returns-clause-found c = all-so_far (Finds c.entries.self) c.args.entries.now c.entries.entry-index c.entries-test.false c.entries.invariant.found
