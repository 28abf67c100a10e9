use Rattle.std.proofs.Common.{length-set}
use Rattle.wf_handout.proofs.Lemmas.{all_set}
use Rattle.wf_search_tests.proofs.handouts.take_at.Goals as goal

pub returns : goal.returns
returns g c =
    let fits = g.H.Handout.fits c.args.handout.now in
    let items = c.args.shares.now.items in
    let who = c.args.who in
    let new = c.take.ensures.same who (rw c.index_mut.ensures.value (c.requires.1 who c.index_mut.result.now c.requires.0)) in
    record { shares = (length-set items who c.take.new.share, all_set fits items who c.take.new.share c.requires.1 new) }
