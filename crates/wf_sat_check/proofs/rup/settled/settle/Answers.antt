use Rattle.std.proofs.Common.{◌<◌, sym, subst}
use Rattle.wf_sat_check.specs.Rup.Stored.{kept_of}
use Rattle.wf_sat_check.proofs.OfRup.SettledLemmas.{fewer, open_count}
use Rattle.wf_sat_check.proofs.rup.settled.settle.Goals as goal

pub rounds-smaller : goal.rounds-smaller
rounds-smaller c =
    let clauses = kept_of c.args.clauses.now in
    subst (λ trail. open_count trail clauses < open_count c.rounds.trail clauses) (sym c.in_ok-put-in-Forces.ensures.exact)
    (fewer clauses c.rounds.trail c.in-Forces.literal c.in-Forces.ensures)
