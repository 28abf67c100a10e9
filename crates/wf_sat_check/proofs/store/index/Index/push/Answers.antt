use Rattle.std.proofs.Common.{sym, subst}
use Rattle.wf_sat_check.specs.Store.Index.{Finds}
use Rattle.wf_sat_check.proofs.store.index.Index.push.Goals as goal
use Rattle.wf_sat_check.proofs.store.index.Index.push.Goals.{then-self-saturating_mul+in_ok-grow, else-self-saturating_mul}

pub returns-clause-still : goal.returns-clause-still
returns-clause-still c = λ entry found. c.put.ensures.still entry (elim c.if-self-saturating_mul.branch [
  | then-self-saturating_mul+in_ok-grow w ↦ subst (λ bs. Finds bs entry) (sym w.self-is) (w.grow.ensures entry found)
  | else-self-saturating_mul w ↦ subst (λ bs. Finds bs entry) (sym w.self-is) found
])
