use Rattle.std.proofs.Common.{◌≡◌, ◌+◌, ◌<◌, ◌∙◌, ◌++◌, ◌∷◌, [], ap, sym, arith, length, take}
use Rattle.wf_sat_check.specs.Rup.Stored.{kept_of}
use Rattle.wf_sat_check.proofs.OfRup.KeptLemmas.{kept_of-next, kept_of-pushed, kept_of-skip}
use Rattle.wf_sat_check.proofs.rup.database.Database.compact.Goals as goal

pub clauses-preserved-then-is_empty : goal.clauses-preserved-then-is_empty
clauses-preserved-then-is_empty c =
    let old = c.clauses.self-inside.clauses in
    let i = c.clauses.number in
    let clause = c.literals-clause.result.now in
    let within : i < length old = omega (arith, c.clauses-test.true, c.len-number-end.ensures, ap length c.clauses.invariant.clauses) in
    let none : length clause ≡ 0 = grind (arith, c.is_empty.ensures, c.if-is_empty.true) in
    record {
      trail = c.clauses.invariant.trail;
      clauses = c.clauses.invariant.clauses;
      refuted = c.clauses.invariant.refuted;
      kept = c.clauses.invariant.kept ∙ ap (λ f. kept_of (take i f)) (sym c.clauses.invariant.clauses)
          ∙ sym (kept_of-skip old i clause within c.literals-clause.ensures none)
          ∙ ap (λ f. kept_of (take (i + 1) f)) c.clauses.invariant.clauses;
    }

pub clauses-preserved : goal.clauses-preserved
clauses-preserved c =
    let old = c.clauses.self-inside.clauses in
    let i = c.clauses.number in
    let clause = c.literals-clause.result.now in
    let within : i < length old = omega (arith, c.clauses-test.true, c.len-number-end.ensures, ap length c.clauses.invariant.clauses) in
    let long : 0 < length clause = grind (arith, c.is_empty.ensures, c.if-is_empty.false) in
    record {
      trail = c.clauses.invariant.trail;
      clauses = c.clauses.invariant.clauses;
      refuted = c.clauses.invariant.refuted;
      kept = ap kept_of c.in_ok-store.ensures.exact ∙ kept_of-pushed c.clauses.clauses clause long
          ∙ ap (λ cs. cs ++ clause ∷ []) (c.clauses.invariant.kept ∙ ap (λ f. kept_of (take i f)) (sym c.clauses.invariant.clauses))
          ∙ sym (kept_of-next old i clause within c.literals-clause.ensures long)
          ∙ ap (λ f. kept_of (take (i + 1) f)) c.clauses.invariant.clauses;
    }
