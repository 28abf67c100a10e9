use Rattle.std.proofs.Common.{◌≡◌, ◌∙◌, ap, arith, drop, length, subst, sym}
use Rattle.std.proofs.lemmas.List.{take_at}
use Rattle.wf_sat_check.specs.Lrat.Slots.{AreFirsts, slots_in}
use Rattle.wf_sat_check.proofs.OfLrat.LaidLemmas.{laid-packed}
use Rattle.wf_sat_check.proofs.lrat.clauses.LratClauses.compact.Goals as goal

pub invariant_of-self : goal.invariant_of-self
invariant_of-self c =
    let arena = c.self.inside.arena.items in
    let places = c.self.inside.places.items in
    let new = c.pack.new.arena.items in
    let moved = c.pack.new.places in
    let long : length moved ≡ c.self.inside.places.len = omega (arith, c.pack.auto.places, c.deref_mut.ensures.len) in
    let same : slots_in new moved ≡ slots_in arena places = c.pack.ensures.same ∙ ap (slots_in arena) c.deref_mut.ensures.value in
    rw (take_at moved (drop (length moved) places) c.self.inside.places.len long)
    (record {
      laid = laid-packed new 0 moved (length new) c.pack.ensures.packed;
      firsts = subst (AreFirsts c.self.inside.firsts) (sym same) c.self.invariant.firsts;
    })
