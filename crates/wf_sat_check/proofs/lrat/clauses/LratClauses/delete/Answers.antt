use Rattle.std.proofs.Common.{◌<◌, ◌-◌, ◌∙◌, ap, arith, length, subst, sym}
use Rattle.wf_sat_check.specs.Lrat.Ledger.{emptied}
use Rattle.wf_sat_check.specs.Lrat.Slots.{AreFirsts, slots_in}
use Rattle.wf_sat_check.proofs.OfLrat.FirstsLemmas.{firsts_emptied}
use Rattle.wf_sat_check.proofs.OfLrat.LaidLemmas.{laid-set}
use Rattle.wf_sat_check.proofs.OfLrat.SlotLemmas.{slots_in-delete}
use Rattle.wf_sat_check.proofs.lrat.clauses.LratClauses.delete.Goals as goal

pub returns : goal.returns
returns c =
    let pos : 0 < c.args.id = omega (arith, c.if-id-eq0.false) in
    slots_in-delete c.self.inside.arena.items c.self.inside.places.items c.args.id pos ∙ ap (emptied c.args.id) c.self.view_is

pub invariant_of-self : goal.invariant_of-self
invariant_of-self c =
    let pos : 0 < c.args.id = omega (arith, c.if-id-eq0.false) in
    let arena = c.self.inside.arena.items in
    let places = c.self.inside.places.items in
    record {
      laid = laid-set arena 0 places (length arena) (c.args.id - 1) c.self.invariant.laid;
      firsts = subst (AreFirsts c.self.inside.firsts) (sym (slots_in-delete arena places c.args.id pos))
          (firsts_emptied c.self.inside.firsts (slots_in arena places) c.args.id c.self.invariant.firsts);
    }
