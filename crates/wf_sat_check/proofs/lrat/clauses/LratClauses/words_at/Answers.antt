use Rattle.std.proofs.Common.{◌<◌, arith, ap, length}
use Rattle.std.proofs.lemmas.List.{length-map}
use Rattle.wf_sat_check.specs.Lrat.Slots.{slot_at}
use Rattle.wf_sat_check.proofs.OfLrat.LaidLemmas.{place_within}
use Rattle.wf_sat_check.proofs.lrat.clauses.LratClauses.words_at.Goals as goal

pub index-requires-2 : goal.index-requires-2
index-requires-2 c =
    let arena = c.self.inside.arena.items in
    let places = c.self.inside.places.items in
    let place = c.index.result.now in
    let h = c.index.ensures in
    let less : c.args.number < length places = omega (arith, c.requires, ap length c.self.view_is, length-map places (slot_at arena)) in
    let pos : 0 < place = omega arith in
    let within = place_within arena places c.args.number place c.self.invariant.laid less h pos in
    omega (arith, within, pos, c.self.inside.arena.ok.0)
