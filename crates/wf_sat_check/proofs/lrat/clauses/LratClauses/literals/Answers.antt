use Rattle.std.proofs.Common.{◌≡◌, ◌+◌, ◌-◌, ◌<◌, ◌≤◌, ◌∙◌, ap, arith, get_or, length}
use Rattle.std.proofs.lemmas.List.{get_or_default}
use Rattle.wf_sat_check.proofs.OfLrat.LaidLemmas.{place_within}
use Rattle.wf_sat_check.proofs.lrat.clauses.LratClauses.literals.Goals as goal

pub index-requires-2 : goal.index-requires-2
index-requires-2 c =
    let arena = c.self.inside.arena.items in
    let places = c.self.inside.places.items in
    let place = c.index.result.now in
    let h = c.index.ensures in
    let less : c.args.id - 1 < length places = omega (arith, c.self.inside.places.ok.0) in
    let pos : 0 < place = omega arith in
    let within = place_within arena places (c.args.id - 1) place c.self.invariant.laid less h pos in
    omega (arith, within, pos, c.self.inside.arena.ok.0)

pub slice_bounds-result-end : goal.slice_bounds-result-end
slice_bounds-result-end c =
    let arena = c.self.inside.arena.items in
    let places = c.self.inside.places.items in
    let place = c.index.result.now in
    let h = c.index.ensures in
    let less : c.args.id - 1 < length places = omega (arith, c.self.inside.places.ok.0) in
    let pos : 0 < place = omega arith in
    let within = place_within arena places (c.args.id - 1) place c.self.invariant.laid less h pos in
    let inside : place - 1 < length arena = omega (arith, within, pos) in
    let size : c.index-2.result.now ≡ get_or arena (place - 1) 0 = c.index-2.ensures ∙ get_or_default arena (place - 1) c.index-2.result.now 0 inside in
    let room : place + c.index-2.result.now ≤ length c.deref.result.now = omega (arith, within, size, ap length c.deref.ensures.value) in
    room
