use Rattle.std.proofs.Common.{◌≡◌, ◌+◌, ◌++◌, ◌∙◌, None, Some, [], ◌∷◌, refl, sym, ap, subst, arith}
use Rattle.wf_model.specs.Closing.{Trace, canonical}
use Rattle.wf_model.proofs.Lemmas.{canonical_none_refutes, canonical_least, none_refutes}
use Rattle.wf_box.specs.Boxes.{Tracked}
use Rattle.wf_search.specs.SearchStack.{Boxes, HasFirst}
use Rattle.wf_search.specs.Found.{turns}
use Rattle.wf_search.specs.Turning.{AreBoxesOf}
use Rattle.wf_search.proofs.TurnCounts.{failed_map, turns_more}
use Rattle.wf_search.proofs.SearchLemmas.{at_first, ends_after, less_to_find, one_more, searched_on, turn_of}
use Rattle.wf_search.proofs.maps.search_map.Goals as goal

pub turns-init : goal.turns-init
turns-init g c =
    let p = c.args.problem.now in
    let is : c.of-pending.result.boxes ≡ c.args.boxed.sets ∷ [] = ap (λ (b : Boxes). b.boxes) c.of-pending.ensures ∙ ap (λ (b : Tracked). b.sets ∷ []) c.swap_cache.ensures.same in
    record {
      written = [];
      asked = g.met.S.Stop.unasked _;
      problem = ap (λ (b : Boxes). b.problem) c.of-pending.ensures;
      boxes = subst (AreBoxesOf p) (sym is) (c.requires.boxed.is_box, tt);
      first = subst HasFirst (sym is) refl;
      answers = c.swap_cache.ensures.serve p c.requires.boxed;
      search = at_first p c.of-pending.result.boxes c.args.boxed.sets is;
    }

pub take_turn-requires : goal.take_turn-requires
take_turn-requires g c = subst (λ q. AreBoxesOf q c.turns.pending.boxes) (sym c.turns.invariant.problem) c.turns.invariant.boxes

pub returns-then-stop-clause-asked : goal.returns-then-stop-clause-asked
returns-then-stop-clause-asked g c = (
  turns c.turns.invariant.written + 1,
  omega arith,
  one_more c.args.problem.now c.turns.pending.boxes c.turns.invariant.written _ c.turns.invariant.first c.turns.invariant.search,
  g.met.S.Stop.asked_on _ _ _ _ _ c.turns.invariant.asked c.stop.ensures.asked,
)

pub returns-in_err-take_turn-clause-asked : goal.returns-in_err-take_turn-clause-asked
returns-in_err-take_turn-clause-asked g c =
    failed_map (canonical c.args.problem.now c.args.boxed.sets) (λ n. g.S.Stop.asked n c.args.stop.now c.stop.new.self) c.from_residual.result c.from_residual.ensures.0 (
      turns c.turns.invariant.written + 1,
      omega arith,
      one_more c.args.problem.now c.turns.pending.boxes c.turns.invariant.written _ c.turns.invariant.first c.turns.invariant.search,
      g.met.S.Stop.asked_on _ _ _ _ _ c.turns.invariant.asked c.stop.ensures.asked,
    )

pub turns-preserved : goal.turns-preserved
turns-preserved g c =
    let p = c.args.problem.now in
    let is = turn_of p c.turns.pending.problem c.turns.pending.boxes c.take_turn.new.pending.boxes c.turns.lines.items c.take_turn.new.lines.items _ _ c.turns.invariant.problem c.in-GoesOn.is c.in_ok-take_turn.ensures.turn in
    record {
      written = c.turns.invariant.written ++ is.added;
      asked = subst (λ n. g.S.Stop.asked n c.args.stop.now c.stop.new.self) (sym (turns_more c.turns.invariant.written is.added is.one)) (g.met.S.Stop.asked_on _ _ _ _ _ c.turns.invariant.asked c.stop.ensures.asked);
      problem = c.take_turn.ensures.problem ∙ c.turns.invariant.problem;
      boxes = is.boxes_left;
      first = c.take_turn.ensures.first;
      answers = c.turns.invariant.answers;
      search = searched_on p _ _ _ _ _ is c.turns.invariant.written _ c.turns.invariant.search;
    }

pub turns-smaller : goal.turns-smaller
turns-smaller g c =
    let p = c.args.problem.now in
    less_to_find p _ _ _ _ _ (turn_of p c.turns.pending.problem c.turns.pending.boxes c.take_turn.new.pending.boxes c.turns.lines.items c.take_turn.new.lines.items _ _ c.turns.invariant.problem c.in-GoesOn.is c.in_ok-take_turn.ensures.turn)

pub returns-in-Nothing-clause-canonical : goal.returns-in-Nothing-clause-canonical
returns-in-Nothing-clause-canonical g c =
    let p = c.args.problem.now in
    let is = turn_of p c.turns.pending.problem c.turns.pending.boxes c.take_turn.new.pending.boxes c.turns.lines.items c.take_turn.new.lines.items _ _ c.turns.invariant.problem c.in-Nothing.is c.in_ok-take_turn.ensures.turn in
    ap (λ (t : Trace). t.map) (ends_after _ None (canonical p c.args.boxed.sets) (searched_on p _ _ _ _ _ is c.turns.invariant.written _ c.turns.invariant.search))

pub returns-in-Nothing-clause-right : goal.returns-in-Nothing-clause-right
returns-in-Nothing-clause-right g c =
    let p = c.args.problem.now in
    let box = c.args.boxed.sets in
    let is = turn_of p c.turns.pending.problem c.turns.pending.boxes c.take_turn.new.pending.boxes c.turns.lines.items c.take_turn.new.lines.items _ _ c.turns.invariant.problem c.in-Nothing.is c.in_ok-take_turn.ensures.turn in
    let none = ap (λ (t : Trace). t.map) (ends_after _ None (canonical p box) (searched_on p _ _ _ _ _ is c.turns.invariant.written _ c.turns.invariant.search)) in
    let refuted = canonical_none_refutes p box none in
    λ m solves lies. none_refutes p c.points-points.ensures.well_formed.in_range m solves refuted.0 box refuted.2 lies

pub returns-in-Nothing-clause-asked : goal.returns-in-Nothing-clause-asked
returns-in-Nothing-clause-asked g c =
    let p = c.args.problem.now in
    let is = turn_of p c.turns.pending.problem c.turns.pending.boxes c.take_turn.new.pending.boxes c.turns.lines.items c.take_turn.new.lines.items _ _ c.turns.invariant.problem c.in-Nothing.is c.in_ok-take_turn.ensures.turn in
    let whole = ends_after _ None (canonical p c.args.boxed.sets) (searched_on p _ _ _ _ _ is c.turns.invariant.written _ c.turns.invariant.search) in
    subst (λ n. g.S.Stop.asked n c.args.stop.now c.stop.new.self) (sym (ap (λ (t : Trace). turns t.lines) whole ∙ turns_more c.turns.invariant.written is.added is.one)) (g.met.S.Stop.asked_on _ _ _ _ _ c.turns.invariant.asked c.stop.ensures.asked)

pub returns-in-Map-clause-canonical : goal.returns-in-Map-clause-canonical
returns-in-Map-clause-canonical g c =
    let p = c.args.problem.now in
    let is = turn_of p c.turns.pending.problem c.turns.pending.boxes c.take_turn.new.pending.boxes c.turns.lines.items c.take_turn.new.lines.items _ _ c.turns.invariant.problem c.in-Map.is c.in_ok-take_turn.ensures.turn in
    ap (λ (t : Trace). t.map) (ends_after _ (Some c.in-Map.values.items) (canonical p c.args.boxed.sets) (searched_on p _ _ _ _ _ is c.turns.invariant.written _ c.turns.invariant.search))

pub returns-in-Map-clause-right : goal.returns-in-Map-clause-right
returns-in-Map-clause-right g c =
    let p = c.args.problem.now in
    let is = turn_of p c.turns.pending.problem c.turns.pending.boxes c.take_turn.new.pending.boxes c.turns.lines.items c.take_turn.new.lines.items _ _ c.turns.invariant.problem c.in-Map.is c.in_ok-take_turn.ensures.turn in
    canonical_least p c.args.boxed.sets c.in-Map.values.items c.points-points.ensures.well_formed c.requires.boxed.is_box
    (ap (λ (t : Trace). t.map) (ends_after _ (Some c.in-Map.values.items) (canonical p c.args.boxed.sets) (searched_on p _ _ _ _ _ is c.turns.invariant.written _ c.turns.invariant.search)))

pub returns-in-Map-clause-asked : goal.returns-in-Map-clause-asked
returns-in-Map-clause-asked g c =
    let p = c.args.problem.now in
    let is = turn_of p c.turns.pending.problem c.turns.pending.boxes c.take_turn.new.pending.boxes c.turns.lines.items c.take_turn.new.lines.items _ _ c.turns.invariant.problem c.in-Map.is c.in_ok-take_turn.ensures.turn in
    let whole = ends_after _ (Some c.in-Map.values.items) (canonical p c.args.boxed.sets) (searched_on p _ _ _ _ _ is c.turns.invariant.written _ c.turns.invariant.search) in
    subst (λ n. g.S.Stop.asked n c.args.stop.now c.stop.new.self) (sym (ap (λ (t : Trace). turns t.lines) whole ∙ turns_more c.turns.invariant.written is.added is.one)) (g.met.S.Stop.asked_on _ _ _ _ _ c.turns.invariant.asked c.stop.ensures.asked)
