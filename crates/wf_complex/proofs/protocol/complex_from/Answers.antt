use Rattle.std.proofs.Common.{◌≡◌, ◌<◌, ◌≤◌, flat_map, map, length, All, sym, refl, ap, ◌∙◌, subst, arith}
use Rattle.std.specs.List.{AllPairs, slice_index_or}
use Rattle.std.proofs.lemmas.List.Elements.{All-from_recursion}
use Rattle.wf_complex.specs.Rounds.{leaves_of}
use Rattle.wf_complex.specs.Layout.{laid_out}
use Rattle.wf_complex.specs.Classes.{class_by}
use Rattle.wf_complex.specs.Places.{firsts_at, firsts_in, places_on_all}
use Rattle.wf_complex.specs.Packed.{IsPackedOn, packed_on, scope_in}
use Rattle.wf_complex.specs.Protocol.{IsProtocol}
use Rattle.wf_complex.specs.ProtocolSeen.{points_seen, scopes_seen}
use Rattle.wf_complex.specs.declared.firsts.First.{First}
use Rattle.wf_complex.specs.declared.layout.ExecutionSlot.{ExecutionSlot}
use Rattle.wf_complex.specs.declared.packed.PackedExecution.{PackedExecution}
use Rattle.std.proofs.lemmas.List.{length-map}
use Rattle.wf_complex.proofs.PackedLemmas.{all_packed, scopes_packed, simplices_packed}
use Rattle.wf_complex.proofs.BuiltComplexes.{all_sized, all_small, few_views, few_lasts, length-classes, few_points, classes_viewed, are_laid, numbers_long, is_protocol}
use Rattle.wf_complex.proofs.Depth.{lasts_shallow}
use Rattle.wf_complex.proofs.protocol.complex_from.Goals as goal

pub last_views-requires-clause-room : goal.last_views-requires-clause-room
last_views-requires-clause-room c =
    let inputs = c.args.inputs.now in
    let room = few_views c.args.first_block c.args.rounds inputs c.requires.one c.requires.most c.requires.rounds c.requires.executions c.requires.few (all_sized inputs c.requires.simplices) in
    omega (arith, room, ap length c.start-views.ensures)

pub place_count-room-requires-clause-sizes : goal.place_count-room-requires-clause-sizes
place_count-room-requires-clause-sizes c =
    let inputs = c.args.inputs.now in
    All-from_recursion (λ s. length s ≤ 4) inputs (all_small inputs (all_sized inputs c.requires.simplices))

pub points_of-requires-clause-few : goal.points_of-requires-clause-few
points_of-requires-clause-few c =
    let inputs = c.args.inputs.now in
    few_lasts c.args.first_block c.args.rounds inputs c.requires.executions (all_sized inputs c.requires.simplices) c.last_views.new.views c.in_ok-lasts.lasts.items c.in_ok-lasts.ensures.made

pub points_of-requires-clause-shallow : goal.points_of-requires-clause-shallow
points_of-requires-clause-shallow c =
    let inputs = c.args.inputs.now in
    lasts_shallow c.args.first_block c.args.rounds inputs c.requires.rounds (all_sized inputs c.requires.simplices) c.last_views.new.views c.in_ok-lasts.lasts.items c.in_ok-lasts.ensures.made

pub points_of-requires-clause-room : goal.points_of-requires-clause-room
points_of-requires-clause-room c =
    let inputs = c.args.inputs.now in
    let sized = all_sized inputs c.requires.simplices in
    let few = few_lasts c.args.first_block c.args.rounds inputs c.requires.executions sized c.last_views.new.views c.in_ok-lasts.lasts.items c.in_ok-lasts.ensures.made in
    let room = few_views c.args.first_block c.args.rounds inputs c.requires.one c.requires.most c.requires.rounds c.requires.executions c.requires.few sized in
    omega (arith, few, room, c.in_ok-lasts.ensures.added, ap length c.start-views.ensures)

pub place_all-requires-clause-sizes : goal.place_all-requires-clause-sizes
place_all-requires-clause-sizes c =
    let inputs = c.args.inputs.now in
    All-from_recursion (λ s. length s ≤ 4) inputs (all_small inputs (all_sized inputs c.requires.simplices))

pub place_all-requires-clause-numbers : goal.place_all-requires-clause-numbers
place_all-requires-clause-numbers c =
    let inputs = c.args.inputs.now in
    let p = c.in_ok-points.points in
    numbers_long c.args.first_block c.args.rounds inputs c.requires.executions (all_sized inputs c.requires.simplices) c.last_views.new.views c.in_ok-lasts.lasts.items c.in_ok-lasts.ensures.made (class_by c.args.symmetric) c.points_of.new.views p.classes.items p.firsts.items p.numbers.items c.in_ok-points.ensures.points

pub place_all-requires-clause-places : goal.place_all-requires-clause-places
place_all-requires-clause-places c =
    let inputs = c.args.inputs.now in
    let p = c.in_ok-points.points in
    let laid = are_laid c.args.first_block c.args.rounds inputs c.requires.executions (all_sized inputs c.requires.simplices) c.last_views.new.views c.in_ok-lasts.lasts.items c.in_ok-lasts.ensures.made (class_by c.args.symmetric) c.points_of.new.views p.classes.items p.firsts.items p.numbers.items c.in_ok-points.ensures.points (laid_out c.args.first_block c.args.rounds 0 0 inputs) refl in
    subst (All (λ j. j < length p.numbers.items)) (sym c.deref.ensures.value) laid.placed

pub place_all-requires-clause-ascending : goal.place_all-requires-clause-ascending
place_all-requires-clause-ascending c =
    let inputs = c.args.inputs.now in
    let p = c.in_ok-points.points in
    let laid = are_laid c.args.first_block c.args.rounds inputs c.requires.executions (all_sized inputs c.requires.simplices) c.last_views.new.views c.in_ok-lasts.lasts.items c.in_ok-lasts.ensures.made (class_by c.args.symmetric) c.points_of.new.views p.classes.items p.firsts.items p.numbers.items c.in_ok-points.ensures.points (laid_out c.args.first_block c.args.rounds 0 0 inputs) refl in
    subst (AllPairs (λ i j. i < j)) (sym c.deref.ensures.value) laid.ascending

pub invariant_of-result : goal.invariant_of-result
invariant_of-result c =
    let m = c.args.first_block in
    let r = c.args.rounds in
    let inputs = c.args.inputs.now in
    let sized = all_sized inputs c.requires.simplices in
    let table = c.last_views.new.views in
    let lasts = c.in_ok-lasts.lasts.items in
    let made = c.in_ok-lasts.ensures.made in
    let f = class_by c.args.symmetric in
    let grown = c.points_of.new.views in
    let points = c.in_ok-points.ensures.points in
    let p = c.in_ok-points.points in
    let numbers = p.numbers.items in
    let spans = laid_out m r 0 0 inputs in
    let es = c.in_ok-placed.placed.executions.value.items in
    let firsts = c.in_ok-placed.placed.firsts.items in
    let laid = are_laid m r inputs c.requires.executions sized table lasts made f grown p.classes.items p.firsts.items numbers points spans refl in
    let same : c.in_ok-placed.placed.inputs.items ≡ inputs = c.in_ok-placed.ensures.inputs in
    let packed : es ≡ map (packed_on numbers) spans = c.in_ok-placed.ensures.executions in
    let all_firsts : length firsts ≡ length p.firsts.items =
    sym (length-map firsts (λ (first : First). (first.execution, first.process)))
    ∙ ap length c.in_ok-placed.ensures.firsts
    ∙ length-map c.deref.result.now (λ j. slice_index_or (places_on_all inputs spans) j (0, 0))
    ∙ ap length c.deref.ensures.value in
    record {
      packed = subst (λ ss. All (IsPackedOn ss) es) (sym same) (subst (All (IsPackedOn inputs)) (sym packed) (all_packed inputs numbers spans laid.on laid.within));
      few_executions = omega (arith, laid.few, ap length packed, length-map spans (packed_on numbers));
      few_points = few_points m r inputs c.requires.executions sized table lasts made f grown p.classes.items p.firsts.items numbers points;
      viewed = classes_viewed m r inputs c.requires.executions sized table lasts made f grown p.classes.items p.firsts.items numbers points;
      appearing = all_firsts ∙ sym (length-classes m r inputs c.requires.executions sized table lasts made f grown p.classes.items p.firsts.items numbers points);
    }

pub returns : goal.returns
returns c = λ t task given named least.
    let m = c.args.first_block in
    let r = c.args.rounds in
    let inputs = c.args.inputs.now in
    let kept = c.in_ok-placed.placed.inputs.items in
    let p = c.in_ok-points.points in
    let numbers = p.numbers.items in
    let spans = laid_out m r 0 0 inputs in
    let es = c.in_ok-placed.placed.executions.value.items in
    let laid = are_laid c.args.first_block c.args.rounds inputs c.requires.executions (all_sized inputs c.requires.simplices) c.last_views.new.views c.in_ok-lasts.lasts.items c.in_ok-lasts.ensures.made (class_by c.args.symmetric) c.points_of.new.views p.classes.items p.firsts.items p.numbers.items c.in_ok-points.ensures.points (laid_out c.args.first_block c.args.rounds 0 0 inputs) refl in
    let same : kept ≡ inputs = c.in_ok-placed.ensures.inputs in
    let packed : es ≡ map (packed_on numbers) spans = c.in_ok-placed.ensures.executions in
    let simplices : map (λ (e : ExecutionSlot). e.simplex) spans ≡ map (λ (e : PackedExecution). e.simplex) es = sym (simplices_packed inputs numbers spans laid.on laid.within) ∙ ap (map (λ (e : PackedExecution). e.simplex)) (sym packed) in
    let scopes : scopes_seen kept numbers spans ≡ map (scope_in kept) es =
    ap (λ ss. scopes_seen ss numbers spans) same ∙ sym (scopes_packed inputs numbers spans laid.on laid.within) ∙ (λ i. map (scope_in (sym same i)) (sym packed i)) in
    let firsts : firsts_at kept spans p.firsts.items ≡ firsts_in c.in_ok-placed.placed.firsts.items =
    (λ i. firsts_at (same i) spans (sym c.deref.ensures.value i)) ∙ sym c.in_ok-placed.ensures.firsts in
    let made = is_protocol t task r kept (given ∙ sym same) c.args.symmetric named m least
    c.last_views.new.views c.in_ok-lasts.lasts.items (c.in_ok-lasts.ensures.made ∙ ap (flat_map (leaves_of m r)) (sym same))
    spans (ap (laid_out m r 0 0) (sym same)) p.view_count c.in_ok-points.ensures.count
    c.points_of.new.views p.classes.items p.firsts.items numbers c.in_ok-points.ensures.points in
    subst (IsProtocol t r) (λ i. record {
      rounds = r;
      table = c.points_of.new.views;
      points = points_seen c.points_of.new.views p.classes.items;
      view_count = p.view_count;
      firsts = firsts i;
      simplices = simplices i;
      scopes = scopes i;
    }) made
