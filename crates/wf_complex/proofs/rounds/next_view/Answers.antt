use Rattle.std.proofs.Common.{◌<◌, ◌≤◌, length, take, get_or, Some, arith, sym, ap, ◌∙◌, subst}
use Rattle.wf_complex.specs.Views.{view_seen}
use Rattle.wf_complex.specs.Rounds.{views_at, Extends}
use Rattle.wf_complex.proofs.RoundLemmas.{low, numbers, ascending, own_part, is_view_after, length-views, extends_with}
use Rattle.wf_complex.proofs.KnownLemmas.{bits_below, parts_are, round_there, known_kept, known_more}
use Rattle.wf_complex.proofs.rounds.next_view.Goals as goal

pub bounds : goal.bounds
bounds c =
    let s = c.args.sight.now in
    let below : get_or c.args.sight.now.seen c.args.i 0 < 16 = bits_below s c.requires.sight (omega (arith, c.requires.long, c.requires.few)) c.args.i (omega (arith, c.requires.long, c.requires.place)) in
    omega (arith, below, c.requires.known.whole, c.requires.few, c.requires.place)

pub returns-in-Some-clause-stands : goal.returns-in-Some-clause-stands
returns-in-Some-clause-stands c =
    let s = c.args.sight.now in
    let vs = views_at c.args.views.now c.args.current.now in
    let below : get_or c.args.sight.now.seen c.args.i 0 < 16 = bits_below s c.requires.sight (omega (arith, c.requires.long, c.requires.few)) c.args.i (omega (arith, c.requires.long, c.requires.place)) in
    c.requires.known.stand c.args.i (get_or s.seen c.args.i 0) c.in-Some.id below c.in-Some.is
    ∙ sym (ap Some (round_there s c.requires.sight (omega (arith, c.requires.long, c.requires.few)) c.args.i (omega (arith, c.requires.long, c.requires.place)) vs (length-views c.args.views.now c.args.current.now ∙ c.requires.long)))

pub seen-requires-clause-process : goal.seen-requires-clause-process
seen-requires-clause-process c =
    let parts = take c.picked-seen.result.count c.picked-seen.result.ids in
    let are = parts_are c.args.sight.now c.requires.sight (omega (arith, c.requires.long, c.requires.few)) c.args.i (omega (arith, c.requires.long, c.requires.place)) c.args.current.now parts c.requires.long c.picked-seen.ensures.ids in
    low c.args.views.now c.args.current.now c.args.sight.now.word c.requires.views c.requires.long c.args.i c.requires.place c.colour-process.result c.colour-process.ensures.process parts are

pub seen-requires-clause-numbers : goal.seen-requires-clause-numbers
seen-requires-clause-numbers c =
    let parts = take c.picked-seen.result.count c.picked-seen.result.ids in
    let are = parts_are c.args.sight.now c.requires.sight (omega (arith, c.requires.long, c.requires.few)) c.args.i (omega (arith, c.requires.long, c.requires.place)) c.args.current.now parts c.requires.long c.picked-seen.ensures.ids in
    numbers c.args.views.now c.args.current.now c.args.sight.now.word c.requires.views c.requires.long c.args.i c.requires.place c.colour-process.result c.colour-process.ensures.process parts are

pub seen-requires-clause-ascending : goal.seen-requires-clause-ascending
seen-requires-clause-ascending c =
    let parts = take c.picked-seen.result.count c.picked-seen.result.ids in
    let are = parts_are c.args.sight.now c.requires.sight (omega (arith, c.requires.long, c.requires.few)) c.args.i (omega (arith, c.requires.long, c.requires.place)) c.args.current.now parts c.requires.long c.picked-seen.ensures.ids in
    ascending c.args.views.now c.args.current.now c.args.sight.now.word c.requires.views c.requires.long c.args.i c.requires.place c.colour-process.result c.colour-process.ensures.process parts are

pub seen-requires-clause-own : goal.seen-requires-clause-own
seen-requires-clause-own c =
    let parts = take c.picked-seen.result.count c.picked-seen.result.ids in
    let are = parts_are c.args.sight.now c.requires.sight (omega (arith, c.requires.long, c.requires.few)) c.args.i (omega (arith, c.requires.long, c.requires.place)) c.args.current.now parts c.requires.long c.picked-seen.ensures.ids in
    own_part c.args.views.now c.args.current.now c.args.sight.now.word c.requires.views c.requires.long c.args.i c.requires.place c.colour-process.result c.colour-process.ensures.process parts are

pub bounds-known-answer-2 : goal.bounds-known-answer-2
bounds-known-answer-2 c =
    let s = c.args.sight.now in
    let below : get_or c.args.sight.now.seen c.args.i 0 < 16 = bits_below s c.requires.sight (omega (arith, c.requires.long, c.requires.few)) c.args.i (omega (arith, c.requires.long, c.requires.place)) in
    omega (arith, below, c.requires.known.whole, c.requires.few, c.requires.place)

pub returns-clause-stands : goal.returns-clause-stands
returns-clause-stands c =
    let parts = take c.picked-seen.result.count c.picked-seen.result.ids in
    let are = parts_are c.args.sight.now c.requires.sight (omega (arith, c.requires.long, c.requires.few)) c.args.i (omega (arith, c.requires.long, c.requires.place)) c.args.current.now parts c.requires.long c.picked-seen.ensures.ids in
    c.in_ok-id.ensures.stands ∙ ap Some (is_view_after c.args.views.now c.args.current.now c.args.sight.now.word c.requires.views c.requires.long c.args.i c.requires.place c.colour-process.result c.colour-process.ensures.process parts are)

pub returns-clause-known : goal.returns-clause-known
returns-clause-known c =
    let s = c.args.sight.now in
    let few = (let f : length c.args.sight.now.word ≤ 4 = omega (arith, c.requires.long, c.requires.few) in f) in
    let place = (let p : c.args.i < length c.args.sight.now.word = omega (arith, c.requires.long, c.requires.place) in p) in
    let vs = views_at c.args.views.now c.args.current.now in
    let parts = take c.picked-seen.result.count c.picked-seen.result.ids in
    let are = parts_are s c.requires.sight few c.args.i place c.args.current.now parts c.requires.long c.picked-seen.ensures.ids in
    let asked = view_seen c.args.views.now c.colour-process.result parts in
    let below : get_or c.args.sight.now.seen c.args.i 0 < 16 = bits_below s c.requires.sight few c.args.i place in
    let grown = subst (Extends c.args.views.now) (sym c.in_ok-id.ensures.table) (extends_with c.args.views.now asked) in
    let is_after = is_view_after c.args.views.now c.args.current.now s.word c.requires.views c.requires.long c.args.i c.requires.place c.colour-process.result c.colour-process.ensures.process parts are in
    let is_by = round_there s c.requires.sight few c.args.i place vs (length-views c.args.views.now c.args.current.now ∙ c.requires.long) in
    known_more c.seen.new.self vs c.args.known.now c.args.i (get_or s.seen c.args.i 0) c.in_ok-id.id (known_kept c.args.views.now c.seen.new.self vs c.args.known.now grown c.requires.known) below
    (omega (arith, below, c.requires.known.whole, c.requires.few, c.requires.place)) (c.in_ok-id.ensures.stands ∙ ap Some (is_after ∙ is_by))
