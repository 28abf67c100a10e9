use Rattle.std.proofs.Common.{◌≡◌, ◌<◌, ◌++◌, ◌∷◌, [], Some, true, ◌+◌, length, take, get_or, All, slice_get, arith, refl, sym, ap, subst, ◌∙◌}
use Rattle.wf_model.specs.Lists.{has}
use Rattle.wf_model.specs.View.{normal}
use Rattle.wf_model.specs.Problem.{number_of}
use Rattle.wf_complex.specs.Views.{view_at, count_within}
use Rattle.wf_complex.specs.Renaming.{rank_in, are_lowest, number_beside, SawAmong, AreInside, AreRenamed}
use Rattle.wf_complex.proofs.ViewsOnce.{apart_in_table}
use Rattle.wf_complex.proofs.ViewsWithin.{apart_by_place}
use Rattle.wf_complex.proofs.Ranked.{IsRenaming, normal_at, renaming_none, renaming_more, renaming_all, all_there, this_there, room_left, parts_known, grows, itself_known}
use Rattle.wf_complex.proofs.views.Views.normal.Goals as goal
use Rattle.wf_complex.proofs.views.Views.normal.Goals.{Then-has_no_gap}

normal_already : (c : Then-has_no_gap) → (c.args.id ≡ number_of c.args.self.now (normal (view_at c.args.self.now c.args.id))) × (slice_get c.args.self.now c.args.id ≡ Some (normal (view_at c.args.self.now c.args.id)))
normal_already c =
    let vs = c.args.self.now in
    normal_at vs c.args.id (apart_by_place vs (apart_in_table c.self.inside.nodes.keys c.self.invariant.entries c.self.invariant.once vs c.self.view_is)) c.requires.id
    (ap are_lowest (sym c.colours_in-processes.ensures.bits) ∙ sym c.has_no_gap.ensures ∙ c.if-has_no_gap.true)

pub returns-then-has_no_gap-clause-number : goal.returns-then-has_no_gap-clause-number
returns-then-has_no_gap-clause-number c = (normal_already c).0

pub returns-then-has_no_gap-clause-stands : goal.returns-then-has_no_gap-clause-stands
returns-then-has_no_gap-clause-stands c = (normal_already c).1

pub loop-old-init : goal.loop-old-init
loop-old-init c =
    subst (λ ns. IsRenaming c.args.self.now c.args.self.now c.colours_in-processes.result c.deref-old-items.result.now ns 0) (sym c.in_ok-numbers.ensures.items)
    (renaming_none c.args.self.now c.colours_in-processes.result c.deref-old-items.result.now
    (apart_by_place c.args.self.now (apart_in_table c.self.inside.nodes.keys c.self.invariant.entries c.self.invariant.once c.args.self.now c.self.view_is)))

pub put_renamed-requires-clause-id : goal.put_renamed-requires-clause-id
put_renamed-requires-clause-id c =
    let is = subst (AreInside c.args.self.now c.args.id) (sym c.deref-old-items.ensures.value) c.in_ok-inside.ensures in
    this_there c.args.self.now c.loop-old.self c.colours_in-processes.result c.args.id c.deref-old-items.result.now c.loop-old.numbers.items c.loop-old.old-index is c.loop-old.invariant c.loop-old-test.true

pub put_renamed-requires-clause-room : goal.put_renamed-requires-clause-room
put_renamed-requires-clause-room c =
    let is = subst (AreInside c.args.self.now c.args.id) (sym c.deref-old-items.ensures.value) c.in_ok-inside.ensures in
    room_left c.args.self.now c.loop-old.self c.colours_in-processes.result c.args.id c.deref-old-items.result.now c.loop-old.numbers.items c.loop-old.old-index is c.loop-old.invariant
    (count_within (view_at c.args.self.now c.args.id)) c.loop-old-test.true is.few c.requires.room

pub put_renamed-requires-clause-numbers : goal.put_renamed-requires-clause-numbers
put_renamed-requires-clause-numbers c =
    let is = subst (AreInside c.args.self.now c.args.id) (sym c.deref-old-items.ensures.value) c.in_ok-inside.ensures in
    subst (All (λ k. k < length c.loop-old.self)) (c.deref-old-items.ensures.value ∙ sym c.deref.ensures.value)
    (all_there c.args.self.now c.loop-old.self c.colours_in-processes.result c.args.id c.deref-old-items.result.now c.loop-old.numbers.items c.loop-old.old-index is c.loop-old.invariant)

pub put_renamed-requires-clause-fewer : goal.put_renamed-requires-clause-fewer
put_renamed-requires-clause-fewer c =
    omega (arith, c.loop-old-test.true, c.loop-old.invariant.long, ap length c.deref-in-loop-old.ensures.value, ap length c.deref.ensures.value, ap length c.deref-old-items.ensures.value)

pub put_renamed-requires-clause-parts : goal.put_renamed-requires-clause-parts
put_renamed-requires-clause-parts c =
    let is = subst (AreInside c.args.self.now c.args.id) (sym c.deref-old-items.ensures.value) c.in_ok-inside.ensures in
    let known = parts_known c.args.self.now c.loop-old.self c.colours_in-processes.result c.args.id c.deref-old-items.result.now c.loop-old.numbers.items c.loop-old.old-index is c.loop-old.invariant c.loop-old-test.true in
    subst (λ xs. SawAmong c.loop-old.self (get_or c.deref-old-items.result.now c.loop-old.old-index 0) (take (length c.deref-in-loop-old.result.now) xs)) (c.deref-old-items.ensures.value ∙ sym c.deref.ensures.value)
    (subst (λ ns. SawAmong c.loop-old.self (get_or c.deref-old-items.result.now c.loop-old.old-index 0) (take (length ns) c.deref-old-items.result.now)) (sym c.deref-in-loop-old.ensures.value) known)

pub put_renamed-requires-clause-renamed : goal.put_renamed-requires-clause-renamed
put_renamed-requires-clause-renamed c =
    subst (λ xs. AreRenamed c.loop-old.self (rank_in c.colours_in-processes.result) xs c.deref-in-loop-old.result.now) (c.deref-old-items.ensures.value ∙ sym c.deref.ensures.value)
    (subst (AreRenamed c.loop-old.self (rank_in c.colours_in-processes.result) c.deref-old-items.result.now) (sym c.deref-in-loop-old.ensures.value) c.loop-old.invariant.are)

pub returns-in_err-number-clause-grows : goal.returns-in_err-number-clause-grows
returns-in_err-number-clause-grows c =
    let is = subst (AreInside c.args.self.now c.args.id) (sym c.deref-old-items.ensures.value) c.in_ok-inside.ensures in
    grows c.args.self.now c.loop-old.self c.colours_in-processes.result c.args.id c.deref-old-items.result.now c.loop-old.numbers.items c.loop-old.old-index is c.loop-old.invariant
    c.put_renamed.new.self c.in_err-number.ensures.table (omega (arith, c.loop-old-test.true))

pub returns-in_err-push-clause-grows : goal.returns-in_err-push-clause-grows
returns-in_err-push-clause-grows c =
    let is = subst (AreInside c.args.self.now c.args.id) (sym c.deref-old-items.ensures.value) c.in_ok-inside.ensures in
    let turned = renaming_more c.args.self.now c.loop-old.self c.colours_in-processes.result c.args.id c.deref-old-items.result.now c.loop-old.numbers.items c.loop-old.old-index is c.loop-old.invariant
    c.put_renamed.new.self (c.loop-old.numbers.items ++ c.in_ok-number.number ∷ []) c.in_ok-number.number c.loop-old-test.true c.in_ok-number.ensures.table c.in_ok-number.ensures.stands refl in
    grows c.args.self.now c.put_renamed.new.self c.colours_in-processes.result c.args.id c.deref-old-items.result.now (c.loop-old.numbers.items ++ c.in_ok-number.number ∷ []) (c.loop-old.old-index + 1) is turned
    c.put_renamed.new.self refl (omega (arith, c.loop-old-test.true))

pub loop-old-preserved : goal.loop-old-preserved
loop-old-preserved c =
    let is = subst (AreInside c.args.self.now c.args.id) (sym c.deref-old-items.ensures.value) c.in_ok-inside.ensures in
    renaming_more c.args.self.now c.loop-old.self c.colours_in-processes.result c.args.id c.deref-old-items.result.now c.loop-old.numbers.items c.loop-old.old-index is c.loop-old.invariant
    c.put_renamed.new.self c.push.new.self.items c.in_ok-number.number c.loop-old-test.true c.in_ok-number.ensures.table c.in_ok-number.ensures.stands c.in_ok-push.ensures.items

pub new_id-requires-clause-fewer : goal.new_id-requires-clause-fewer
new_id-requires-clause-fewer c =
    omega (arith, c.loop-old.invariant.long, c.loop-old.auto.old-index-end, ap length c.deref-2.ensures.value, ap length c.deref-3.ensures.value, ap length c.deref-old-items.ensures.value)

pub new_id-requires-clause-known : goal.new_id-requires-clause-known
new_id-requires-clause-known c =
    let is = subst (AreInside c.args.self.now c.args.id) (sym c.deref-old-items.ensures.value) c.in_ok-inside.ensures in
    let known = itself_known c.args.self.now c.loop-old.self c.colours_in-processes.result c.args.id c.deref-old-items.result.now c.loop-old.numbers.items c.loop-old.old-index is c.loop-old.invariant c.loop-old-test.false in
    subst (λ xs. has (take (length c.deref-3.result.now) xs) c.args.id ≡ true) (c.deref-old-items.ensures.value ∙ sym c.deref-2.ensures.value)
    (subst (λ ns. has (take (length ns) c.deref-old-items.result.now) c.args.id ≡ true) (sym c.deref-3.ensures.value) known)

pub returns-clause-grows : goal.returns-clause-grows
returns-clause-grows c =
    let is = subst (AreInside c.args.self.now c.args.id) (sym c.deref-old-items.ensures.value) c.in_ok-inside.ensures in
    grows c.args.self.now c.loop-old.self c.colours_in-processes.result c.args.id c.deref-old-items.result.now c.loop-old.numbers.items c.loop-old.old-index is c.loop-old.invariant
    c.loop-old.self refl c.loop-old.auto.old-index-end

normal_numbered : (c : goal.After-drop-inside-2) → (c.new_id.result ≡ number_of c.loop-old.self (normal (view_at c.args.self.now c.args.id))) × (slice_get c.loop-old.self c.new_id.result ≡ Some (normal (view_at c.args.self.now c.args.id)))
normal_numbered c =
    let is = subst (AreInside c.args.self.now c.args.id) (sym c.deref-old-items.ensures.value) c.in_ok-inside.ensures in
    let items : c.deref-2.result.now ≡ c.deref-old-items.result.now = c.deref-2.ensures.value ∙ sym c.deref-old-items.ensures.value in
    renaming_all c.args.self.now c.loop-old.self c.colours_in-processes.result c.args.id c.deref-old-items.result.now c.loop-old.numbers.items c.loop-old.old-index is c.loop-old.invariant
    c.new_id.result (c.new_id.ensures ∙ (λ i. number_beside (items i) (c.deref-3.ensures.value i) c.args.id)) c.loop-old-test.false c.requires.id c.colours_in-processes.ensures.bits

pub returns-clause-number : goal.returns-clause-number
returns-clause-number c = (normal_numbered c).0

pub returns-clause-stands : goal.returns-clause-stands
returns-clause-stands c = (normal_numbered c).1
