use Rattle.std.proofs.Common.{◌≡◌, ◌<◌, ◌+◌, ◌-◌, ◌++◌, ◌∙◌, ℕ, true, false, length, take, drop, ap, arith, inr, sym, length-drop, length-take}
use Rattle.std.specs.Prelude.{slice_range}
use Rattle.wf_report.specs.Windows.{Ahead}
use Rattle.wf_report.proofs.Rooms.{filled_is, room_is}
use Rattle.wf_report.proofs.window.Window.fill.Goals as goal

pub returns-in-Ok-clause-filled : goal.returns-in-Ok-clause-filled
returns-in-Ok-clause-filled g c =
    let i = c.self.inside in
    let w = c.args.self.now in
    let n = c.in-Ok.count in
    let kept : ℕ = i.past - i.first in
    let moved = c.move_to_front.new.room in
    let now = c.read_behind.new.room in
    let bytes = take n (drop kept now) in
    let long = c.self.invariant.long in
    let ordered = c.self.invariant.ordered in
    let within = c.self.invariant.within in
    let first_size = c.deref_mut.ensures.len in
    let first_is = ap length c.deref_mut.ensures.value in
    let second_size = c.deref_mut-2.ensures.len in
    let moved_size = c.move_to_front.ensures.long in
    let now_size = c.read_behind.ensures.long in
    let v1 = room_is i.room.len moved i.room.items (omega (arith, first_size, moved_size)) in
    let v2 = room_is i.room.len now (take i.room.len (moved ++ drop (length moved) i.room.items)) (omega (arith, first_size, moved_size, second_size, now_size)) in
    let front : take kept moved ≡ slice_range i.room.items i.first i.past = c.move_to_front.ensures.front ∙ ap (λ r. slice_range r i.first i.past) c.deref_mut.ensures.value in
    let same : take kept now ≡ take kept moved = c.read_behind.ensures.kept ∙ ap (take kept) (c.deref_mut-2.ensures.value ∙ v1) in
    let all : length now ≡ 65536 = omega (arith, first_size, first_is, second_size, now_size, long) in
    let few = c.in-Ok.ensures.bytes.0 in
    let least = c.min-space.ensures in
    let rest = length-drop kept now in
    let part = length-take n (drop kept now) in
    let size : length bytes ≡ n = omega (arith, few, least, rest, part, all, ordered, within) in
    let given_view = ap (λ (w : Ahead). w.given) c.self.view_is in
    let most_view = ap (λ (w : Ahead). w.most) c.self.view_is in
    let some : 0 < length bytes = omega (arith, size, c.in-Ok.count-test) in (
      bytes,
      record {
        gave = c.in-Ok.ensures.bytes.1;
        given = omega (arith, given_view, size);
        most = most_view;
        still = λ e. absurd (let k : true ≡ false = sym e ∙ c.requires.going in let bad : ⊥ = cc in bad);
        few = λ h. omega (arith, few, least, given_view, most_view);
        end = λ h e. absurd (let k : true ≡ false = sym e ∙ ap (λ (w : Ahead). w.ended) c.self.view_is ∙ c.requires.going in let bad : ⊥ = cc in bad);
      },
      (
        ap (λ r. slice_range r 0 (kept + n)) v2
            ∙ filled_is i.room.items moved now i.first i.past kept n front same (omega (arith, all, ordered, within))
            ∙ ap (λ t. t ++ bytes) (ap (λ (w : Ahead). w.pending) c.self.view_is),
        ap (λ (w : Ahead). w.number) c.self.view_is,
        inr (some, ap (λ (w : Ahead). w.ended) c.self.view_is ∙ c.requires.going),
      ),
    )
