use Rattle.std.proofs.Common.{arith, subst, sym, vec_capacity}
use Rattle.wf_box.specs.Changes.{IsTracked}
use Rattle.wf_box.proofs.ChangeLemmas.{count_changed, one_change, room_now}
use Rattle.wf_box.proofs.tracked.Tracked.note.Goals as goal

pub push_reserved-requires : goal.push_reserved-requires
push_reserved-requires c =
    let room = room_now _ _ _ _ c.requires.kept in
    omega (arith, room, c.args.self.now.trail.ok.0, count_changed c.args.self.now.words.items c.args.point c.args.before c.requires.within, c.requires.fewer)

pub returns-clause-kept : goal.returns-clause-kept
returns-clause-kept c =
    let kept = one_change c.args.self.now.words.items c.args.self.now.trail.items (vec_capacity c.args.self.now.trail) c.args.self.now.open_from c.args.point c.args.before c.requires.kept c.requires.within c.requires.fewer in
    let now : IsTracked c.args.self.now.words.items c.push_reserved.new.self.items (vec_capacity c.args.self.now.trail) c.args.self.now.open_from =
    subst (λ cs. IsTracked c.args.self.now.words.items cs (vec_capacity c.args.self.now.trail) c.args.self.now.open_from) (sym c.push_reserved.ensures.items) kept in
    subst (λ n. IsTracked c.args.self.now.words.items c.push_reserved.new.self.items n c.args.self.now.open_from) (sym c.push_reserved.ensures.capacity) now
