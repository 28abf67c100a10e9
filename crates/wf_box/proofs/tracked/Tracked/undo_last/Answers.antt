use Rattle.std.proofs.Common.{subst, sym, vec_capacity}
use Rattle.std.specs.List.{slice_set}
use Rattle.wf_box.specs.Changes.{IsTracked}
use Rattle.wf_box.proofs.ChangeLemmas.{one_back}
use Rattle.wf_box.proofs.tracked.Tracked.undo_last.Goals as goal

pub returns-in-Some-clause-kept : goal.returns-in-Some-clause-kept
returns-in-Some-clause-kept c =
    let kept = subst (λ cs. IsTracked c.args.self.now.words.items cs (vec_capacity c.args.self.now.trail) c.args.self.now.open_from) c.in-Some.ensures.items c.requires.kept in
    subst (λ n. IsTracked (slice_set c.args.self.now.words.items c.in-Some.change.point c.in-Some.change.before) c.pop.new.self.items n c.open_from_with-self.result) (sym c.pop.ensures.capacity)
    (one_back c.args.self.now.words.items c.pop.new.self.items c.in-Some.change (vec_capacity c.args.self.now.trail) c.args.self.now.open_from c.open_from_with-self.result kept
    c.open_from_with-self.ensures.low c.open_from_with-self.ensures.open)
