use Rattle.std.proofs.Common.{◌≡◌, ◌≤◌, ◌<◌, true, length, take, arith}
use Rattle.wf_model.specs.Lists.{has}
use Rattle.wf_complex.specs.Renaming.{number_beside}
use Rattle.wf_complex.proofs.NewNumbers.{next_known}
use Rattle.wf_complex.proofs.node.renumber.Goals as goal

pub new_id-requires-clause-known : goal.new_id-requires-clause-known
new_id-requires-clause-known c =
    let long : c.args.node.count ≤ length c.args.node.ids = omega arith in
    let low : c.loop-place.place < c.args.node.count = omega arith in
    next_known (λ k. has (take (length c.args.new.now) c.args.old.now) k ≡ true) (number_beside c.args.old.now c.args.new.now)
    c.args.node.ids c.loop-place.ids c.args.node.count c.loop-place.place c.loop-place.invariant long low c.requires.known
