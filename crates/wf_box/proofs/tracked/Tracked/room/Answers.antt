use Rattle.std.proofs.Common.{arith}
use Rattle.wf_box.proofs.ChangeLemmas.{room_now}
use Rattle.wf_box.proofs.tracked.Tracked.room.Goals as goal

pub returns-clause-enough : goal.returns-clause-enough
returns-clause-enough c = omega (arith, room_now _ _ _ _ c.requires, c.len.ensures, c.capacity.ensures, c.args.self.now.trail.ok.0)
