use Rattle.std.proofs.Common.{◌≡◌, vec_len, length}
use Rattle.wf_report_check.specs.Blocks.{boxes_later}
use Rattle.wf_report_check.proofs.boxes.Blocks.next.Given as goal

abbrev pub invariant-back : goal.invariant-back
invariant-back l = (boxes_later l.self ≡ boxes_later l.initial.self) × (length l.self.sets.items ≡ length l.initial.self.sets.items)

abbrev pub decreases-back : goal.decreases-back
decreases-back l = vec_len l.self.trail
