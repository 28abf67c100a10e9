use Rattle.std.proofs.Common.{◌≤◌, ◌≡◌, length}
use Rattle.wf_report_trim.proofs.needs.Needs.forget.Given as goal

abbrev pub decreases-needs : goal.decreases-needs
decreases-needs l = l.at

abbrev pub invariant-needs : goal.invariant-needs
invariant-needs l = (l.at ≤ length l.self.needs.items) × (length l.self.needs.items ≡ length l.initial.self.needs.items)
