use Rattle.std.proofs.Common.{◌≡◌, get_or, length, map, take, []}
use Rattle.wf_report_check.proofs.support.sets_at.Given as goal

abbrev pub invariant-loop-place : goal.invariant-loop-place
invariant-loop-place l = (take l.place l.there ≡ map (λ v. get_or l.sets v []) (take l.place l.points)) × (length l.there ≡ 4)
