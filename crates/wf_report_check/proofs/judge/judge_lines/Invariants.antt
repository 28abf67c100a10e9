use Rattle.std.proofs.Common.{◌≡◌, ◌+◌, [], ◌∷◌, drop, length, map}
use Rattle.wf_base.specs.Lines.Lines.{line_of}
use Rattle.wf_base.specs.Set.Sets.{box_of}
use Rattle.wf_report_check.specs.Left.{claimed, fault_of, lines_fault}
use Rattle.wf_report_check.specs.Rules.{problem_in}
use Rattle.wf_report_check.proofs.judge.judge_lines.Given as goal

abbrev pub invariant-loop-line : goal.invariant-loop-line
invariant-loop-line l =
    (fault_of (problem_in l.rules) (claimed l.rules.claim) (map line_of (drop l.line-index l.lines)) l.checker
    ≡ lines_fault (problem_in l.rules) l.rules.claim l.first (map line_of l.lines) (box_of l.fn.sets.items ∷ []))
    × (l.checker.points ≡ length l.rules.protocol.now.points)
    × (l.checker.line ≡ l.first + l.line-index)
