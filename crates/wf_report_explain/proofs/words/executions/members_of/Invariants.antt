use Rattle.std.proofs.Common.{◌≡◌, ◌≤◌, take}
use Rattle.wf_report_explain.specs.Words.Table.{members_in}
use Rattle.wf_report_explain.specs.Words.Text.{named}
use Rattle.wf_report_explain.proofs.words.executions.members_of.Given as goal

abbrev pub invariant-loop-place : goal.invariant-loop-place
invariant-loop-place l = (l.members.count ≤ l.place) × (members_in l.members ≡ take l.place (named l.ranks l.simplex))
