use Rattle.std.proofs.Common.{◌≡◌, ◌≤◌, ◌++◌, drop}
use Rattle.wf_report_explain.specs.Words.Table.{members_in}
use Rattle.wf_report_explain.specs.Words.Text.{block_of}
use Rattle.wf_report_explain.proofs.words.executions.block_of.Given as goal

abbrev pub invariant-loop-place : goal.invariant-loop-place
invariant-loop-place l = (l.members.count ≤ l.place)
    × (members_in l.members ++ block_of (drop l.place l.all) (drop l.place l.word) l.block ≡ block_of l.all l.word l.block)
