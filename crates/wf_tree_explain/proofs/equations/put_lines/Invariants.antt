use Rattle.std.proofs.Common.{◌≡◌, ◌≤◌, ◌++◌, ◌-◌, codes, drop, length, string_bytes}
use Rattle.wf_tree_explain.specs.Lists.{lines_of}
use Rattle.wf_tree_explain.specs.Words.{equations_text, lines_text, next_line}
use Rattle.wf_tree_explain.proofs.ListsInWords.{rest_of}
use Rattle.wf_tree_explain.proofs.equations.put_lines.Given as goal

abbrev pub invariant-lines : goal.invariant-lines
invariant-lines l = record {
  text : string_bytes l.text ++ rest_of (λ line. next_line l.depth (equations_text l.task line)) (codes ",") (codes ",") l.told (lines_of (drop l.told l.entries)) ≡ string_bytes l.initial.text ++ lines_text l.task l.depth l.entries;
  within : l.told ≤ length l.entries;
}

abbrev pub decreases-lines : goal.decreases-lines
decreases-lines l = length l.entries - l.told
