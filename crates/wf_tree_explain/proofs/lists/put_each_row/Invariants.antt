use Rattle.std.proofs.Common.{◌≡◌, ◌++◌, string_bytes, codes, drop}
use Rattle.wf_tree_explain.specs.Words.{values_text}
use Rattle.wf_tree_explain.proofs.ListsInWords.{rest_of}
use Rattle.wf_tree_explain.proofs.lists.put_each_row.Given as goal

abbrev pub invariant-loop-place : goal.invariant-loop-place
invariant-loop-place l =
    string_bytes l.text ++ rest_of values_text (codes ", ") l.last l.place (drop l.place l.rows) ≡ string_bytes l.initial.text ++ rest_of values_text (codes ", ") l.last 0 l.rows
