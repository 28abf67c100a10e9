use Rattle.std.proofs.Common.{◌≡◌, ◌++◌, string_bytes, drop, decimal}
use Rattle.wf_tree_explain.proofs.ListsInWords.{rest_of}
use Rattle.wf_tree_explain.proofs.lists.put_values.Given as goal

abbrev pub invariant-loop-place : goal.invariant-loop-place
invariant-loop-place l =
    string_bytes l.text ++ rest_of decimal l.between l.last l.place (drop l.place l.values) ≡ string_bytes l.initial.text ++ rest_of decimal l.between l.last 0 l.values
