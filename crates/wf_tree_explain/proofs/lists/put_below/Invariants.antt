use Rattle.std.proofs.Common.{◌≡◌, ◌++◌, codes, decimal, drop, string_bytes}
use Rattle.wf_model.specs.Lists.{below}
use Rattle.wf_tree_explain.specs.Lists.{list_text}
use Rattle.wf_tree_explain.proofs.ListsInWords.{rest_of}
use Rattle.wf_tree_explain.proofs.lists.put_below.Given as goal

abbrev pub invariant-numbers : goal.invariant-numbers
invariant-numbers l =
    string_bytes l.text ++ rest_of decimal (codes ", ") (codes " and ") l.number-counter (drop l.number-counter (below l.count)) ≡ string_bytes l.initial.text ++ list_text decimal (codes ", ") (codes " and ") (below l.count)
