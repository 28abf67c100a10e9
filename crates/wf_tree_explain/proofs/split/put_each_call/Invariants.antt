use Rattle.std.proofs.Common.{◌≡◌, ◌++◌, ℕ, List, codes, drop, string_bytes}
use Rattle.wf_tree_explain.specs.Calls.{calls_seen, splitting_of}
use Rattle.wf_tree_explain.specs.Lists.{list_text}
use Rattle.wf_tree_explain.specs.Words.{call_text, next_line}
use Rattle.wf_tree_explain.proofs.ListsInWords.{rest_of}
use Rattle.wf_tree_explain.proofs.split.put_each_call.Given as goal

abbrev pub invariant-calls : goal.invariant-calls
invariant-calls l =
    let line : ℕ × ℕ → List ℕ = λ call. next_line l.depth (call_text (splitting_of l.renamed) call) in
    string_bytes l.text ++ rest_of line (codes ",") (codes ",") l.number (drop l.number (calls_seen l.calls)) ≡ string_bytes l.initial.text ++ list_text line (codes ",") (codes ",") (calls_seen l.calls)
