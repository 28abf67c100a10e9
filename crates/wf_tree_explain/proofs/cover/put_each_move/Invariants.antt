use Rattle.std.proofs.Common.{◌≡◌, ◌++◌, ℕ, List, codes, drop, string_bytes}
use Rattle.wf_tree_model.specs.Trees.{Move}
use Rattle.wf_tree_steps.specs.Cover.Faults.{moves_seen}
use Rattle.wf_tree_explain.specs.Lists.{list_text}
use Rattle.wf_tree_explain.specs.Words.{move_text, next_line}
use Rattle.wf_tree_explain.proofs.ListsInWords.{rest_of}
use Rattle.wf_tree_explain.proofs.cover.put_each_move.Given as goal

abbrev pub invariant-moves : goal.invariant-moves
invariant-moves l =
    let line : Move → List ℕ = λ m. next_line l.depth (move_text l.simplex m) in
    string_bytes l.text ++ rest_of line (codes ",") (codes ",") l.place (drop l.place (moves_seen l.moves)) ≡ string_bytes l.initial.text ++ list_text line (codes ",") (codes ",") (moves_seen l.moves)
