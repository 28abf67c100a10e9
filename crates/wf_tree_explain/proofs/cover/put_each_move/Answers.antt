use Rattle.std.proofs.Common.{codes, string_bytes, arith}
use Rattle.std.proofs.lemmas.List.{length-map}
use Rattle.wf_tree_steps.specs.Cover.Faults.{move_seen, moves_seen}
use Rattle.wf_tree_explain.specs.Words.{move_text, next_line}
use Rattle.wf_tree_explain.proofs.ListsInWords.{all_added, line_at, none_left, two_added}
use Rattle.wf_tree_explain.proofs.cover.put_each_move.Goals as goal

pub moves-preserved : goal.moves-preserved
moves-preserved c =
    two_added (string_bytes c.moves.text) (string_bytes c.put_start.new.text) (string_bytes c.put_move.new.text) _ _ _ _ _ c.in_ok-put_start.ensures c.in_ok-put_move.ensures
    (line_at c.args.depth (move_text c.args.simplex.now) move_seen c.args.moves.now c.moves.place c.index-moves-place.result c.index-moves-place.result c.moves-test.true c.index-moves-place.is) c.moves.invariant

pub returns : goal.returns
returns c =
    let long = length-map c.args.moves.now move_seen in
    let high = c.moves-test.false in
    all_added (string_bytes c.moves.text) _ _ (none_left (λ m. next_line c.args.depth (move_text c.args.simplex.now m)) (codes ",") (codes ",") c.moves.place (moves_seen c.args.moves.now) (omega (arith, long, high))) c.moves.invariant
