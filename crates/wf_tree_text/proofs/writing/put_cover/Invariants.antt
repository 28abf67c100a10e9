use Rattle.std.proofs.Common.{◌≡◌, ◌++◌, drop, flat_map, map, string_bytes}
use Rattle.wf_tree_steps.specs.Cover.Faults.{moves_seen}
use Rattle.wf_tree_text.specs.Text.{line_text, move_at}
use Rattle.wf_tree_text.proofs.writing.put_cover.Given as goal

abbrev pub invariant-loop-step : goal.invariant-loop-step
invariant-loop-step l =
    (string_bytes l.text ++ flat_map line_text (map move_at (moves_seen (drop l.step-index l.step-items))) ≡ string_bytes l.initial.text ++ flat_map line_text (map move_at (moves_seen l.cover.moves.items)))
    × (l.step-items ≡ l.cover.moves.items)
