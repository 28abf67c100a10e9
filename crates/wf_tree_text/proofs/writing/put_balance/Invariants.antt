use Rattle.std.proofs.Common.{◌≡◌, ◌++◌, drop, flat_map, map, string_bytes}
use Rattle.wf_tree_steps.specs.Balance.Multipliers.{multipliers_seen}
use Rattle.wf_tree_text.specs.Text.{line_text, multiplier_at}
use Rattle.wf_tree_text.proofs.writing.put_balance.Given as goal

abbrev pub invariant-loop-multiplier : goal.invariant-loop-multiplier
invariant-loop-multiplier l =
    (string_bytes l.text ++ flat_map line_text (map multiplier_at (multipliers_seen (drop l.multiplier-index l.multiplier-items)))
    ≡ string_bytes l.initial.text ++ flat_map line_text (map multiplier_at (multipliers_seen l.balance.multipliers.items)))
    × (l.multiplier-items ≡ l.balance.multipliers.items)
