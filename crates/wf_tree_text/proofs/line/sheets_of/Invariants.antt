use Rattle.std.proofs.Common.{◌≡◌, nat_lt, length, drop, take}
use Rattle.std.specs.List.{list_all}
use Rattle.wf_tree_text.proofs.line.sheets_of.Given as goal

abbrev pub invariant-loop-number : goal.invariant-loop-number
invariant-loop-number l =
    (l.sheets.items ≡ take l.number-index l.numbers)
    × (list_all (λ sheet. nat_lt sheet (length l.numbers)) (drop l.number-index l.numbers) ≡ list_all (λ sheet. nat_lt sheet (length l.numbers)) l.numbers)
