use Rattle.std.proofs.Common.{◌≡◌, ◌++◌, ◌-◌, nat_le, drop, take, replicate}
use Rattle.std.specs.List.{list_all}
use Rattle.wf_tree_text.proofs.line.others_of.Given as goal

abbrev pub invariant-loop-place : goal.invariant-loop-place
invariant-loop-place l =
    (l.values ≡ take l.place l.numbers ++ replicate (3 - l.place) 0)
    × (list_all (λ value. nat_le value 255) (drop l.place l.numbers) ≡ list_all (λ value. nat_le value 255) l.numbers)
