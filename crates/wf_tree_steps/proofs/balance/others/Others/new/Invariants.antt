use Rattle.std.proofs.Common.{◌≡◌, ◌++◌, ◌-◌, take, replicate}
use Rattle.wf_tree_steps.proofs.balance.others.Others.new.Given as goal

abbrev pub invariant-loop-place : goal.invariant-loop-place
invariant-loop-place l = l.others ≡ take l.place l.values ++ replicate (3 - l.place) 0
