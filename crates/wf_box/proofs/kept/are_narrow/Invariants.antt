use Rattle.std.proofs.Common.{◌≡◌, true, take}
use Rattle.std.specs.List.{list_all}
use Rattle.wf_base.specs.Set.Sets.{values_in}
use Rattle.wf_box.specs.Kept.{is_narrow}
use Rattle.wf_box.proofs.kept.are_narrow.Given as goal

abbrev pub invariant-loop-set : goal.invariant-loop-set
invariant-loop-set l = list_all (λ set. is_narrow (values_in set)) (take l.set-index l.sets) ≡ true
