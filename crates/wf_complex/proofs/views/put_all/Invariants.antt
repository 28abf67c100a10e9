use Rattle.std.proofs.Common.{◌≡◌, drop}
use Rattle.std.specs.BTreeSet.{insert_key}
use Rattle.std.specs.List.{fold}
use Rattle.std.specs.Ordering.{nat_cmp}
use Rattle.wf_complex.proofs.views.put_all.Given as goal

abbrev pub invariant-loop-number : goal.invariant-loop-number
invariant-loop-number l = fold (insert_key nat_cmp) l.among.items (drop l.number-index l.numbers) ≡ fold (insert_key nat_cmp) l.initial.among.items l.numbers
