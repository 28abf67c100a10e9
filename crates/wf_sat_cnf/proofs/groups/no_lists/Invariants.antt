use Rattle.std.proofs.Common.{◌≡◌, [], map, length, All, vec_items}
use Rattle.wf_sat_cnf.proofs.groups.no_lists.Given as goal

abbrev pub invariant-loop-value : goal.invariant-loop-value
invariant-loop-value l = record {
  long : length l.lists.items ≡ l._value;
  none : All (λ list. list ≡ []) (map vec_items l.lists.items);
}
