use Rattle.std.specs.Cmp.Lexicographic.{slice_cmp, nat_list_cmp_total, texts_ties}
use Rattle.std.specs.Ordering.{nat_cmp}
use Rattle.std.proofs.lemmas.Cmp.{nat_list_eq_equiv}
use Rattle.std.proofs.lemmas.Map.Lookups.{exact_bytes}
use Rattle.wf_simplex.proofs.Lemmas.{in_order-dedup}
use Rattle.wf_tree_refine.proofs.rows.sorted_unique.Goals as goal

pub returns : goal.returns
returns c =
    in_order-dedup (slice_cmp nat_cmp) nat_list_cmp_total exact_bytes nat_list_eq_equiv texts_ties c.args.rows.items _ _
    c.sort_unstable.ensures.permutation c.sort_unstable.ensures.sorted c.dedup.ensures.filtered
