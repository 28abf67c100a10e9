use Rattle.std.proofs.Common.{◌≡◌, ◌<◌, ℕ, [], get_or, length, map, vec_items}
use Rattle.wf_tree_refine.specs.Names.{splitting}
use Rattle.wf_tree_refine.proofs.names.named_rows.Given as goal

abbrev pub invariant-places : goal.invariant-places
invariant-places l = record {
  count : length l.columns.items ≡ l.place;
  room : l.columns.cap ≡ 4;
  names : (p : ℕ) → p < l.place → get_or (map vec_items l.columns.items) p [] ≡ map ((splitting l.simplex l.rows l.new).name p) l.rows;
}
