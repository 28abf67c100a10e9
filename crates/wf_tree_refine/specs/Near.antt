-- Tuples that are near to one another, and the numbers of parts.
use Rattle.std.specs.Prelude.{◌==◌, not, ℕ, suc, Bool, List, [], ◌∷◌, if◌then◌else◌}
use Rattle.wf_model.specs.Task.{Tuple}
use Rattle.wf_tree_model.specs.Cases.{is_step}
use Rattle.wf_tree_model.specs.Splits.{hang_together}
use Rattle.wf_tree_model.specs.Tuples.{has_tuple}
use Rattle.wf_tree_refine.specs.declared.ways.Adjacency.{Adjacency}
use Rattle.wf_tree_refine.specs.declared.ways.Adjacency.TheVariants.{Steps, Star}

-- the most tuples that a task at hand may have at one simplex
abbrev pub most_at_hand : ℕ
most_at_hand = 1000000

-- which tuples of n values are near: those of cases, or those of splits at a place
abbrev pub near_by : Adjacency → ℕ → Tuple → Tuple → Bool
near_by Steps n = is_step n
near_by (Star place) n = hang_together n place

-- the place of the first part with this tuple
abbrev pub part_of : List (List Tuple) → Tuple → ℕ
part_of [] tuple = 0
part_of (part ∷ more) tuple = if has_tuple part tuple then 0 else suc (part_of more tuple)

-- whether near tuples of n values may differ at a place
abbrev pub may_differ : Adjacency → ℕ → ℕ → Bool
may_differ Steps n place = not (n == 1)
may_differ (Star kept) n place = not (place == kept)
