use Rattle.std.proofs.Common.{◌+◌, ◌*◌}
use Rattle.wf_tree_finder.proofs.trees.+growing.Given as goal

abbrev pub decreases-grow : goal.decreases-grow
decreases-grow g l = 8 * l.depth.levels + 6

abbrev pub decreases-grow_apart : goal.decreases-grow_apart
decreases-grow_apart g l = 8 * l.depth.levels + 5

abbrev pub decreases-branch : goal.decreases-branch
decreases-branch g l = 8 * l.depth.levels + 4

abbrev pub decreases-grow_cases : goal.decreases-grow_cases
decreases-grow_cases g l = 8 * l.depth.levels + 3

abbrev pub decreases-grow_covers : goal.decreases-grow_covers
decreases-grow_covers g l = 8 * l.depth.levels + 3

abbrev pub decreases-grow_first_cover : goal.decreases-grow_first_cover
decreases-grow_first_cover g l = 8 * l.depth.levels + 2

abbrev pub decreases-grow_cover : goal.decreases-grow_cover
decreases-grow_cover g l = 8 * l.depth.levels + 1
