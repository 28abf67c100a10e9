-- What a cover may make at most.
use Rattle.std.specs.Prelude.{◌*◌, nat_le, Option, Some, if◌then◌else◌}
use Rattle.wf_model.specs.Task.{Task}
use Rattle.wf_tree_model.specs.Covers.{Covering, tuples_covered}
use Rattle.wf_tree_model.specs.Trees.{new_name}
use Rattle.wf_tree_refine.specs.Limits.{tuples_fault}
use Rattle.wf_tree_refine.specs.Names.{first_new}
use Rattle.wf_tree_refine.specs.declared.fault.RefineFault.{RefineFault}
use Rattle.wf_tree_refine.specs.declared.fault.RefineFault.TheVariants.{TooManyNames}

-- The limit that a cover is above, if there is one. Each sheet has as many names as the task at
-- hand has up to its largest value.
abbrev pub sheets_fault : Covering → Task → Option RefineFault
sheets_fault c t = if nat_le (c.sheets * new_name t) first_new then tuples_fault (tuples_covered c) t else Some TooManyNames
