-- The boxes that are still to be refuted, by the box of now and what the open blocks took out.
use Rattle.std.specs.Prelude.{◌≡◌, ℕ, Bool, reverse, length, List, [], ◌∷◌, ◌++◌, map, if◌then◌else◌}
use Rattle.std.specs.List.{slice_set}
use Rattle.wf_model.specs.Box.{Box, decided}
use Rattle.wf_base.specs.Set.Sets.{values_in, box_of}
use Rattle.wf_report_check.specs.declared.boxes.Blocks.{Blocks}
use Rattle.wf_report_check.specs.declared.boxes.TrailEntry.{TrailEntry}
use Rattle.wf_report_check.specs.declared.boxes.TrailEntry.TheVariants.{Was, Later}

-- The last entry comes first: a set is put back, or a point has values left, each a box of its own
-- over the sets of then.
abbrev pub later_from : List TrailEntry → List (List ℕ) → List Box
later_from [] sets = []
later_from (Was v set ∷ below) sets = later_from below (slice_set sets v set)
later_from (Later v low values ∷ below) sets =
    map (decided (box_of sets) v) (values_in values) ++ later_from below sets

-- the boxes after the box of these sets
abbrev pub later : List TrailEntry → List (List ℕ) → List Box
later trail sets = later_from (reverse trail) sets

-- the box of now
abbrev pub box_now : Blocks → Box
box_now blocks = box_of blocks.sets.items

-- the boxes after it
abbrev pub boxes_later : Blocks → List Box
boxes_later blocks = later blocks.trail.items blocks.sets.items

-- the boxes that are left, if any is
abbrev pub boxes_left : Bool → Blocks → List Box
boxes_left going blocks = if going then box_now blocks ∷ boxes_later blocks else []

-- as many points as before
abbrev pub HasSamePoints : Blocks → Blocks → Type 0
HasSamePoints old new = length new.sets.items ≡ length old.sets.items
