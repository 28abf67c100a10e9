-- The sets of a box that waits, as the code keeps them.
use Rattle.std.specs.Prelude.{◌≡◌, ℕ, nat_le, nat_lt, Bool, true, false, List, filter, map}
use Rattle.std.specs.List.{list_all}
use Rattle.wf_model.specs.Box.{Box}
use Rattle.wf_base.specs.Set.Parts.{part_limit, part_values}
use Rattle.wf_base.specs.Set.Sets.{box_of}
use Rattle.wf_box.specs.declared.kept.KeptSets.{KeptSets}
use Rattle.wf_box.specs.declared.kept.KeptSets.TheVariants.{Bytes, Narrow, Wide}
use Rattle.wf_box.specs.declared.kept.TheConstants.{MAX_OF_A_BYTE}

-- whether each value of the set has its bit in the first machine word
abbrev pub is_narrow : List ℕ → Bool
is_narrow set = list_all (λ v. nat_lt v part_limit) set

abbrev pub are_narrow : Box → Bool
are_narrow box = list_all is_narrow box

-- of each set the values that have their bit there
abbrev pub low_values : Box → Box
low_values box = map (filter (λ v. nat_lt v part_limit)) box

-- whether each part has a byte's values alone: as a number it is below 256
abbrev pub are_bytes : List ℕ → Bool
are_bytes parts = list_all (λ part. nat_le part MAX_OF_A_BYTE) parts

-- the values of each set
abbrev pub box_kept : KeptSets → Box
box_kept (Bytes bytes) = map part_values bytes.items
box_kept (Narrow parts) = map part_values parts.items
box_kept (Wide sets) = box_of sets.items

-- whether a set takes four machine words; and words are taken only where bytes are not enough
abbrev pub is_wide : KeptSets → Bool
is_wide (Bytes bytes) = false
is_wide (Narrow parts) = false
is_wide (Wide sets) = true

abbrev pub IsTight : KeptSets → Type 0
IsTight (Bytes bytes) = Unit {0}
IsTight (Narrow parts) = are_bytes parts.items ≡ false
IsTight (Wide sets) = Unit {0}
