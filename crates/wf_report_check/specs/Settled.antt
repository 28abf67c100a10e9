-- The points that are known to have fewer than two candidates.
use Rattle.std.specs.Prelude.{ℕ, Bool, true, not, nat_lt, ◌&&◌, length, take, List, [], ◌∷◌}
use Rattle.std.specs.List.{list_all, slice_set}
use Rattle.wf_base.specs.Set.Sets.{values_in}
use Rattle.wf_report_check.specs.declared.boxes.TrailEntry.{TrailEntry}
use Rattle.wf_report_check.specs.declared.boxes.TrailEntry.TheVariants.{Was, Later}

-- no point below this one has two candidates
abbrev pub is_settled : ℕ → List (List ℕ) → Bool
is_settled low sets = list_all (λ set. not (nat_lt 1 (length (values_in set)))) (take low sets)

-- each point that branches and has values left was kept with a point below which none had two
-- candidates then; the last entry comes first
abbrev pub are_settled : List TrailEntry → List (List ℕ) → Bool
are_settled [] sets = true
are_settled (Was v set ∷ below) sets = are_settled below (slice_set sets v set)
are_settled (Later v low values ∷ below) sets = is_settled low sets && are_settled below sets
