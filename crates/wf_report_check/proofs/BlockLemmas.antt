-- The way back: what the entries of a trail stand for.
use Rattle.std.proofs.Common.{◌≡◌, ℕ, zero, suc, ◌<◌, ◌==◌, List, [], ◌∷◌, ◌++◌, map, filter, reverse, length, get_or, false, not, refl, sym, ap, ◌∙◌, arith}
use Rattle.std.specs.List.{slice_set}
use Rattle.std.proofs.lemmas.List.{map-set, reverse-append, set-get_or}
use Rattle.std.specs.List.{All}
use Rattle.std.proofs.lemmas.List.Elements.{All-head, All-tail}
use Rattle.wf_model.specs.Box.{Box, candidates, decided, without}
use Rattle.wf_base.specs.Set.Sets.{values_in, box_of}
use Rattle.wf_report_check.specs.Blocks.{later, later_from}
use Rattle.wf_report_check.specs.declared.boxes.TrailEntry.{TrailEntry}
use Rattle.wf_report_check.specs.declared.boxes.TrailEntry.TheVariants.{Was, Later}
use Rattle.wf_model.specs.Lists.{has}
use Rattle.wf_base.proofs.OfSet.Lemmas.{filter_nothing, one_value, set_at}

-- one more entry
pub later_push : (trail : List TrailEntry) (e : TrailEntry) (sets : List (List ℕ)) → later (trail ++ e ∷ []) sets ≡ later_from (e ∷ reverse trail) sets
later_push trail e sets = ap (λ es. later_from es sets) (reverse-append trail (e ∷ []))

-- a set is changed, and the way back has the one of before
pub set_twice : (sets : List (List ℕ)) (v : ℕ) (x d : List ℕ) → slice_set (slice_set sets v x) v (get_or sets v d) ≡ sets
set_twice [] v x d = refl
set_twice (s ∷ sets) zero x d = refl
set_twice (s ∷ sets) (suc v) x d = ap (λ rest. s ∷ rest) (set_twice sets v x d)

pub later_changed : (trail : List TrailEntry) (sets : List (List ℕ)) (v : ℕ) (set d : List ℕ) → later (trail ++ Was v (get_or sets v d) ∷ []) (slice_set sets v set) ≡ later trail sets
later_changed trail sets v set d = later_push trail (Was v (get_or sets v d)) (slice_set sets v set) ∙ ap (later trail) (set_twice sets v set d)

-- a set that is read, whatever stands for one that is not there
pub set_read : (sets : List (List ℕ)) (v : ℕ) (w : List ℕ) → v < length sets → w ≡ get_or sets v w → w ≡ get_or sets v []
set_read [] v w inside is = absurd (omega (arith, inside))
set_read (x ∷ xs) zero w inside is = is
set_read (x ∷ xs) (suc v) w inside is = set_read xs v w (omega (arith, inside)) is

-- a point without one of its values
pub set_without : (sets : List (List ℕ)) (v a : ℕ) (w set : List ℕ) → v < length sets → w ≡ get_or sets v w → values_in set ≡ filter (λ b. not (b == a)) (values_in w) → box_of (slice_set sets v set) ≡ without (box_of sets) v a
set_without sets v a w set inside read is =
    map-set values_in sets v set
    ∙ ap (λ s. slice_set (box_of sets) v s) (is ∙ ap (λ w. filter (λ b. not (b == a)) (values_in w)) (set_read sets v w inside read) ∙ ap (filter (λ b. not (b == a))) (sym (set_at sets v inside)))

-- the block of the least of some values is entered, and the others come later
pub entered : (trail : List TrailEntry) (sets : List (List ℕ)) (v low : ℕ) (values : List ℕ) (a : ℕ) (set left : List ℕ) (new : List (List ℕ)) {after : List Box} → values_in set ≡ a ∷ [] → values_in values ≡ a ∷ values_in left
    → new ≡ slice_set sets v set → after ≡ later (trail ++ Later v low left ∷ []) sets
    → box_of new ∷ after ≡ map (decided (box_of sets) v) (values_in values) ++ later trail sets
entered trail sets v low values a set left new alone split is so =
    (λ i. (ap box_of is ∙ one_value sets v a set alone) i ∷ (so ∙ later_push trail (Later v low left) sets) i)
    ∙ ap (λ vs. map (decided (box_of sets) v) vs ++ later trail sets) (sym split)

-- where the set has no such value, nothing changes
pub without_nothing : (sets : List (List ℕ)) (v a : ℕ) (w : List ℕ) → v < length sets → w ≡ get_or sets v w → has (values_in w) a ≡ false → box_of sets ≡ without (box_of sets) v a
without_nothing sets v a w inside read gone =
    let there : values_in w ≡ candidates (box_of sets) v = ap values_in (set_read sets v w inside read) ∙ sym (set_at sets v inside) in
    sym (ap (λ s. slice_set (box_of sets) v s) (ap (filter (λ b. not (b == a))) (sym there) ∙ filter_nothing (values_in w) a gone ∙ there)
    ∙ set-get_or (box_of sets) v [])

-- the last entry is taken back
pub later_popped : (trail before : List TrailEntry) (e : TrailEntry) (sets : List (List ℕ)) → before ≡ trail ++ e ∷ [] → later before sets ≡ later_from (e ∷ reverse trail) sets
later_popped trail before e sets is = ap (λ es. later es sets) is ∙ later_push trail e sets

-- the sets of some points, and their candidates
values_there : (sets : List (List ℕ)) (vs : List ℕ) → All (λ v. v < length sets) vs → map values_in (map (λ v. get_or sets v []) vs) ≡ map (candidates (box_of sets)) vs
values_there sets [] h = refl
values_there sets (v ∷ vs) h = λ i. sym (set_at sets v (All-head (λ v. v < length sets) v vs h)) i ∷ values_there sets vs (All-tail (λ v. v < length sets) v vs h) i

pub sets_there_are : (sets there : List (List ℕ)) (vs : List ℕ) → there ≡ map (λ v. get_or sets v []) vs → All (λ v. v < length sets) vs → map values_in there ≡ map (candidates (box_of sets)) vs
sets_there_are sets there vs are inside = ap (map values_in) are ∙ values_there sets vs inside
