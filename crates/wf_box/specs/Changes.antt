-- Changes of a box's sets, and their taking back.
use Rattle.std.specs.Prelude.{◌≡◌, ◌<◌, ◌≤◌, ◌+◌, ℕ, vec_capacity, List, [], ◌∷◌, ◌++◌, length, get_or, drop, All}
use Rattle.std.specs.List.{slice_set}
use Rattle.wf_model.specs.Box.{Box, candidates, count}
use Rattle.wf_base.specs.Set.Sets.{box_of, values_in}
use Rattle.wf_model.specs.Limits.{most_points}
use Rattle.wf_box.specs.Limits.{most_candidates}
use Rattle.wf_box.specs.declared.tracked.Change.{Change}
use Rattle.wf_box.specs.declared.tracked.Tracked.{Tracked}

-- these changes taken back, the last first
abbrev pub taken_back : List Change → List (List ℕ) → List (List ℕ)
taken_back [] words = words
taken_back (c ∷ cs) words = slice_set (taken_back cs words) c.point c.before

-- the sets as they were after so many changes
abbrev pub words_after : ℕ → List Change → List (List ℕ) → List (List ℕ)
words_after n trail words = taken_back (drop n trail) words

pub record IsTracked (words : List (List ℕ)) (trail : List Change) (capacity open_from : ℕ) : Type 0 where
  pub few : length words ≤ most_points
  pub small : capacity ≤ most_candidates
  -- a change takes a candidate at least, so there is room for all that can come
  pub room : (n : ℕ) → n ≤ length trail → n + count (box_of (words_after n trail words)) ≤ capacity
  pub within : All (λ c. c.point < length words) trail
  pub open_within : open_from ≤ length words
  pub single : (v : ℕ) → v < open_from → length (candidates (box_of words) v) ≤ 1

abbrev pub KeepsTrack : Tracked → Type 0
KeepsTrack t = IsTracked t.words.items t.trail.items (vec_capacity t.trail) t.open_from

-- it keeps track once the point has these candidates
abbrev pub KeepsTrackWith : ℕ → List ℕ → Tracked → Type 0
KeepsTrackWith v set t = IsTracked (slice_set t.words.items v set) t.trail.items (vec_capacity t.trail) t.open_from

-- the candidates of each point
abbrev pub sets_in : Tracked → Box
sets_in t = box_of t.words.items

-- the sets as they were after so many of the changes
abbrev pub words_at : ℕ → Tracked → List (List ℕ)
words_at n t = words_after n t.trail.items t.words.items

-- the point has fewer candidates than are in this set
abbrev pub HasFewer : Tracked → ℕ → List ℕ → Type 0
HasFewer t v set = length (values_in (get_or t.words.items v [])) < length (values_in set)

-- the last change is that of this point, which had these candidates; those
-- before it are as they were
abbrev pub Notes : Tracked → Tracked → ℕ → List ℕ → Type 0
Notes old new v set = new.trail.items ≡ old.trail.items ++ record { point = v; before = set } ∷ []

-- there are further changes, and without them the sets are those
pub record IsGrown (words : List (List ℕ)) (trail : List Change) (fewer : List (List ℕ)) (more : List Change) : Type 0 where
  pub added : List Change
  pub trail_is : more ≡ trail ++ added
  pub words_are : taken_back added fewer ≡ words

-- there are further changes, and without them the sets are the old ones
abbrev pub GrowsTo : Tracked → Tracked → Type 0
GrowsTo old new = IsGrown old.words.items old.trail.items new.words.items new.trail.items

-- the last change is taken back
pub record IsUndone (words : List (List ℕ)) (trail : List Change) (before : List (List ℕ)) (fewer : List Change) : Type 0 where
  pub last : Change
  pub trail_is : trail ≡ fewer ++ last ∷ []
  pub words_are : before ≡ slice_set words last.point last.before

-- the last of the old changes is taken back
abbrev pub UndoesLast : Tracked → Tracked → Type 0
UndoesLast old new = IsUndone old.words.items old.trail.items new.words.items new.trail.items
