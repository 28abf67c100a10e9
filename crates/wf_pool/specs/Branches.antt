-- The branches of a problem, and what a search finds in them.
use Rattle.std.specs.Prelude.{◌≡◌, ◌⊎◌, ℕ, ◌<◌, Bool, false, List, [], map, length, Some, None, is_some, All, Vec}
use Rattle.std.specs.List.{slice_index_or}
use Rattle.wf_model.specs.Problem.{Problem, IsWellFormed}
use Rattle.wf_model.specs.Box.{Box, root}
use Rattle.wf_model.specs.Refutation as refutation
use Rattle.wf_model.specs.Closing.{canonical}
use Rattle.wf_model.specs.Split.{split}
use Rattle.wf_model.specs.Outline.{Item, outline, boxes_left_out}
use Rattle.wf_model.specs.Laws.{HasCanonicalMap, IsBoxOf}
use Rattle.wf_base.specs.declared.lines.line.Line.{Line}
use Rattle.wf_base.specs.Lines.Lines.{line_of}
use Rattle.wf_pool.specs.declared.answer.KeptLines.{KeptLines}
use Rattle.wf_pool.specs.declared.answer.KeptLines.TheVariants as keep

-- what is kept of the lines that lead to a map, and of those that refute
abbrev pub map_lines : KeptLines → List refutation.Line → List refutation.Line
map_lines keep.All ls = ls
map_lines keep.Refuting ls = []
map_lines keep.Neither ls = []

abbrev pub refuting_lines : KeptLines → List refutation.Line → List refutation.Line
refuting_lines keep.All ls = ls
refuting_lines keep.Refuting ls = ls
refuting_lines keep.Neither ls = []

-- the box, or the lines, at a place of a list
abbrev pub box_at : List Box → ℕ → Box
box_at boxes i = slice_index_or boxes i []

abbrev pub lines_at : List (List Line) → ℕ → List Line
lines_at lists i = slice_index_or lists i []

-- the canonical search of the box ends with this map
abbrev pub IsMapOf : Problem → Box → List ℕ → Type 0
IsMapOf p box m = (canonical p box).map ≡ Some m

-- these are the canonical search's lines of the box, as far as those that lead to a map are kept
abbrev pub LeadInBox : Problem → KeptLines → Box → List Line → Type 0
LeadInBox p kept box ls = map line_of ls ≡ map_lines kept (canonical p box).lines

-- the canonical search of the box ends with no map, and these are its lines,
-- as far as those that refute are kept
abbrev pub AreLinesOf : Problem → KeptLines → Box → List Line → Type 0
AreLinesOf p kept box ls = ((canonical p box).map ≡ None) × (map line_of ls ≡ refuting_lines kept (canonical p box).lines)

-- branch i of the problem
abbrev pub branch_of : Problem → ℕ → Box
branch_of p i = box_at (split p) i

unfoldable pub branch_count : Problem → ℕ
branch_count p = length (split p)

-- the canonical search of branch i ends with a map
unfoldable pub has_map : Problem → ℕ → Bool
has_map p i = is_some (canonical p (branch_of p i)).map

-- m is what the canonical search of branch i ends with, and these are its lines if they are kept;
-- or there is no map, and these are its lines if they are kept
unfoldable pub IsMapAt : Problem → KeptLines → ℕ → List ℕ → List Line → Type 0
IsMapAt p kept i m ls = (i < branch_count p) × IsMapOf p (branch_of p i) m × LeadInBox p kept (branch_of p i) ls

unfoldable pub AreLinesAt : Problem → KeptLines → ℕ → List Line → Type 0
AreLinesAt p kept i ls = (i < branch_count p) × AreLinesOf p kept (branch_of p i) ls

-- the list at place i is that of the lines of branch i
abbrev pub HasLines : Problem → KeptLines → List (List Line) → ℕ → Type 0
HasLines p kept lists i = AreLinesAt p kept i (lines_at lists i)

-- the lines of each of so many branches, as far as they are kept, stand in its place
abbrev pub HasEachLines : {A : Type 0} → Problem → KeptLines → ℕ → List (Vec Line A) → Type 0
HasEachLines p kept n lists = (i : ℕ) → i < n → HasLines p kept (map (λ l. l.items) lists) i

-- the lines that were in their places still are, and so are those of these
-- branches, as far as there are places
abbrev pub Places : {A : Type 0} → Problem → KeptLines → (ℕ → Type 0) → List (Vec Line A) → List (Vec Line A) → Type 0
Places p kept branches old new =
    (i : ℕ) → i < length old → HasLines p kept (map (λ l. l.items) old) i ⊎ branches i → HasLines p kept (map (λ l. l.items) new) i

-- the root has the map of branch n, and these lines lead to it, if the own lines of the branch lead
-- to it there
abbrev pub LeadInRoot : Problem → ℕ → List Line → List Line → Type 0
LeadInRoot p n own ls = (m : List ℕ) → IsMapAt p keep.All n m own → HasCanonicalMap p m (root p) (map line_of ls)

-- the root has the map of branch n, and these lines lead to it as far as such lines are kept, if
-- the own lines of the branch lead to it there
abbrev pub LeadIfKept : Problem → KeptLines → ℕ → List Line → List Line → Type 0
LeadIfKept p kept n own ls = (m : List ℕ) → IsMapAt p kept n m own → LeadInBox p kept (root p) ls

-- no branch below this one has a map
abbrev pub NoneBelow : Problem → ℕ → Type 0
NoneBelow p i = (j : ℕ) → j < i → has_map p j ≡ false

-- the outline of a problem that is well formed, with the branches of the problem
pub record IsCoverOf (p : Problem) (c : List Item) : Type 0 where
  pub outline : c ≡ outline p
  pub branches : boxes_left_out c ≡ split p
  pub boxes : All (IsBoxOf p) (boxes_left_out c)
  pub well_formed : IsWellFormed p
