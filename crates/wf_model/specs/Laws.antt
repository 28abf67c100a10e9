-- What the laws say of boxes: the least solution in a box, the branches of a box, and maps in a
-- list of boxes; of lines that refute a box; and of reports. The laws themselves, by subject.
use Rattle.std.specs.Prelude.{◌≡◌, ◌<◌, ℕ, List, [], ◌∷◌, length, None, Some}
use Rattle.std.specs.List.{slice_index_or, AllZip}
use Rattle.wf_model.specs.Lists.{IsBelowOrSame}
use Rattle.wf_model.specs.Problem.{Problem, IsSolution}
use Rattle.wf_model.specs.Box.{Box, IsAscendingBox, LiesIn, first_empty}
use Rattle.wf_model.specs.Refutation.{Line, Tree, lines, Refutes}
use Rattle.wf_model.specs.Closing.{sweep, canonical}
use Rattle.wf_model.specs.Split.{split}
pub mod Closing
pub mod Covers
pub mod LeastTrees
pub mod Maps
pub mod Outlines
pub mod Refutations
pub mod Reports
pub mod Search

-- a box of the problem: the candidates of each point, ascending
pub record IsBoxOf (p : Problem) (box : Box) : Type 0 where
  pub long : length box ≡ p.points
  pub ascending : IsAscendingBox box

-- a solution in the box, and every other one there is above it
pub record IsLeastIn (p : Problem) (box : Box) (m : List ℕ) : Type 0 where
  pub solves : IsSolution p m
  pub lies : LiesIn m box
  pub least : (other : List ℕ) → IsSolution p other → LiesIn other box → IsBelowOrSame m other

-- a box within another one, in which a sweep loses nothing and no point is without a candidate
pub record IsClosedBranch (p : Problem) (box branch : Box) : Type 0 where
  pub is_box : IsBoxOf p branch
  pub closed : (sweep p branch).lines ≡ []
  pub filled : first_empty branch ≡ None
  pub within : (m : List ℕ) → LiesIn m branch → LiesIn m box

-- the map lies in the box at this place of the list
abbrev pub LiesAt : List ℕ → List Box → ℕ → Type 0
LiesAt m boxes i = (i < length boxes) × LiesIn m (slice_index_or boxes i [])

-- the map lies in one box of the list, and in no other
abbrev pub LiesInExactlyOne : List ℕ → List Box → Type 0
LiesInExactlyOne m boxes = (i : ℕ) × LiesAt m boxes i × ((j : ℕ) → LiesAt m boxes j → j ≡ i)

-- some tree with these lines refutes the box
abbrev pub IsRefutedBy : Problem → Box → List Line → Type 0
IsRefutedBy p box ls = (t : Tree) × (lines t ≡ ls) × Refutes p t box

-- the canonical search of the box finds no map, and these are its lines
abbrev pub HasCanonicalLines : Problem → Box → List Line → Type 0
HasCanonicalLines p box ls = canonical p box ≡ record { lines = ls; map = None }

-- one list of lines for each branch of the problem: it refutes that branch;
-- or it is the canonical one
abbrev pub RefuteBranches : Problem → List (List Line) → Type 0
RefuteBranches p lists = AllZip (IsRefutedBy p) (split p) lists

abbrev pub AreCanonicalForBranches : Problem → List (List Line) → Type 0
AreCanonicalForBranches p lists = AllZip (HasCanonicalLines p) (split p) lists

-- the canonical search of the box finds this map, and these are its lines
abbrev pub HasCanonicalMap : Problem → List ℕ → Box → List Line → Type 0
HasCanonicalMap p m box ls = canonical p box ≡ record { lines = ls; map = Some m }

-- one list of lines for each of the first boxes: those of a canonical search that finds no map, and
-- of the last one the lines with which it finds this map
abbrev pub LeadToMap : Problem → List ℕ → List Box → List (List Line) → Type 0
LeadToMap p m [] lists = ⊥
LeadToMap p m (box ∷ boxes) [] = ⊥
LeadToMap p m (box ∷ boxes) (ls ∷ []) = HasCanonicalMap p m box ls
LeadToMap p m (box ∷ boxes) (ls ∷ next ∷ lists) = HasCanonicalLines p box ls × LeadToMap p m boxes (next ∷ lists)
