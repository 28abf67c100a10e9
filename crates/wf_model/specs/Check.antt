-- What a checker answers about a report: its first fault, or none.
use Rattle.std.specs.Prelude.{ℕ, suc, ◌==◌, ◌+◌, nat_lt, Bool, true, false, not, List, [], ◌∷◌, ◌++◌, length, Option, Some, None, position, slice_get, option_map, if◌then◌else◌}
use Rattle.std.specs.List.{list_any}
use Rattle.std.specs.Cmp.Lexicographic.{pointwise}
use Rattle.wf_model.specs.Problem.{Problem, Constraint, Participant, values_at, problem_of}
use Rattle.wf_model.specs.Box.{Box, root, candidates, without, is_supported_in, branches_at, first_open}
use Rattle.wf_model.specs.Refutation.{Line, remove, empty, branch, found}
use Rattle.wf_model.specs.Report.{Report, Body, a_map, none, least}
use Rattle.wf_model.specs.Task.{Task}

pub data Refusal : Type 0 where
  wrong_header : ℕ → Refusal
  wrong_length : Refusal
  violates : ℕ → Refusal  -- this execution
  no_such : ℕ → Refusal  -- in this line, as below
  unsound : ℕ → Refusal
  not_empty : ℕ → Refusal
  not_open : ℕ → Refusal
  unfinished : Refusal
  trailing : ℕ → Refusal
  not_first : ℕ → Refusal
  not_the_map : ℕ → Refusal

-- the place and the point of a process in an execution
abbrev pub place_of : ℕ → ℕ → List Participant → Option (ℕ × ℕ)
place_of n c [] = None
place_of n c (at ∷ more) = if at.0 == c then Some (n, at.1) else place_of (suc n) c more

-- what a line says of the first box of those that are left to refute: a
-- fault, or the boxes that are left then
pub data Verdict : Type 0 where
  fault : Refusal → Verdict
  left : List Box → Verdict

abbrev pub removal_at : ℕ → ℕ → Box → List Box → Constraint → Option (ℕ × ℕ) → Verdict
removal_at k a box boxes constraint None = fault (no_such k)
removal_at k a box boxes constraint (Some at) =
    if is_supported_in constraint box at.0 a then fault (unsound k) else left (without box at.1 a ∷ boxes)

abbrev pub removal : ℕ → ℕ → ℕ → Box → List Box → Option Constraint → Verdict
removal k c a box boxes None = fault (no_such k)
removal k c a box boxes (Some constraint) = removal_at k a box boxes constraint (place_of 0 c constraint.scope)

-- the verdict of line k
abbrev pub verdict : Problem → ℕ → Line → Box → List Box → Verdict
verdict p k (remove e c a) box boxes = removal k c a box boxes (slice_get p.constraints e)
verdict p k (empty v) box boxes =
    if nat_lt v p.points then (if length (candidates box v) == 0 then left boxes else fault (not_empty k)) else fault (no_such k)
verdict p k (branch v) box boxes =
    if nat_lt v p.points then (if nat_lt 1 (length (candidates box v)) then left (branches_at box v ++ boxes)
    else fault (not_open k)) else fault (no_such k)
verdict p k found box boxes = fault (not_the_map k)

abbrev pub after_verdict : Verdict → (List Box → Option Refusal) → Option Refusal
after_verdict (fault f) next = Some f
after_verdict (left boxes) next = next boxes

-- the first fault of lines that are to refute these boxes, the first line being line k
abbrev pub first_fault : Problem → ℕ → List Line → List Box → Option Refusal
first_fault p k [] [] = None
first_fault p k [] (box ∷ boxes) = Some unfinished
first_fault p k (l ∷ ls) [] = Some (trailing k)
first_fault p k (l ∷ ls) (box ∷ boxes) = after_verdict (verdict p k l box boxes) (first_fault p (suc k) ls)

abbrev pub satisfies : List ℕ → Constraint → Bool
satisfies m k = list_any (pointwise (λ x y. x == y) (values_at m k.scope)) k.tuples

-- the first execution whose values are no tuple that is allowed there
abbrev pub first_violated : Problem → List ℕ → Option ℕ
first_violated p m = position (λ k. not (satisfies m k)) p.constraints

abbrev pub map_fault : Problem → List ℕ → Option Refusal
map_fault p m = if not (length m == p.points) then Some wrong_length else option_map violates (first_violated p m)

-- ---- least reports: a map, and the canonical search up to it

abbrev pub is_point : ℕ → Option ℕ → Bool
is_point v None = false
is_point v (Some w) = v == w

-- a branch elsewhere than at the first open point is refused, where nothing else is wrong with it
abbrev pub first_only : ℕ → Bool → Verdict → Verdict
first_only k true found_so_far = found_so_far
first_only k false (fault f) = fault f
first_only k false (left boxes) = fault (not_first k)

abbrev pub least_verdict : Problem → ℕ → Line → Box → List Box → Verdict
least_verdict p k (remove e c a) box boxes = verdict p k (remove e c a) box boxes
least_verdict p k (empty v) box boxes = verdict p k (empty v) box boxes
least_verdict p k (branch v) box boxes = first_only k (is_point v (first_open box)) (verdict p k (branch v) box boxes)
least_verdict p k found box boxes = verdict p k found box boxes

abbrev pub is_exactly : List ℕ → Box → Bool
is_exactly m box = pointwise (λ a set. pointwise (λ x y. x == y) (a ∷ []) set) m box

-- nothing may follow
abbrev pub first_trailing : ℕ → List Line → Option Refusal
first_trailing k [] = None
first_trailing k (l ∷ ls) = Some (trailing k)

abbrev pub found_at : ℕ → Bool → List Line → Option Refusal
found_at k true ls = first_trailing (suc k) ls
found_at k false ls = Some (not_the_map k)

-- the first fault of lines that are to lead to this map, the first line being line k
abbrev pub first_least_fault : Problem → List ℕ → ℕ → List Line → List Box → Option Refusal
first_least_fault p m k [] boxes = Some unfinished
first_least_fault p m k (l ∷ ls) [] = Some (trailing k)
first_least_fault p m k (remove e c a ∷ ls) (box ∷ boxes) =
    after_verdict (least_verdict p k (remove e c a) box boxes) (first_least_fault p m (suc k) ls)
first_least_fault p m k (empty v ∷ ls) (box ∷ boxes) =
    after_verdict (least_verdict p k (empty v) box boxes) (first_least_fault p m (suc k) ls)
first_least_fault p m k (branch v ∷ ls) (box ∷ boxes) =
    after_verdict (least_verdict p k (branch v) box boxes) (first_least_fault p m (suc k) ls)
first_least_fault p m k (found ∷ ls) (box ∷ boxes) = found_at k (is_exactly m box) ls

-- ---- whole reports

-- the first header number that differs, by its line
abbrev pub header_fault : Task → ℕ → Problem → Report → Option Refusal
header_fault t rounds p r =
    if not (r.processes == t.processes) then Some (wrong_header 2)
    else (if not (r.rounds == rounds) then Some (wrong_header 3)
    else (if not (r.points == p.points) then Some (wrong_header 4)
    else (if not (r.executions == length p.constraints) then Some (wrong_header 5) else None)))

abbrev pub unless_fault : Option Refusal → Option Refusal → Option Refusal
unless_fault None next = next
unless_fault (Some f) next = Some f

-- the body begins at line 7
abbrev pub body_fault : Problem → Body → Option Refusal
body_fault p (a_map m) = map_fault p m
body_fault p (none ls) = first_fault p 7 ls (root p ∷ [])
body_fault p (least m ls) = unless_fault (map_fault p m) (first_least_fault p m (7 + length m) ls (root p ∷ []))

-- the first fault of a report about a task and a number of rounds
abbrev pub report_fault : Task → ℕ → Report → Option Refusal
report_fault t rounds r = unless_fault (header_fault t rounds (problem_of t rounds) r) (body_fault (problem_of t rounds) r.body)
