-- How many turns write the lines of closing a box, and those of the turn that it is in.
use Rattle.std.proofs.Common.{◌≡◌, ℕ, zero, suc, ◌+◌, List, [], ◌∷◌, ◌++◌, Option, Some, None, Result, Ok, Err, IsErr, refl, ap, ◌∙◌, arith}
use Rattle.std.proofs.lemmas.Bool.{false≢true}
use Rattle.wf_model.specs.Problem.{Constraint, Problem}
use Rattle.wf_model.specs.Box.{Box, candidates, count, first_empty, without}
use Rattle.wf_model.specs.Refutation as refutation
use Rattle.wf_model.specs.Closing.{Loss, Step, closing, closing_at, continued, lost, sweep, sweep_from, sweeps, take_out, take_out_each, taken_out, unless_none, Trace}
use Rattle.wf_search.specs.declared.searching.Found.{Found}
use Rattle.wf_search.specs.Found.{AskedInTurns, HasAsked, turns}
use Rattle.wf_search.specs.FoundMap.{HasAskedForMap}
use Rattle.wf_search.specs.declared.maps.FoundMap.{FoundMap}

pub turns_append : (ls ms : List refutation.Line) → turns (ls ++ ms) ≡ turns ls + turns ms
turns_append [] ms = omega arith
turns_append (refutation.remove e c a ∷ ls) ms = turns_append ls ms
turns_append (refutation.empty v ∷ ls) ms = omega (arith, turns_append ls ms)
turns_append (refutation.branch v ∷ ls) ms = omega (arith, turns_append ls ms)
turns_append (refutation.found ∷ ls) ms = omega (arith, turns_append ls ms)

-- ---- what closing writes ends a turn only where a point was emptied

abbrev ended : Option Box → ℕ
ended None = 1
ended (Some box) = 0

abbrev EndsTurn : Step → Type 0
EndsTurn s = turns s.lines ≡ ended s.left

continued_ends : (ls : List refutation.Line) (left : Option Box) (next : Box → Step) → turns ls ≡ ended left → ((box : Box) → EndsTurn (next box)) → EndsTurn (continued ls left next)
continued_ends ls None next is step = is
continued_ends ls (Some box) next is step = omega (arith, turns_append ls (next box).lines, is, step box)

taken_out_ends : (e : ℕ) (x : Loss) (box : Box) (set : List ℕ) → EndsTurn (taken_out e x box set)
taken_out_ends e x box [] = refl
taken_out_ends e x box (a ∷ set) = refl

take_out_each_ends : (e : ℕ) (xs : List Loss) (box : Box) → EndsTurn (take_out_each e xs box)
take_out_each_ends e [] box = refl
take_out_each_ends e (x ∷ xs) box =
    continued_ends (take_out e x box).lines (take_out e x box).left (take_out_each e xs) (taken_out_ends e x (without box x.point x.value) (candidates (without box x.point x.value) x.point)) (take_out_each_ends e xs)

sweep_from_ends : (e : ℕ) (ks : List Constraint) (box : Box) → EndsTurn (sweep_from e ks box)
sweep_from_ends e [] box = refl
sweep_from_ends e (k ∷ ks) box = continued_ends (take_out_each e (lost box k) box).lines (take_out_each e (lost box k) box).left (sweep_from (suc e) ks) (take_out_each_ends e (lost box k) box) (sweep_from_ends (suc e) ks)

unless_none_ends : (ls : List refutation.Line) (s : Step) (next : Box → Step) → EndsTurn s → ((box : Box) → EndsTurn (next box)) → EndsTurn (unless_none ls s next)
unless_none_ends [] s next is step = is
unless_none_ends (l ∷ ls) s next is step = continued_ends s.lines s.left next is step

sweeps_end : (n : ℕ) (p : Problem) (box : Box) → EndsTurn (sweeps n p box)
sweeps_end zero p box = refl
sweeps_end (suc n) p box = unless_none_ends (sweep p box).lines (sweep p box) (sweeps n p) (sweep_from_ends 0 p.constraints box) (sweeps_end n p)

closing_at_ends : (empty : Option ℕ) (p : Problem) (box : Box) → EndsTurn (closing_at empty p box)
closing_at_ends None p box = sweeps_end (suc (count box)) p box
closing_at_ends (Some v) p box = refl

-- ---- the lines of a turn

module _ (p : Problem) (box : Box) where
  -- it empties a point
  pub emptied_turn : (closing p box).left ≡ None → turns (closing p box).lines ≡ 1
  emptied_turn is = closing_at_ends (first_empty box) p box ∙ ap ended is

  -- a line that takes nothing out comes after those of closing
  pub opened_turn : (left : Box) (line : refutation.Line) → (closing p box).left ≡ Some left → turns (line ∷ []) ≡ 1 → turns ((closing p box).lines ++ line ∷ []) ≡ 1
  opened_turn left line is one =
      let closed : turns (closing p box).lines ≡ 0 = closing_at_ends (first_empty box) p box ∙ ap ended is in
      omega (arith, turns_append (closing p box).lines (line ∷ []), closed, one)

-- one more turn than before
pub turns_more : (ls added : List refutation.Line) → turns added ≡ 1 → turns (ls ++ added) ≡ turns ls + 1
turns_more ls added one = omega (arith, turns_append ls added, one)

-- where memory ran out, it had asked
pub failed : {E : Type 0} (t : Trace) (Asked : ℕ → Type 0) (result : Result Found E) → IsErr result → AskedInTurns t Asked → HasAsked t Asked result
failed t Asked (Ok found) is asked = absurd (false≢true is)
failed t Asked (Err e) is asked = asked

pub failed_map : {E : Type 0} (t : Trace) (Asked : ℕ → Type 0) (result : Result FoundMap E) → IsErr result → AskedInTurns t Asked → HasAskedForMap t Asked result
failed_map t Asked (Ok found) is asked = absurd (false≢true is)
failed_map t Asked (Err e) is asked = asked
