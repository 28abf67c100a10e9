-- What is gone after some parts of an argument, by which steps, and what each
-- step rests on. A loss is a value and the step that took it, and none where
-- a case supposes another value; a reason is a point with a loss.
use Rattle.std.specs.Prelude.{ℕ, suc, ◌==◌, Bool, false, not, List, [], ◌∷◌, ◌++◌, map, filter, fold, replicate, min, Option, Some, None, if◌then◌else◌}
use Rattle.std.specs.List.{list_any, slice_index_or, slice_set}
use Rattle.std.specs.Ordering.{nat_cmp, ordering_then}
use Rattle.std.specs.declared.cmp.Ordering.{Ordering}
use Rattle.wf_model.specs.Lists.{with_element}
use Rattle.wf_model.specs.Task.{Tuple}
use Rattle.wf_model.specs.Problem.{Problem, Constraint, constraint_at}
use Rattle.wf_model.specs.Box.{has_at}
use Rattle.wf_model.specs.Check.{place_of}
use Rattle.wf_report_explain.specs.Words.Text.{points_in}
use Rattle.wf_report_explain.specs.declared.argument.losses.Loss.{Loss}
use Rattle.wf_report_explain.specs.declared.argument.reasons.Reason.{Reason}
use Rattle.wf_report_explain.specs.Argument.Parts.{Part, takes, closes, splits}

-- the losses of each point, in the order in which they came
abbrev pub Gone : Type 0
Gone = List (List Loss)

abbrev pub losses : Gone → ℕ → List Loss
losses gone v = slice_index_or gone v []

-- how a value was lost, if it was
abbrev pub loss_among : ℕ → List Loss → Option Loss
loss_among a [] = None
loss_among a (x ∷ xs) = if x.value == a then Some x else loss_among a xs

abbrev pub has_loss : ℕ → List Loss → Bool
has_loss a xs = list_any (λ x. x.value == a) xs

abbrev pub is_gone : Gone → ℕ → ℕ → Bool
is_gone gone v a = has_loss a (losses gone v)

-- those of the values that a point has left
abbrev pub left_at : List ℕ → Gone → ℕ → List ℕ
left_at values gone v = filter (λ a. not (is_gone gone v a)) values

abbrev pub with_losses : Gone → ℕ → List Loss → Gone
with_losses gone v xs = slice_set gone v (losses gone v ++ xs)

-- a value goes from a point by a step, unless it is gone
abbrev pub taken : ℕ → ℕ → Gone → ℕ → Gone
taken n v gone a = if is_gone gone v a then gone else with_losses gone v (record { value = a; step = Some n } ∷ [])

-- a value that is gone because a case supposes another one
abbrev pub in_this_case : ℕ → Loss
in_this_case a = record { value = a; step = None }

-- a point is supposed to have a value: the others that it has left are gone
abbrev pub supposed : List ℕ → Gone → ℕ → ℕ → Gone
supposed values gone v a = with_losses gone v (map in_this_case (filter (λ b. not (b == a)) (left_at values gone v)))

-- ---- what a step rests on

abbrev pub reason_or : ℕ → Option Loss → Option Reason → Option Reason
reason_or v None next = next
reason_or v (Some x) next = Some (record { point = v; loss = x })

-- why a tuple can't be decided at these points: the first of its values that is gone
abbrev pub first_gone : Gone → List ℕ → Tuple → Option Reason
first_gone gone [] tuple = None
first_gone gone (v ∷ points) [] = None
first_gone gone (v ∷ points) (x ∷ xs) = reason_or v (loss_among x (losses gone v)) (first_gone gone points xs)

-- by point, and then by value
abbrev pub reason_cmp : Reason → Reason → Ordering
reason_cmp x y = ordering_then (nat_cmp x.point y.point) (nat_cmp x.loss.value y.loss.value)

-- a reason in its place, unless it is there
abbrev pub with_reason : List Reason → Option Reason → List Reason
with_reason reasons None = reasons
with_reason reasons (Some x) = with_element reason_cmp x reasons

-- those of the tuples that have this value at this place
abbrev pub needed : List Tuple → ℕ → ℕ → List Tuple
needed tuples place a = filter (λ tuple. has_at tuple place a) tuples

-- some of the tuples has this value at this place
abbrev pub occurs : List Tuple → ℕ → ℕ → Bool
occurs tuples place a = list_any (λ tuple. has_at tuple place a) tuples

-- why none of these tuples can be decided at these points
abbrev pub with_reasons : Gone → List ℕ → List Reason → List Tuple → List Reason
with_reasons gone points reasons tuples = fold (λ found tuple. with_reason found (first_gone gone points tuple)) reasons tuples

-- step n takes these values in turn from the point at a place of an
-- execution: what is gone then, and the reasons
pub record Taking : Type 0 where
  pub gone : Gone
  pub reasons : List Reason

abbrev pub take : List Tuple → List ℕ → ℕ → ℕ → ℕ → Taking → ℕ → Taking
take tuples points n place v s a = record {
  gone = taken n v s.gone a;
  reasons = with_reasons s.gone points s.reasons (needed tuples place a);
}

abbrev pub take_each : List Tuple → List ℕ → ℕ → ℕ → ℕ → Gone → List ℕ → Taking
take_each tuples points n place v gone values = fold (take tuples points n place v) (record { gone = gone; reasons = [] }) values

-- what step n takes at a place of an execution, with the reasons
abbrev pub take_in : Constraint → ℕ → ℕ × ℕ → Gone → List ℕ → Taking
take_in k n at gone values = take_each k.tuples (points_in k) n at.0 at.1 gone values

-- ---- the steps of a part

-- whether a reason is a loss by step n
abbrev pub is_step : ℕ → Option ℕ → Bool
is_step n None = false
is_step n (Some m) = n == m

abbrev pub cites : ℕ → Option Reason → Bool
cites n None = false
cites n (Some x) = is_step n x.loss.step

-- whether step n would have to cite itself for a value at a place of an execution
abbrev pub cites_itself : List Tuple → List ℕ → ℕ → ℕ → Gone → ℕ → Bool
cites_itself tuples points n place gone a = list_any (λ tuple. cites n (first_gone gone points tuple)) (needed tuples place a)

-- the values of each step, where step n has these so far, and others are still to come: a step ends
-- before a value for which it would have to cite itself
abbrev pub steps_from : List Tuple → List ℕ → ℕ → ℕ → ℕ → Gone → List ℕ → List ℕ → List (List ℕ)
steps_from tuples points n place v gone so_far [] = so_far ∷ []
steps_from tuples points n place v gone so_far (a ∷ values) =
    if cites_itself tuples points n place gone a
    then so_far ∷ steps_from tuples points (suc n) place v (taken (suc n) v gone a) (a ∷ []) values
    else steps_from tuples points n place v (taken n v gone a) (so_far ++ (a ∷ [])) values

-- the values of each step, where step n begins with the first
abbrev pub in_steps : List Tuple → List ℕ → ℕ → ℕ → ℕ → Gone → List ℕ → List (List ℕ)
in_steps tuples points n place v gone [] = []
in_steps tuples points n place v gone (a ∷ values) = steps_from tuples points n place v (taken n v gone a) (a ∷ []) values

-- the values of each step at a place of an execution, where step n begins with the first
abbrev pub steps_in : Constraint → ℕ → ℕ × ℕ → Gone → List ℕ → List (List ℕ)
steps_in k n at gone values = in_steps k.tuples (points_in k) n at.0 at.1 gone values

-- ---- from part to part

-- the most suppositions that are told apart: what is under more counts as under so many
abbrev pub deepest : ℕ
deepest = 12

-- a case that is still to come: what is gone where it begins, and how many suppositions it is under
pub record Case : Type 0 where
  pub point : ℕ
  pub value : ℕ
  pub depth : ℕ
  pub gone : Gone

-- the number of the next step, how many suppositions it is under, what is
-- gone, and the cases that are still to come
pub record ArgumentState : Type 0 where
  pub number : ℕ
  pub depth : ℕ
  pub gone : Gone
  pub later : List Case

abbrev pub start : Problem → ArgumentState
start p = record { number = 1; depth = 0; gone = replicate p.points []; later = [] }

-- the case that a point has this one of the values
abbrev pub case_of : List ℕ → ℕ → Gone → ℕ → ℕ → Case
case_of values depth gone v a = record { point = v; value = a; depth = depth; gone = supposed values gone v a }

-- a case for each value that the point has left
abbrev pub cases_at : List ℕ → ArgumentState → ℕ → List Case
cases_at values s v = map (case_of values (min (suc s.depth) deepest) s.gone v) (left_at values s.gone v)

-- the first of these cases begins, if there is one; else all is said
abbrev pub entered : ℕ → List Case → Option ArgumentState
entered n [] = None
entered n (x ∷ later) = Some (record { number = n; depth = x.depth; gone = x.gone; later = later })

-- after a step that takes these values
abbrev pub after_step : Constraint → ℕ × ℕ → ArgumentState → List ℕ → ArgumentState
after_step k at s values = record s { number = suc s.number; gone = (take_in k s.number at s.gone values).gone }

abbrev pub after_taking : Problem → ArgumentState → ℕ → List ℕ → Option (ℕ × ℕ) → ArgumentState
after_taking p s e values None = s
after_taking p s e values (Some at) = let k = constraint_at p e in fold (after_step k at) s (steps_in k s.number at s.gone values)

-- a part that names no participant of an execution is left out
abbrev pub after : Problem → ArgumentState → Part → Option ArgumentState
after p s (takes e c values) = Some (after_taking p s e values (place_of 0 c (constraint_at p e).scope))
after p s (closes v) = entered s.number s.later
after p s (splits v) = entered (suc s.number) (cases_at p.values s v ++ s.later)
