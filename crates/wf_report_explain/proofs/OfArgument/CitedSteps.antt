-- Each step cites earlier steps alone.
use Rattle.std.proofs.Common.{◌≡◌, ℕ, zero, suc, ◌<◌, ◌==◌, ◌||◌, Bool, true, false, cond, List, [], ◌∷◌, ◌++◌, map, filter, fold, replicate, not, min, Option, Some, None, refl, sym, ap, ◌∙◌, subst, arith}
use Rattle.std.specs.Bool.{⊤}
use Rattle.std.specs.List.{AllByRecursion, list_any}
use Rattle.std.specs.Ordering.{match_ordering}
use Rattle.std.specs.declared.cmp.Ordering.{Ordering}
use Rattle.std.specs.declared.cmp.Ordering.TheVariants.{Less, Equal, Greater}
use Rattle.std.proofs.lemmas.Bool.{ne_eqb, or_parts}
use Rattle.std.proofs.lemmas.List.Sums.{fold-append}
use Rattle.wf_model.specs.Check.{place_of}
use Rattle.wf_model.specs.Lists.{with_element}
use Rattle.wf_model.specs.Task.{Tuple}
use Rattle.wf_model.specs.Problem.{Problem, Constraint, constraint_at}
use Rattle.wf_report_explain.specs.declared.argument.losses.Loss.{Loss}
use Rattle.wf_report_explain.specs.declared.argument.reasons.Reason.{Reason}
use Rattle.wf_report_explain.specs.Argument.Laws.{CitesEarlier, EachStepCitesEarlierSteps, IsBefore, PartCitesEarlier, PartsCiteEarlier, StepsCiteEarlier, TakingCitesEarlier}
use Rattle.wf_report_explain.specs.Argument.Parts.{Part, takes, closes, splits, parts_of}
use Rattle.wf_report_explain.specs.Words.Text.{points_in}
use Rattle.wf_report_explain.specs.Argument.ArgumentState.{Case, Gone, ArgumentState, Taking, after, after_step, after_taking, case_of, cases_at, cites, cites_itself, deepest, entered, first_gone, in_this_case, is_gone, is_step, left_at, loss_among, losses, needed, reason_cmp, reason_or, start, steps_from, steps_in, take, take_each, take_in, taken, with_losses, with_reason, with_reasons}

-- ---- lists

each_weaker : {X : Type 0} (P Q : X → Type 0) → ((x : X) → P x → Q x) → (xs : List X) → AllByRecursion P xs → AllByRecursion Q xs
each_weaker P Q f [] h = tt
each_weaker P Q f (x ∷ xs) h = (f x h.0, each_weaker P Q f xs h.1)

each_append : {X : Type 0} (P : X → Type 0) (xs ys : List X) → AllByRecursion P xs → AllByRecursion P ys → AllByRecursion P (xs ++ ys)
each_append P [] ys h more = more
each_append P (x ∷ xs) ys h more = (h.0, each_append P xs ys h.1 more)

each_with : {X : Type 0} (P : X → Type 0) (cmp : X → X → Ordering) (x : X) (ys : List X) → P x → AllByRecursion P ys → AllByRecursion P (with_element cmp x ys)
each_with P cmp x [] p h = (p, tt)
each_with P cmp x (y ∷ ys) p h = by (cmp x y) (each_with P cmp x ys p h.1)
  where
    by : (o : Ordering) → AllByRecursion P (with_element cmp x ys) → AllByRecursion P (match_ordering o (x ∷ y ∷ ys) (y ∷ ys) (y ∷ with_element cmp x ys))
    by Less rest = (p, h)
    by Equal rest = h
    by Greater rest = (h.0, rest)

-- ---- what is gone was lost before

abbrev Before : ℕ → Loss → Type 0
Before n x = IsBefore n x.step

abbrev AllBefore : ℕ → Gone → Type 0
AllBefore n gone = AllByRecursion (AllByRecursion (Before n)) gone

step_more : (n : ℕ) (step : Option ℕ) → IsBefore n step → IsBefore (suc n) step
step_more n None h = tt
step_more n (Some m) h = omega (arith, h)

gone_more : (n : ℕ) (gone : Gone) → AllBefore n gone → AllBefore (suc n) gone
gone_more n gone h = each_weaker (AllByRecursion (Before n)) (AllByRecursion (Before (suc n))) (λ xs h. each_weaker (Before n) (Before (suc n)) (λ x h. step_more n x.step h) xs h) gone h

losses_before : (n : ℕ) (gone : Gone) (v : ℕ) → AllBefore n gone → AllByRecursion (Before n) (losses gone v)
losses_before n [] v h = tt
losses_before n (xs ∷ gone) zero h = h.0
losses_before n (xs ∷ gone) (suc v) h = losses_before n gone v h.1

with_before : (n : ℕ) (gone : Gone) (v : ℕ) (xs : List Loss) → AllBefore n gone → AllByRecursion (Before n) xs → AllBefore n (with_losses gone v xs)
with_before n [] v xs h new = tt
with_before n (l ∷ gone) zero xs h new = (each_append (Before n) l xs h.0 new, h.1)
with_before n (l ∷ gone) (suc v) xs h new = (h.0, with_before n gone v xs h.1 new)

taken_before : (n v a : ℕ) (gone : Gone) → AllBefore (suc n) gone → AllBefore (suc n) (taken n v gone a)
taken_before n v a gone h = by (is_gone gone v a)
  where
    now : n < suc n
    now = omega arith

    by : (t : Bool) → AllBefore (suc n) (cond t gone (with_losses gone v (record { value = a; step = Some n } ∷ [])))
    by true = h
    by false = with_before (suc n) gone v (record { value = a; step = Some n } ∷ []) h (now, tt)

-- ---- why a tuple can't be decided

abbrev LossBefore : ℕ → Option Loss → Type 0
LossBefore n None = ⊤
LossBefore n (Some x) = Before n x

abbrev ReasonBefore : ℕ → Option Reason → Type 0
ReasonBefore n None = ⊤
ReasonBefore n (Some x) = CitesEarlier n x

among_before : (n a : ℕ) (xs : List Loss) → AllByRecursion (Before n) xs → LossBefore n (loss_among a xs)
among_before n a [] h = tt
among_before n a (x ∷ xs) h = by (x.value == a) (among_before n a xs h.1)
  where
    by : (t : Bool) → LossBefore n (loss_among a xs) → LossBefore n (cond t (Some x) (loss_among a xs))
    by true rest = h.0
    by false rest = rest

or_before : (n v : ℕ) (found : Option Loss) (next : Option Reason) → LossBefore n found → ReasonBefore n next → ReasonBefore n (reason_or v found next)
or_before n v None next h rest = rest
or_before n v (Some x) next h rest = h

first_before : (n : ℕ) (gone : Gone) (points tuple : List ℕ) → AllBefore n gone → ReasonBefore n (first_gone gone points tuple)
first_before n gone [] tuple h = tt
first_before n gone (v ∷ points) [] h = tt
first_before n gone (v ∷ points) (x ∷ xs) h = or_before n v (loss_among x (losses gone v)) (first_gone gone points xs) (among_before n x (losses gone v) (losses_before n gone v h)) (first_before n gone points xs h)

-- a step before the next one is a step before this one, or this one
other_step : (n : ℕ) (step : Option ℕ) → IsBefore (suc n) step → is_step n step ≡ false → IsBefore n step
other_step n None h other = tt
other_step n (Some m) h other = grind (arith, h, other)

other_reason : (n : ℕ) (x : Option Reason) → ReasonBefore (suc n) x → cites n x ≡ false → ReasonBefore n x
other_reason n None h other = tt
other_reason n (Some x) h other = other_step n x.loss.step h other

not_this : (n : ℕ) (step : Option ℕ) → IsBefore n step → is_step n step ≡ false
not_this n None h = refl
not_this n (Some m) h = ne_eqb n m (λ e. omega (arith, h, e))

not_cited : (n : ℕ) (x : Option Reason) → ReasonBefore n x → cites n x ≡ false
not_cited n None h = refl
not_cited n (Some x) h = not_this n x.loss.step h

-- a step that has taken nothing need not cite itself
none_cited : (n : ℕ) (gone : Gone) (points : List ℕ) (tuples : List Tuple) → AllBefore n gone → list_any (λ tuple. cites n (first_gone gone points tuple)) tuples ≡ false
none_cited n gone points [] h = refl
none_cited n gone points (tuple ∷ tuples) h = λ i. not_cited n (first_gone gone points tuple) (first_before n gone points tuple h) i || none_cited n gone points tuples h i

-- ---- the reasons of a step

with_reason_before : (n : ℕ) (reasons : List Reason) (x : Option Reason) → AllByRecursion (CitesEarlier n) reasons → ReasonBefore n x → AllByRecursion (CitesEarlier n) (with_reason reasons x)
with_reason_before n reasons None h new = h
with_reason_before n reasons (Some x) h new = each_with (CitesEarlier n) reason_cmp x reasons new h

reasons_before : (n : ℕ) (gone : Gone) (points : List ℕ) (reasons : List Reason) (tuples : List Tuple) → AllBefore (suc n) gone → list_any (λ tuple. cites n (first_gone gone points tuple)) tuples ≡ false
    → AllByRecursion (CitesEarlier n) reasons → AllByRecursion (CitesEarlier n) (with_reasons gone points reasons tuples)
reasons_before n gone points reasons [] h free told = told
reasons_before n gone points reasons (tuple ∷ tuples) h free told =
    let parts = or_parts (cites n (first_gone gone points tuple)) (list_any (λ tuple. cites n (first_gone gone points tuple)) tuples) free in
    reasons_before n gone points (with_reason reasons (first_gone gone points tuple)) tuples h parts.1
    (with_reason_before n reasons (first_gone gone points tuple) told (other_reason n (first_gone gone points tuple) (first_before (suc n) gone points tuple h) parts.0))

-- ---- steps

taking_before : (tuples : List Tuple) (points : List ℕ) (n place v : ℕ) (done : Taking) (values : List ℕ) → AllBefore (suc n) done.gone → AllBefore (suc n) (fold (take tuples points n place v) done values).gone
taking_before tuples points n place v done [] h = h
taking_before tuples points n place v done (a ∷ values) h = taking_before tuples points n place v (take tuples points n place v done a) values (taken_before n v a done.gone h)

module _ (tuples : List Tuple) (points : List ℕ) (place v : ℕ) where
  -- step n has taken some values since this was gone
  record IsBegun (n : ℕ) (first gone : Gone) (so_far : List ℕ) : Type 0 where
    pub is : gone ≡ (take_each tuples points n place v first so_far).gone
    pub before : AllBefore (suc n) gone
    pub reasons : AllByRecursion (CitesEarlier n) (take_each tuples points n place v first so_far).reasons

  begins : (n a : ℕ) (gone : Gone) → AllBefore n gone → IsBegun n gone (taken n v gone a) (a ∷ [])
  begins n a gone h = record {
    is = refl;
    before = taken_before n v a gone (gone_more n gone h);
    reasons = reasons_before n gone points [] (needed tuples place a) (gone_more n gone h) (none_cited n gone points (needed tuples place a) h) tt;
  }

  goes_on : (n a : ℕ) (first gone : Gone) (so_far : List ℕ) → IsBegun n first gone so_far → cites_itself tuples points n place gone a ≡ false → IsBegun n first (taken n v gone a) (so_far ++ a ∷ [])
  goes_on n a first gone so_far h free =
      let done = take_each tuples points n place v first so_far in
      let one_more : take_each tuples points n place v first (so_far ++ a ∷ []) ≡ take tuples points n place v done a = fold-append (take tuples points n place v) (record { gone = first; reasons = [] }) so_far (a ∷ []) in
      let told = reasons_before n gone points done.reasons (needed tuples place a) h.before free h.reasons in record {
        is = ap (λ gone. taken n v gone a) h.is ∙ sym (ap (λ (t : Taking). t.gone) one_more);
        before = taken_before n v a gone h.before;
        reasons = subst (AllByRecursion (CitesEarlier n)) (ap (λ gone. with_reasons gone points done.reasons (needed tuples place a)) h.is ∙ sym (ap (λ (t : Taking). t.reasons) one_more)) told;
      }

-- a step ends, or goes on
either_way : (k : Constraint) (at : ℕ × ℕ) (s : ArgumentState) (so_far : List ℕ) (ends goes : List (List ℕ)) (cited t : Bool) → cited ≡ t → AllByRecursion (CitesEarlier s.number) (take_in k s.number at s.gone so_far).reasons
    → StepsCiteEarlier k at (after_step k at s so_far) ends → (cited ≡ false → StepsCiteEarlier k at s goes) → StepsCiteEarlier k at s (cond t (so_far ∷ ends) goes)
either_way k at s so_far ends goes cited true is here ended went_on = (here, ended)
either_way k at s so_far ends goes cited false is here ended went_on = went_on is

-- the values that are still to come, where a step has begun
from_cite : (k : Constraint) (at : ℕ × ℕ) (s : ArgumentState) (gone : Gone) (so_far values : List ℕ) → IsBegun k.tuples (points_in k) at.0 at.1 s.number s.gone gone so_far
    → StepsCiteEarlier k at s (steps_from k.tuples (points_in k) s.number at.0 at.1 gone so_far values)
from_cite k at s gone so_far [] h = (h.reasons, tt)
from_cite k at s gone so_far (a ∷ values) h =
    let tuples = k.tuples in let points = points_in k in let n = s.number in let place = at.0 in let v = at.1 in
    let cited = cites_itself tuples points n place gone a in
    let next = after_step k at s so_far in
    let begun = subst (λ gone. IsBegun tuples points place v (suc n) next.gone (taken (suc n) v gone a) (a ∷ [])) (sym h.is) (begins tuples points place v (suc n) a next.gone (subst (AllBefore (suc n)) h.is h.before)) in
    either_way k at s so_far (steps_from tuples points (suc n) place v (taken (suc n) v gone a) (a ∷ []) values) (steps_from tuples points n place v (taken n v gone a) (so_far ++ a ∷ []) values) cited cited refl h.reasons
    (from_cite k at next (taken (suc n) v gone a) (a ∷ []) values begun)
    (λ free. from_cite k at s (taken n v gone a) (so_far ++ a ∷ []) values (goes_on tuples points place v n a s.gone gone so_far h free))

steps_cite : (k : Constraint) (at : ℕ × ℕ) (s : ArgumentState) (values : List ℕ) → AllBefore s.number s.gone → StepsCiteEarlier k at s (steps_in k s.number at s.gone values)
steps_cite k at s [] h = tt
steps_cite k at s (a ∷ values) h = from_cite k at s (taken s.number at.1 s.gone a) (a ∷ []) values (begins k.tuples (points_in k) at.0 at.1 s.number a s.gone h)

-- ---- from part to part

-- what is gone now, and in each case to come
record IsEarly (n : ℕ) (gone : Gone) (later : List Case) : Type 0 where
  pub now : AllBefore n gone
  pub then : AllByRecursion (λ c. AllBefore n c.gone) later

abbrev IsEarlyState : ArgumentState → Type 0
IsEarlyState s = IsEarly s.number s.gone s.later

abbrev IsEarlyIf : Option ArgumentState → Type 0
IsEarlyIf None = ⊤
IsEarlyIf (Some s) = IsEarlyState s

later_more : (n : ℕ) (later : List Case) → AllByRecursion (λ c. AllBefore n c.gone) later → AllByRecursion (λ c. AllBefore (suc n) c.gone) later
later_more n later h = each_weaker (λ c. AllBefore n c.gone) (λ c. AllBefore (suc n) c.gone) (λ c. gone_more n c.gone) later h

step_early : (k : Constraint) (at : ℕ × ℕ) (s : ArgumentState) (values : List ℕ) → IsEarlyState s → IsEarlyState (after_step k at s values)
step_early k at s values h = record {
  now = taking_before k.tuples (points_in k) s.number at.0 at.1 (record { gone = s.gone; reasons = [] }) values (gone_more s.number s.gone h.now);
  then = later_more s.number s.later h.then;
}

steps_early : (k : Constraint) (at : ℕ × ℕ) (s : ArgumentState) (steps : List (List ℕ)) → IsEarlyState s → IsEarlyState (fold (after_step k at) s steps)
steps_early k at s [] h = h
steps_early k at s (values ∷ steps) h = steps_early k at (after_step k at s values) steps (step_early k at s values h)

entered_early : (n : ℕ) (later : List Case) → AllByRecursion (λ c. AllBefore n c.gone) later → IsEarlyIf (entered n later)
entered_early n [] h = tt
entered_early n (x ∷ later) h = record { now = h.0; then = h.1 }

cases_early : (n depth : ℕ) (all : List ℕ) (gone : Gone) (v : ℕ) (values : List ℕ) → AllBefore n gone → AllByRecursion (λ c. AllBefore n c.gone) (map (case_of all depth gone v) values)
cases_early n depth all gone v [] h = tt
cases_early n depth all gone v (a ∷ values) h = (with_before n gone v (map in_this_case others) h (supposed_away others), cases_early n depth all gone v values h)
  where
    others : List ℕ
    others = filter (λ b. not (b == a)) (left_at all gone v)

    supposed_away : (bs : List ℕ) → AllByRecursion (Before n) (map in_this_case bs)
    supposed_away [] = tt
    supposed_away (b ∷ bs) = (tt, supposed_away bs)

after_early : (p : Problem) (s : ArgumentState) (part : Part) → IsEarlyState s → IsEarlyIf (after p s part)
after_early p s (takes e c values) h = by (place_of 0 c (constraint_at p e).scope)
  where
    by : (at : Option (ℕ × ℕ)) → IsEarlyState (after_taking p s e values at)
    by None = h
    by (Some at) = steps_early (constraint_at p e) at s (steps_in (constraint_at p e) s.number at s.gone values) h
after_early p s (closes v) h = entered_early s.number s.later h.then
after_early p s (splits v) h =
    let depth = min (suc s.depth) deepest in
    let cases = cases_early (suc s.number) depth p.values s.gone v (left_at p.values s.gone v) (gone_more s.number s.gone h.now) in
    entered_early (suc s.number) (cases_at p.values s v ++ s.later) (each_append (λ c. AllBefore (suc s.number) c.gone) (cases_at p.values s v) s.later cases (later_more s.number s.later h.then))

part_cites : (p : Problem) (s : ArgumentState) (part : Part) → IsEarlyState s → PartCitesEarlier p s part
part_cites p s (takes e c values) h = by (place_of 0 c (constraint_at p e).scope)
  where
    by : (at : Option (ℕ × ℕ)) → TakingCitesEarlier p s e values at
    by None = tt
    by (Some at) = steps_cite (constraint_at p e) at s values h.now
part_cites p s (closes v) h = tt
part_cites p s (splits v) h = tt

parts_cite : (p : Problem) (s : Option ArgumentState) (parts : List Part) → IsEarlyIf s → PartsCiteEarlier p s parts
parts_cite p None parts h = tt
parts_cite p (Some s) [] h = tt
parts_cite p (Some s) (part ∷ parts) h = (part_cites p s part h, parts_cite p (after p s part) parts (after_early p s part h))

nothing_before : (n points : ℕ) → AllBefore n (replicate points [])
nothing_before n zero = tt
nothing_before n (suc points) = (tt, nothing_before n points)

pub each_cites_earlier : EachStepCitesEarlierSteps
each_cites_earlier p ls = parts_cite p (Some (start p)) (parts_of ls) (record { now = nothing_before 1 p.points; then = tt })
