-- A part in steps.
use Rattle.std.proofs.Common.{◌≡◌, ℕ, suc, ◌+◌, ◌<◌, ◌≤◌, ◌++◌, List, [], ◌∷◌, Bool, true, false, cond, Option, Some, None, fold, map, length, get_or, take, drop, append_assoc, take_all, sym, ap, ◌∙◌, arith}
use Rattle.std.proofs.lemmas.List.{drop_all, drop_more, take_more}
use Rattle.wf_model.specs.Task.{Tuple}
use Rattle.wf_model.specs.Problem.{Problem, Constraint, constraint_at}
use Rattle.wf_report_explain.specs.Words.Text.{NamedExecutions, points_in}
use Rattle.wf_report_explain.specs.Argument.ArgumentState.{Gone, ArgumentState, after_step, after_taking, cites_itself, in_steps, steps_from, steps_in, take_each, taken}
use Rattle.wf_report_explain.specs.Argument.Text.{steps_text, taking_steps, taking_text, told_taking}

-- ---- one step

module _ (tuples : List Tuple) (points : List ℕ) (place v : ℕ) where
  -- it has its first value
  pub begun : (n : ℕ) (gone gone' : Gone) (values : List ℕ) → 0 < length values → gone' ≡ taken n v gone (get_or values 0 0) → steps_from tuples points n place v gone' (take 1 values) (drop 1 values) ≡ in_steps tuples points n place v gone values
  begun n gone gone' [] some is = absurd (omega (arith, some))
  begun n gone gone' (a ∷ values) some is = ap (λ gone. steps_from tuples points n place v gone (a ∷ []) values) is

  module _ (n : ℕ) (gone : Gone) (values : List ℕ) (i : ℕ) (whole : List (List ℕ)) where
    -- what it has so far, and the next value
    next_value : i < length values → steps_from tuples points n place v gone (take i values) (drop i values) ≡ whole → steps_from tuples points n place v gone (take i values) (get_or values i 0 ∷ drop (i + 1) values) ≡ whole
    next_value inside told = ap (steps_from tuples points n place v gone (take i values)) (sym (drop_more values i 0 inside)) ∙ told

    -- it has one value more
    pub one_more : (gone' : Gone) → i < length values → cites_itself tuples points n place gone (get_or values i 0) ≡ false → gone' ≡ taken n v gone (get_or values i 0)
        → steps_from tuples points n place v gone (take i values) (drop i values) ≡ whole → steps_from tuples points n place v gone' (take (i + 1) values) (drop (i + 1) values) ≡ whole
    one_more gone' inside free is told =
        let a = get_or values i 0 in let rest = drop (i + 1) values in
        let ends = take i values ∷ steps_from tuples points (suc n) place v (taken (suc n) v gone a) (a ∷ []) rest in
        let goes = steps_from tuples points n place v (taken n v gone a) (take i values ++ a ∷ []) rest in
        (λ j. steps_from tuples points n place v (is j) (take_more values i 0 inside j) rest)
        ∙ ap (λ t. cond t ends goes) (sym free)
        ∙ next_value inside told

    -- it ends before a value
    pub ended : i < length values → cites_itself tuples points n place gone (get_or values i 0) ≡ true → steps_from tuples points n place v gone (take i values) (drop i values) ≡ whole
        → whole ≡ take i values ∷ in_steps tuples points (suc n) place v gone (drop i values)
    ended inside cited told =
        let a = get_or values i 0 in let rest = drop (i + 1) values in
        let ends = take i values ∷ steps_from tuples points (suc n) place v (taken (suc n) v gone a) (a ∷ []) rest in
        let goes = steps_from tuples points n place v (taken n v gone a) (take i values ++ a ∷ []) rest in
        sym (next_value inside told)
        ∙ ap (λ t. cond t ends goes) cited
        ∙ ap (λ vs. take i values ∷ in_steps tuples points (suc n) place v gone vs) (sym (drop_more values i 0 inside))

    -- it has all values
    pub all_taken : (count : ℕ) → length values ≤ i → length values ≤ count → steps_from tuples points n place v gone (take i values) (drop i values) ≡ whole
        → whole ≡ take count values ∷ in_steps tuples points (suc n) place v gone (drop count values)
    all_taken count past beyond told =
        sym told
        ∙ ap (steps_from tuples points n place v gone (take i values)) (drop_all i values past)
        ∙ ap (λ vs. vs ∷ []) (take_all i values past ∙ sym (take_all count values beyond))
        ∙ ap (λ vs. take count values ∷ in_steps tuples points (suc n) place v gone vs) (sym (drop_all count values beyond))

-- ---- step by step

module _ (p : Problem) (s s' : ArgumentState) (e count : ℕ) (at : ℕ × ℕ) (values : List ℕ) where
  abbrev k : Constraint
  k = constraint_at p e

  -- the values are those of a step and of others, and the step was taken
  pub record IsStep : Type 0 where
    pub steps : steps_in k s.number at s.gone values ≡ take count values ∷ steps_in k (suc s.number) at s'.gone (drop count values)
    pub is : s' ≡ after_step k at s (take count values)

  pub is_step : (place v : ℕ) (points : List ℕ) (tuples : List Tuple) → at ≡ (place, v) → points ≡ points_in k → tuples ≡ k.tuples
      → in_steps tuples points s.number place v s.gone values ≡ take count values ∷ in_steps tuples points (suc s.number) place v s'.gone (drop count values)
      → s' ≡ record s { number = suc s.number; gone = (take_each tuples points s.number place v s.gone (take count values)).gone } → IsStep
  is_step place v points tuples there points_are tuples_are split is = record {
    steps =
        (λ i. in_steps (sym tuples_are i) (sym points_are i) s.number (there i).0 (there i).1 s.gone values)
        ∙ split
        ∙ (λ i. take count values ∷ in_steps (tuples_are i) (points_are i) (suc s.number) (sym there i).0 (sym there i).1 s'.gone (drop count values));
    is = is ∙ (λ i. record s { number = suc s.number; gone = (take_each (tuples_are i) (points_are i) s.number (sym there i).0 (sym there i).1 s.gone (take count values)).gone });
  }

  pub told_step : (es : NamedExecutions) (t t' : List ℕ) → IsStep → t' ≡ t ++ taking_text p es s e (take count values) at
      → t' ++ told_taking p es s' e (drop count values) (Some at) ≡ t ++ told_taking p es s e values (Some at)
  told_step es t t' h told =
      let number = ap (λ (s : ArgumentState). s.number) h.is in
      let here = taking_text p es s e (take count values) at in
      (λ i. told i ++ told_taking p es s' e (drop count values) (Some at))
      ∙ append_assoc t here (told_taking p es s' e (drop count values) (Some at))
      ∙ (λ i. t ++ (here ++ steps_text p es (h.is i) e at (steps_in k (number i) at s'.gone (drop count values))))
      ∙ ap (λ steps. t ++ steps_text p es s e at steps) (sym h.steps)

  pub state_step : IsStep → after_taking p s' e (drop count values) (Some at) ≡ after_taking p s e values (Some at)
  state_step h =
      let number = ap (λ (s : ArgumentState). s.number) h.is in
      (λ i. fold (after_step k at) (h.is i) (steps_in k (number i) at s'.gone (drop count values)))
      ∙ ap (fold (after_step k at) s) (sym h.steps)

-- ---- how many steps

module _ (tuples : List Tuple) (points : List ℕ) (place v : ℕ) where
  few_from : (n : ℕ) (gone : Gone) (so_far values : List ℕ) → length (steps_from tuples points n place v gone so_far values) ≤ length values + 1
  few_from n gone so_far [] = omega arith
  few_from n gone so_far (a ∷ values) =
      by (cites_itself tuples points n place gone a) (steps_from tuples points (suc n) place v (taken (suc n) v gone a) (a ∷ []) values) (steps_from tuples points n place v (taken n v gone a) (so_far ++ a ∷ []) values)
      (few_from (suc n) (taken (suc n) v gone a) (a ∷ []) values) (few_from n (taken n v gone a) (so_far ++ a ∷ []) values)
    where
      by : (t : Bool) (ends goes : List (List ℕ)) → length ends ≤ length values + 1 → length goes ≤ length values + 1 → length (cond t (so_far ∷ ends) goes) ≤ suc (length values) + 1
      by true ends goes few_ends few_goes = omega (arith, few_ends)
      by false ends goes few_ends few_goes = omega (arith, few_goes)

  few_in : (n : ℕ) (gone : Gone) (values : List ℕ) → length (in_steps tuples points n place v gone values) ≤ length values
  few_in n gone [] = omega arith
  few_in n gone (a ∷ values) = omega (arith, few_from n (taken n v gone a) (a ∷ []) values)

counted : (k : Constraint) (at : ℕ × ℕ) (s : ArgumentState) (steps : List (List ℕ)) → (fold (after_step k at) s steps).number ≡ s.number + length steps
counted k at s [] = omega arith
counted k at s (values ∷ steps) = omega (arith, counted k at (after_step k at s values) steps)

-- the steps of a part have numbers of their own
pub numbered : (p : Problem) (s : ArgumentState) (e : ℕ) (values : List ℕ) (at : Option (ℕ × ℕ)) → (after_taking p s e values at).number ≡ s.number + taking_steps p s e values at
numbered p s e values None = omega arith
numbered p s e values (Some at) = counted (constraint_at p e) at s (steps_in (constraint_at p e) s.number at s.gone values)

pub few_steps : (p : Problem) (s : ArgumentState) (e : ℕ) (values : List ℕ) (at : Option (ℕ × ℕ)) → taking_steps p s e values at ≤ length values
few_steps p s e values None = omega arith
few_steps p s e values (Some at) = let k = constraint_at p e in few_in k.tuples (map (λ at. at.1) k.scope) at.0 at.1 s.number s.gone values
