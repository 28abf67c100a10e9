-- What follows by unit propagation is entailed, and a clause that is RAT may be added.
use Rattle.std.proofs.Common.{◌≡◌, ℕ, ◌<◌, zero, suc, Bool, true, false, List, [], ◌∷◌, ◌++◌, refl, sym, ◌∙◌, ap, subst, arith, length, map, get_or, inl, inr}
use Rattle.std.specs.Prelude.{◌⊎◌, ◌==◌, ◌||◌, not, if◌then◌else◌}
use Rattle.std.specs.List.{Contains}
use Rattle.std.proofs.lemmas.Bool.{cases_Bool, cases_eq, false≢true}
use Rattle.std.proofs.lemmas.Grind.{common_steps}
use Rattle.std.proofs.lemmas.List.Elements.{All-contains, All-contains_itself, Contains-append_cases}
use Rattle.std.proofs.lemmas.List.Folds.{list_any-append, list_any_at}
use Rattle.wf_sat_text.specs.Clauses.Formula.{Assignment, Clause, Literal, holds, neg, negation, pos, satisfies, variable_of}
use Rattle.wf_sat_text.specs.Drat.Codes.{code_of, literal_of}
use Rattle.wf_sat_check.specs.Rup.Laws.{WhatFollowsIsEntailed, WhatIsJustifiedIsRedundant}
use Rattle.wf_sat_check.specs.Rup.Rat.{IsKnownClause, IsRat, IsRedundant, resolvent, without}
use Rattle.wf_sat_check.specs.Rup.Seen.{IsModelOf, Known}
use Rattle.wf_sat_check.specs.Rup.Unit.{HasConflict, IsForcedBy, given, last}
use Rattle.wf_sat_check.proofs.OfRup.LiteralLemmas.{literal_of-code_of}
use Rattle.wf_sat_check.proofs.OfStore.Lemmas.{other_test, same_test}
use Rattle.wf_sat_check.proofs.OfRup.UnitLemmas.{Contains-of_image}

-- ---- literals

same-or_not : (l m : Literal) → (l ≡ m) ⊎ (l ≡ m → ⊥)
same-or_not l m = elim (cases_eq (code_of l) (code_of m)) [
  | inl same ↦ inl (sym (literal_of-code_of l) ∙ ap literal_of same ∙ literal_of-code_of m)
  | inr other ↦ inr (λ e. other (ap code_of e))
]

negation-holds : (a : Assignment) (l : Literal) → holds a l ≡ false → holds a (negation l) ≡ true
negation-holds a (pos v) h = ap not h
negation-holds a (neg v) h = elim (cases_Bool (a v)) [ inl sure ↦ sure | inr never ↦ absurd (false≢true (sym h ∙ ap not never)) ]

never-both : (a : Assignment) (l : Literal) → holds a l ≡ true → holds a (negation l) ≡ true → ⊥
never-both a (pos v) h g = false≢true (sym (ap not h) ∙ g)
never-both a (neg v) h g = false≢true (sym (ap not g) ∙ h)

abbrev Holds : Assignment → Clause → Type 0
Holds a clause = (l : Literal) × Contains clause l × (holds a l ≡ true)

one-holds : (a : Assignment) (clause : Clause) → satisfies a clause ≡ true → Holds a clause
one-holds a [] h = absurd (false≢true h)
one-holds a (l ∷ ls) h = elim (cases_Bool (holds a l)) [
  | inl here ↦ let first : 0 < length (l ∷ ls) = omega arith in (l, (0, first, refl), here)
  | inr never ↦
      let rest = one-holds a ls (grind (arith, common_steps, h, never)) in
      let there : Contains ls rest.0 = rest.1 in
      let within : there.0 < length ls = there.1 in
      let deeper : suc there.0 < length (l ∷ ls) = omega arith in
      (rest.0, (suc there.0, deeper, there.2), rest.2)
]

none-holds : (a : Assignment) (clause : Clause) (l : Literal) → satisfies a clause ≡ false → Contains clause l → holds a l ≡ false
none-holds a clause l fails here = elim (cases_Bool (holds a l)) [
  | inr never ↦ never
  | inl sure ↦ absurd (false≢true (sym fails ∙ list_any_at (holds a) clause here.0 l here.1 (ap (holds a) here.2 ∙ sure)))
]

-- ---- unit propagation

module _ (known : Known) (clause : Clause) (a : Assignment) (model : IsModelOf a known) (fails : satisfies a clause ≡ false) where
  assumed-holds : (l : Literal) → Contains (known.literals ++ map negation clause) l → holds a l ≡ true
  assumed-holds l here = elim (Contains-append_cases known.literals (map negation clause) l here) [
    | inl there ↦ All-contains (λ x. holds a x ≡ true) known.literals l model.literals there
    | inr there ↦
        let one : (m : Literal) × Contains clause m × (negation m ≡ l) = Contains-of_image negation clause l there in
        subst (λ x. holds a x ≡ true) one.2 (negation-holds a one.0 (none-holds a clause one.0 fails one.1))
  ]

  forced-holds : (l : Literal) → IsForcedBy known.clauses (known.literals ++ map negation clause) l → holds a l ≡ true
  forced-holds l (given m here) = assumed-holds m here
  forced-holds l (last c m here inside others) =
      let one : Holds a c = one-holds a c (All-contains (λ x. satisfies a x ≡ true) known.clauses c model.clauses here) in
      elim (same-or_not one.0 m) [
        | inl same ↦ subst (λ x. holds a x ≡ true) same one.2
        | inr other ↦ absurd (never-both a one.0 one.2 (forced-holds (negation one.0) (others one.0 one.1 other)))
      ]

  no-conflict : HasConflict known.clauses (known.literals ++ map negation clause) → ⊥
  no-conflict (inl (c, here, each)) =
      let one : Holds a c = one-holds a c (All-contains (λ x. satisfies a x ≡ true) known.clauses c model.clauses here) in
      never-both a one.0 one.2 (forced-holds (negation one.0) (each one.0 one.1))
  no-conflict (inr (l, one, other)) = never-both a l (forced-holds l one) (forced-holds (negation l) other)

pub what_follows : WhatFollowsIsEntailed
what_follows known clause (inl refuted) a model = absurd (false≢true (sym model.unrefuted ∙ refuted))
what_follows known clause (inr conflict) a model = elim (cases_Bool (satisfies a clause)) [
  | inl sure ↦ sure
  | inr fails ↦ absurd (no-conflict known clause a model fails conflict)
]

-- ---- RAT

-- the assignment that is changed at a literal's variable, so that the literal holds
abbrev with_literal : Assignment → Literal → Assignment
with_literal a (pos v) = λ n. if n == v then true else a n
with_literal a (neg v) = λ n. if n == v then false else a n

holds-it : (a : Assignment) (p : Literal) → holds (with_literal a p) p ≡ true
holds-it a (pos v) = ap (λ b. if b then true else a v) (same_test v v refl)
holds-it a (neg v) = ap (λ b. not (if b then false else a v)) (same_test v v refl)

apart : (a : Assignment) (p : Literal) (n : ℕ) → (n ≡ variable_of p → ⊥) → with_literal a p n ≡ a n
apart a (pos v) n other = ap (λ b. if b then true else a n) (other_test n v other)
apart a (neg v) n other = ap (λ b. if b then false else a n) (other_test n v other)

of-variable : (l p : Literal) → variable_of l ≡ variable_of p → (l ≡ p) ⊎ (l ≡ negation p)
of-variable (pos v) (pos w) e = inl (ap pos e)
of-variable (pos v) (neg w) e = inr (ap pos e)
of-variable (neg v) (pos w) e = inr (ap neg e)
of-variable (neg v) (neg w) e = inl (ap neg e)

holds-apart : (a : Assignment) (p l : Literal) → (variable_of l ≡ variable_of p → ⊥) → holds a l ≡ true → holds (with_literal a p) l ≡ true
holds-apart a p (pos v) other h = apart a p v other ∙ h
holds-apart a p (neg v) other h = ap not (apart a p v other) ∙ h

-- each other literal than the negation holds still
holds-still : (a : Assignment) (p l : Literal) → (l ≡ negation p → ⊥) → holds a l ≡ true → holds (with_literal a p) l ≡ true
holds-still a p l other h = elim (cases_eq (variable_of l) (variable_of p)) [
  | inr different ↦ holds-apart a p l different h
  | inl same ↦ elim (of-variable l p same) [
    | inl it ↦ subst (λ x. holds (with_literal a p) x ≡ true) (sym it) (holds-it a p)
    | inr negated ↦ absurd (other negated)
  ]
]

satisfied-by : (a : Assignment) (clause : Clause) (l : Literal) → Contains clause l → holds a l ≡ true → satisfies a clause ≡ true
satisfied-by a clause l here h = list_any_at (holds a) clause here.0 l here.1 (ap (holds a) here.2 ∙ h)

or-late : (x y : Bool) → x ≡ false → (x || y) ≡ true → y ≡ true
or-late true y none h = absurd (false≢true (sym none))
or-late false y none h = h

in-later : {X : Type 0} (x y : X) (ys : List X) → Contains ys x → Contains (y ∷ ys) x
in-later x y ys (k, within, e) = let deeper : suc k < length (y ∷ ys) = omega (arith, within) in (suc k, deeper, e)

in-first : {X : Type 0} (x : X) (xs : List X) → Contains (x ∷ xs) x
in-first x xs = let first : 0 < length (x ∷ xs) = omega arith in (0, first, refl)

record HoldsApart (a : Assignment) (l : Literal) (clause : Clause) : Type 0 where
  literal : Literal
  inside : Contains clause literal
  other : literal ≡ l → ⊥
  is : holds a literal ≡ true

later-apart : (a : Assignment) (l x : Literal) (xs : Clause) → HoldsApart a l xs → HoldsApart a l (x ∷ xs)
later-apart a l x xs one = record { literal = one.literal; inside = in-later one.literal x xs one.inside; other = one.other; is = one.is }

-- a clause without a literal is satisfied by another literal
without-holds : (a : Assignment) (l : Literal) (clause : Clause) → satisfies a (without l clause) ≡ true → HoldsApart a l clause
without-holds a l [] h = absurd (false≢true h)
without-holds a l (x ∷ xs) h = elim (cases_eq (code_of x) (code_of l)) [
  | inl same ↦ later-apart a l x xs (without-holds a l xs
      (sym (ap (λ b. satisfies a (if not b then x ∷ without l xs else without l xs)) (same_test (code_of x) (code_of l) same)) ∙ h))
  | inr other ↦
      let kept : satisfies a (x ∷ without l xs) ≡ true =
      sym (ap (λ b. satisfies a (if not b then x ∷ without l xs else without l xs)) (other_test (code_of x) (code_of l) other)) ∙ h in
      elim (cases_Bool (holds a x)) [
        | inl here ↦ record { literal = x; inside = in-first x xs; other = λ e. other (ap code_of e); is = here }
        | inr never ↦ later-apart a l x xs (without-holds a l xs (or-late (holds a x) (satisfies a (without l xs)) never kept))
      ]
]

alone : (l m : Literal) → Contains (l ∷ []) m → (m ≡ l → ⊥) → ⊥
alone l m (zero, within, e) other = other (sym e)
alone l m (suc k, within, e) other = absurd (omega (arith, within))

module _ (known : Known) (p : Literal) (others : Clause) (rat : IsRat known (p ∷ others)) (a : Assignment) (model : IsModelOf a known) (fails : satisfies a (p ∷ others) ≡ false) where
  abbrev b : Assignment
  b = with_literal a p

  -- of a known clause with the negation another literal holds
  resolved : (clause : Clause) → IsKnownClause known clause → Contains clause (negation p) → HoldsApart a (negation p) clause
  resolved clause here inside =
      let rest = without (negation p) clause in
      let both : satisfies a ((p ∷ others) ++ rest) ≡ true =
      what_follows known (resolvent (p ∷ others) p clause) (rat clause here inside) a model in
      without-holds a (negation p) clause
      (or-late (satisfies a (p ∷ others)) (satisfies a rest) fails (sym (list_any-append (holds a) (p ∷ others) rest) ∙ both))

  unit-apart : (l : Literal) → Contains known.literals l → l ≡ negation p → ⊥
  unit-apart l here same =
      let there : Contains known.literals (negation p) = subst (Contains known.literals) same here in
      let one = resolved (negation p ∷ []) (inr (negation p, there, refl)) (in-first (negation p) []) in
      alone (negation p) one.literal one.inside one.other

  literal-holds : (l : Literal) → Contains known.literals l → holds b l ≡ true
  literal-holds l here = holds-still a p l (unit-apart l here) (All-contains (λ x. holds a x ≡ true) known.literals l model.literals here)

  clause-holds : (clause : Clause) → Contains known.clauses clause → satisfies b clause ≡ true
  clause-holds clause here =
      let one : Holds a clause = one-holds a clause (All-contains (λ x. satisfies a x ≡ true) known.clauses clause model.clauses here) in
      elim (same-or_not one.0 (negation p)) [
        | inr other ↦ satisfied-by b clause one.0 one.1 (holds-still a p one.0 other one.2)
        | inl same ↦
            let two = resolved clause (inl here) (subst (Contains clause) same one.1) in
            satisfied-by b clause two.literal two.inside (holds-still a p two.literal two.other two.is)
      ]

  model-changed : IsModelOf b known
  model-changed = record {
    literals = λ k d within. literal-holds (get_or known.literals k d) (All-contains_itself known.literals k d within);
    clauses = λ k d within. clause-holds (get_or known.clauses k d) (All-contains_itself known.clauses k d within);
    unrefuted = model.unrefuted;
  }

rat-redundant : (known : Known) (clause : Clause) → IsRat known clause → IsRedundant known clause
rat-redundant known [] never a model = absurd never
rat-redundant known (p ∷ others) rat a model = elim (cases_Bool (satisfies a (p ∷ others))) [
  | inl sure ↦ (a, model, sure)
  | inr fails ↦ (
    with_literal a p,
    model-changed known p others rat a model fails,
    satisfied-by (with_literal a p) (p ∷ others) p (in-first p others) (holds-it a p),
  )
]

pub what_is_justified : WhatIsJustifiedIsRedundant
what_is_justified known clause (inl follows) a model = (a, model, what_follows known clause follows a model)
what_is_justified known clause (inr rat) a model = rat-redundant known clause rat a model
