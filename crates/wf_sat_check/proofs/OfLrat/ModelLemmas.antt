-- Laws of models: what a conflict by hints means.
use Rattle.std.proofs.Common.{◌≡◌, ℕ, ◌+◌, ◌-◌, ◌<◌, suc, Bool, true, false, List, [], ◌∷◌, ◌++◌, refl, sym, ◌∙◌, ap, subst, arith, drop, length, get_or, set, replicate, map, inl, inr}
use Rattle.std.specs.Prelude.{◌==◌, ◌||◌, ◌&&◌, cond, not, if◌then◌else◌, Option, Some, None, Result, Ok, Err, IfOk, OnErr}
use Rattle.std.specs.List.{All, list_all, list_any}
use Rattle.std.proofs.Math.Bool.{not-not}
use Rattle.std.proofs.lemmas.Bool.{cases_Bool, cases_lt, false≢true}
use Rattle.std.proofs.lemmas.List.{get_or_past, get_or-replicate, length-replicate}
use Rattle.std.proofs.lemmas.Grind.{common_steps}
use Rattle.std.proofs.lemmas.List.Elements.{All-append, All-cons, All-map, All-nil, All-push, All-set}
use Rattle.wf_sat_text.specs.Clauses.Formula.{Assignment, Clause, Formula, Literal, SatisfiesAll, holds, neg, negation, pos, satisfies}
use Rattle.wf_sat_text.specs.Drat.Codes.{code_of, literal_of}
use Rattle.wf_sat_text.specs.declared.lrat.reader.Hint.{Hint}
use Rattle.wf_sat_check.specs.Lrat.Hints.{Followed, after_verdict, and_then, behind_group, by_candidate, by_followed, by_hint, by_open, by_pivot, by_resolvent, followed, goes_on, has_literal, is_group_of, is_next_id, is_on, is_tautology, next_group, open_literals, others_in, others_than, resolved, stops, to_conflict, verdict_by, verdict_of, with_false, with_true, without_groups}
use Rattle.wf_sat_check.specs.Lrat.Ledger.{Ledger, deleted, emptied, emptied_each, is_empty_clause, learned, slot_of}
use Rattle.wf_sat_check.specs.Lrat.Models.{HasNoModel, IsModelOf, IsRedundant, IsSatisfied, KeepsModels, KeepsSatisfiable, RefutesFormula}
use Rattle.wf_sat_check.specs.declared.lrat.verdict.LratVerdict.{LratVerdict}
use Rattle.wf_sat_check.specs.declared.lrat.verdict.LratVerdict.TheVariants.{Conflict, NoConflict, UnknownHint, ClauseLeftOut, IdOutOfRange}
use Rattle.wf_sat_check.proofs.OfLrat.LiteralLemmas.{literal_of-code_of}

-- each literal of the list holds
abbrev pub hold : Assignment → List Literal → Bool
hold a ls = list_all (holds a) ls

-- ---- booleans

and_left : (x y : Bool) → (x && y) ≡ true → x ≡ true
and_left true y h = refl
and_left false y h = absurd (false≢true h)

and_right : (x y : Bool) → (x && y) ≡ true → y ≡ true
and_right true y h = h
and_right false y h = absurd (false≢true h)

and_both : (x y : Bool) → x ≡ true → y ≡ true → (x && y) ≡ true
and_both true y p q = q
and_both false y p q = absurd (false≢true p)

or_left : (x y : Bool) → x ≡ true → (x || y) ≡ true
or_left true y h = refl
or_left false y h = absurd (false≢true h)

or_right : (x y : Bool) → y ≡ true → (x || y) ≡ true
or_right true y h = refl
or_right false y h = h

or_other : (x y : Bool) → x ≡ false → (x || y) ≡ true → y ≡ true
or_other true y off h = absurd (false≢true (sym off))
or_other false y off h = h

or_last : (x : Bool) → (x || false) ≡ true → x ≡ true
or_last true h = refl
or_last false h = h

or_none : (x y : Bool) → x ≡ false → y ≡ false → (x || y) ≡ false
or_none true y p q = absurd (false≢true (sym p))
or_none false y p q = q

neither_left : (x y : Bool) → (x || y) ≡ false → x ≡ false
neither_left true y h = h
neither_left false y h = refl

neither_right : (x y : Bool) → (x || y) ≡ false → y ≡ false
neither_right true y h = absurd (false≢true (sym h))
neither_right false y h = h

not_off : (x : Bool) → not x ≡ true → x ≡ false
not_off true h = absurd (false≢true h)
not_off false h = refl

on_not : (x : Bool) → x ≡ false → not x ≡ true
on_not true h = absurd (false≢true (sym h))
on_not false h = refl

-- ---- literals

same_of_test : (m n : ℕ) → (m == n) ≡ true → m ≡ n
same_of_test m n h = grind (arith, h)

holds-negation : (a : Assignment) (l : Literal) → holds a (negation l) ≡ not (holds a l)
holds-negation a (pos n) = refl
holds-negation a (neg n) = sym (not-not (a n))

-- a literal on the trail holds where each does
on_holds : (a : Assignment) (trail : List Literal) (l : Literal) → hold a trail ≡ true → is_on trail l ≡ true → holds a l ≡ true
on_holds a [] l all here = absurd (false≢true here)
on_holds a (m ∷ ms) l all here = elim (cases_Bool (code_of m == code_of l)) [
  | inl this ↦
      let same : m ≡ l = sym (literal_of-code_of m) ∙ ap literal_of (same_of_test (code_of m) (code_of l) this) ∙ literal_of-code_of l in
      ap (holds a) (sym same) ∙ and_left (holds a m) (hold a ms) all
  | inr other ↦ on_holds a ms l (and_right (holds a m) (hold a ms) all) (or_other (code_of m == code_of l) (is_on ms l) other here)
]

hold-push : (a : Assignment) (trail : List Literal) (l : Literal) → hold a trail ≡ true → holds a l ≡ true → hold a (trail ++ l ∷ []) ≡ true
hold-push a [] l all here = and_both (holds a l) true here refl
hold-push a (m ∷ ms) l all here =
    and_both (holds a m) (hold a (ms ++ l ∷ [])) (and_left (holds a m) (hold a ms) all) (hold-push a ms l (and_right (holds a m) (hold a ms) all) here)

hold-either : (a : Assignment) (trail more : List Literal) (b : Bool) → hold a trail ≡ true → hold a more ≡ true → hold a (if b then trail else more) ≡ true
hold-either a trail more true all other = all
hold-either a trail more false all other = other

hold-with : (a : Assignment) (trail : List Literal) (l : Literal) → hold a trail ≡ true → holds a l ≡ true → hold a (with_true trail l) ≡ true
hold-with a trail l all here = hold-either a trail (trail ++ l ∷ []) (is_on trail l) all (hold-push a trail l all here)

-- where a clause is not satisfied either, its literals may be taken for false
hold-false : (a : Assignment) (trail : List Literal) (clause : Clause) → hold a trail ≡ true → satisfies a clause ≡ false → hold a (with_false trail clause) ≡ true
hold-false a trail [] all none = all
hold-false a trail (l ∷ ls) all none =
    hold-false a (with_true trail (negation l)) ls
    (hold-with a trail (negation l) all (holds-negation a l ∙ on_not (holds a l) (neither_left (holds a l) (satisfies a ls) none)))
    (neither_right (holds a l) (satisfies a ls) none)

-- where a clause is not satisfied, the negation of each of its literals holds
hold-negations : (a : Assignment) (clause : Clause) → satisfies a clause ≡ false → hold a (map negation clause) ≡ true
hold-negations a [] none = refl
hold-negations a (l ∷ ls) none =
    and_both (holds a (negation l)) (hold a (map negation ls))
    (holds-negation a l ∙ on_not (holds a l) (neither_left (holds a l) (satisfies a ls) none))
    (hold-negations a ls (neither_right (holds a l) (satisfies a ls) none))

-- a clause with a literal on the trail is satisfied
any_on : (a : Assignment) (trail : List Literal) → hold a trail ≡ true → (clause : Clause) → list_any (is_on trail) clause ≡ true → satisfies a clause ≡ true
any_on a trail all [] some = some
any_on a trail all (l ∷ ls) some = elim (cases_Bool (is_on trail l)) [
  | inl on ↦ or_left (holds a l) (satisfies a ls) (on_holds a trail l all on)
  | inr off ↦ or_right (holds a l) (satisfies a ls) (any_on a trail all ls (or_other (is_on trail l) (list_any (is_on trail) ls) off some))
]

-- a clause that is satisfied is so by one of its open literals
open_satisfied : (a : Assignment) (trail : List Literal) → hold a trail ≡ true → (clause : Clause) → satisfies a clause ≡ true → satisfies a (open_literals trail clause) ≡ true
open_satisfied a trail all [] some = some
open_satisfied a trail all (l ∷ ls) some = elim (cases_Bool (is_on trail (negation l))) [
  | inl on ↦
      let false_here : holds a l ≡ false = not_off (holds a l) (sym (holds-negation a l) ∙ on_holds a trail (negation l) all on) in
      ap (λ b. satisfies a (cond (not b) (l ∷ open_literals trail ls) (open_literals trail ls))) on
      ∙ open_satisfied a trail all ls (or_other (holds a l) (satisfies a ls) false_here some)
  | inr off ↦
      ap (λ b. satisfies a (cond (not b) (l ∷ open_literals trail ls) (open_literals trail ls))) off
      ∙ elim (cases_Bool (holds a l)) [
        | inl here ↦ or_left (holds a l) (satisfies a (open_literals trail ls)) here
        | inr not_here ↦ or_right (holds a l) (satisfies a (open_literals trail ls)) (open_satisfied a trail all ls (or_other (holds a l) (satisfies a ls) not_here some))
      ]
]

-- ---- hints

-- hints come to no conflict, and what is true behind them holds
abbrev HoldsStill : Assignment → Followed → Type 0
HoldsStill a (stops verdict) = verdict ≡ Conflict → ⊥
HoldsStill a (goes_on trail) = hold a trail ≡ true

by_open_sound : (a : Assignment) (ls trail : List Literal) (rest : List Literal → Followed) → satisfies a ls ≡ true → hold a trail ≡ true
    → ((next : List Literal) → hold a next ≡ true → HoldsStill a (rest next)) → HoldsStill a (by_open ls trail rest)
by_open_sound a [] trail rest some all go = λ e. false≢true some
by_open_sound a (l ∷ []) trail rest some all go = go (with_true trail l) (hold-with a trail l all (or_last (holds a l) some))
by_open_sound a (l ∷ m ∷ more) trail rest some all go = λ e. cc

by_hint_sound : (a : Assignment) (slot : Option Clause) (trail : List Literal) (rest : List Literal → Followed) → IsSatisfied a slot → hold a trail ≡ true
    → ((next : List Literal) → hold a next ≡ true → HoldsStill a (rest next)) → HoldsStill a (by_hint slot trail rest)
by_hint_sound a None trail rest is all go = λ e. cc
by_hint_sound a (Some clause) trail rest is all go = by_open_sound a (open_literals trail clause) trail rest (open_satisfied a trail all clause is) all go

slot_satisfied : (a : Assignment) (slots : List (Option Clause)) (id : ℕ) → All (IsSatisfied a) slots → IsSatisfied a (slot_of slots id)
slot_satisfied a slots id all = elim (cases_Bool (id == 0)) [
  | inl none ↦ subst (λ b. IsSatisfied a (if b then None else get_or slots (id - 1) None)) (sym none) tt
  | inr some ↦ subst (λ b. IsSatisfied a (if b then None else get_or slots (id - 1) None)) (sym some) (elim (cases_lt (id - 1) (length slots)) [
    | inl within ↦ all (id - 1) None within
    | inr beyond ↦ subst (IsSatisfied a) (sym (get_or_past slots (id - 1) None beyond)) tt
  ])
]

followed_sound : (a : Assignment) (slots : List (Option Clause)) → All (IsSatisfied a) slots → (hints : List Hint) (trail : List Literal) → hold a trail ≡ true
    → HoldsStill a (followed slots trail hints)
followed_sound a slots all [] trail holding = holding
followed_sound a slots all (hint ∷ hints) trail holding = elim (cases_Bool hint.is_negative) [
  | inl negative ↦ subst (λ b. HoldsStill a (if b then goes_on trail else by_hint (slot_of slots hint.id) trail (λ next. followed slots next hints))) (sym negative) holding
  | inr positive ↦ subst (λ b. HoldsStill a (if b then goes_on trail else by_hint (slot_of slots hint.id) trail (λ next. followed slots next hints))) (sym positive)
      (by_hint_sound a (slot_of slots hint.id) trail (λ next. followed slots next hints) (slot_satisfied a slots hint.id all) holding
      (λ next h. followed_sound a slots all hints next h))
]

-- ---- clauses with the negation of a lemma's first literal

no_conflict : (a : Assignment) (f : Followed) → HoldsStill a f → to_conflict f ≡ Conflict → ⊥
no_conflict a (stops verdict) still e = still e
no_conflict a (goes_on trail) still e = cc

module _ (a : Assignment) (slots : List (Option Clause)) (all : All (IsSatisfied a) slots) (trail : List Literal) (holding : hold a trail ≡ true) where
  -- where a group comes to a conflict, its clause has another literal that holds
  resolvent_sound : (others : Clause) (hints : List Hint) → by_resolvent slots trail others hints ≡ Conflict → satisfies a others ≡ true
  resolvent_sound others hints e = elim (cases_Bool (satisfies a others)) [
    | inl some ↦ some
    | inr none ↦ absurd (no_conflict a (followed slots (with_false trail others) hints)
        (followed_sound a slots all hints (with_false trail others) (hold-false a trail others holding none)) e)
  ]

  group_sound : (others : Clause) (id : ℕ) (hints : List Hint) (named : Bool)
      → (if named then by_resolvent slots trail others (drop 1 hints) else ClauseLeftOut) ≡ Conflict → satisfies a others ≡ true
  group_sound others id hints true e = resolvent_sound others (drop 1 hints) e
  group_sound others id hints false e = cc

  candidate_sound : (others : Clause) (id : ℕ) (hints : List Hint) → by_candidate slots trail others id hints ≡ Conflict → satisfies a others ≡ true
  candidate_sound others id hints e = elim (cases_Bool (list_any (is_on trail) others)) [
    | inl some ↦ any_on a trail holding others some
    | inr none ↦ group_sound others id hints (is_group_of id hints)
        (sym (ap (λ b. if b then Conflict else if is_group_of id hints then by_resolvent slots trail others (drop 1 hints) else ClauseLeftOut) none) ∙ e)
  ]

  -- a clause that has the literal has another one that holds
  abbrev HasOther : Literal → Option Clause → Type 0
  HasOther negated slot = has_literal slot negated ≡ true → satisfies a (others_in negated slot) ≡ true

  both : (v w : LratVerdict) → and_then v w ≡ Conflict → (v ≡ Conflict) × (w ≡ Conflict)
  both Conflict w e = (refl, e)
  both NoConflict w e = cc
  both UnknownHint w e = cc
  both ClauseLeftOut w e = cc
  both IdOutOfRange w e = cc

  resolved_sound : (negated : Literal) (left : List (Option Clause)) (id : ℕ) (hints : List Hint)
      → resolved slots trail negated id left hints ≡ Conflict → All (HasOther negated) left
  resolved_sound negated [] id hints e = All-nil (HasOther negated)
  resolved_sound negated (slot ∷ left) id hints e = elim (cases_Bool (has_literal slot negated)) [
    | inl has ↦
        let two = both (by_candidate slots trail (others_in negated slot) id hints) (resolved slots trail negated (id + 1) left (behind_group id hints))
        (sym (ap (λ b. if b then and_then (by_candidate slots trail (others_in negated slot) id hints) (resolved slots trail negated (id + 1) left (behind_group id hints))
        else resolved slots trail negated (id + 1) left hints) has) ∙ e) in
        All-cons (HasOther negated) slot left (λ h. candidate_sound (others_in negated slot) id hints two.0)
        (resolved_sound negated left (id + 1) (behind_group id hints) two.1)
    | inr has_not ↦
        All-cons (HasOther negated) slot left (λ h. absurd (false≢true (sym has_not ∙ h)))
        (resolved_sound negated left (id + 1) hints
        (sym (ap (λ b. if b then and_then (by_candidate slots trail (others_in negated slot) id hints) (resolved slots trail negated (id + 1) left (behind_group id hints))
        else resolved slots trail negated (id + 1) left hints) has_not) ∙ e))
  ]

-- ---- an assignment under which a literal holds

-- the assignment that is changed at a literal's variable, so that the literal holds
abbrev with_holding : Assignment → Literal → Assignment
with_holding a (pos n) = λ v. if v == n then true else a v
with_holding a (neg n) = λ v. if v == n then false else a v

holds_it : (a : Assignment) (p : Literal) → holds (with_holding a p) p ≡ true
holds_it a (pos n) = grind arith
holds_it a (neg n) = grind arith

-- each other literal than the negation holds still
holds_still : (a : Assignment) (p l : Literal) → (code_of l == code_of (negation p)) ≡ false → holds a l ≡ true → holds (with_holding a p) l ≡ true
holds_still a (pos n) (pos k) other h = grind (arith, common_steps, other, h)
holds_still a (pos n) (neg k) other h = grind (arith, common_steps, other, h)
holds_still a (neg n) (pos k) other h = grind (arith, common_steps, other, h)
holds_still a (neg n) (neg k) other h = grind (arith, common_steps, other, h)

others_satisfied : (a : Assignment) (p : Literal) (clause : Clause) → satisfies a (others_than (negation p) clause) ≡ true → satisfies (with_holding a p) clause ≡ true
others_satisfied a p [] some = some
others_satisfied a p (l ∷ ls) some = elim (cases_Bool (code_of l == code_of (negation p))) [
  | inl this ↦ or_right (holds (with_holding a p) l) (satisfies (with_holding a p) ls) (others_satisfied a p ls
      (sym (ap (λ b. satisfies a (cond (not b) (l ∷ others_than (negation p) ls) (others_than (negation p) ls))) this) ∙ some))
  | inr other ↦
      let rest : (holds a l || satisfies a (others_than (negation p) ls)) ≡ true =
      sym (ap (λ b. satisfies a (cond (not b) (l ∷ others_than (negation p) ls) (others_than (negation p) ls))) other) ∙ some in
      elim (cases_Bool (holds a l)) [
        | inl here ↦ or_left (holds (with_holding a p) l) (satisfies (with_holding a p) ls) (holds_still a p l other here)
        | inr not_here ↦ or_right (holds (with_holding a p) l) (satisfies (with_holding a p) ls)
            (others_satisfied a p ls (or_other (holds a l) (satisfies a (others_than (negation p) ls)) not_here rest))
      ]
]

all_others : (l : Literal) (clause : Clause) → is_on clause l ≡ false → others_than l clause ≡ clause
all_others l [] none = refl
all_others l (m ∷ ms) none =
    let first : (code_of m == code_of l) ≡ false = neither_left (code_of m == code_of l) (is_on ms l) none in
    ap (λ b. cond (not b) (m ∷ others_than l ms) (others_than l ms)) first ∙ ap (λ ls. m ∷ ls) (all_others l ms (neither_right (code_of m == code_of l) (is_on ms l) none))

slot_still : (a : Assignment) (p : Literal) (slot : Option Clause) → IsSatisfied a slot
    → (has_literal slot (negation p) ≡ true → satisfies a (others_in (negation p) slot) ≡ true) → IsSatisfied (with_holding a p) slot
slot_still a p None is other = tt
slot_still a p (Some clause) is other = others_satisfied a p clause (elim (cases_Bool (is_on clause (negation p))) [
  | inl has ↦ other has
  | inr has_not ↦ ap (satisfies a) (all_others (negation p) clause has_not) ∙ is
])

-- ---- a clause that is justified

module _ (l : Ledger) (a : Assignment) (model : IsModelOf a l) where
  -- a model that satisfies the clause too
  abbrev HasModelWith : Clause → Type 0
  HasModelWith clause = (b : Assignment) × IsModelOf b l × (satisfies b clause ≡ true)

  with_pivot : (p : Literal) (others : Clause) (trail : List Literal) (hints : List Hint) → hold a trail ≡ true
      → resolved l.slots trail (negation p) 1 l.slots hints ≡ Conflict → HasModelWith (p ∷ others)
  with_pivot p others trail hints holding e =
      let each = resolved_sound a l.slots model.clauses trail holding (negation p) l.slots 1 hints e in (
        with_holding a p,
        record {
          clauses = λ k d h. slot_still a p (get_or l.slots k d) (model.clauses k d h) (each k d h);
          unrefuted = model.unrefuted;
        },
        or_left (holds (with_holding a p) p) (satisfies (with_holding a p) others) (holds_it a p),
      )

  needs_none : (v : LratVerdict) → without_groups v ≡ Conflict → v ≡ Conflict
  needs_none Conflict e = refl
  needs_none NoConflict e = cc
  needs_none UnknownHint e = cc
  needs_none ClauseLeftOut e = cc
  needs_none IdOutOfRange e = cc

  by_pivot_sound : (clause : Clause) (trail : List Literal) (hints : List Hint) → hold a trail ≡ true → by_pivot l.slots trail clause hints ≡ Conflict → HasModelWith clause
  by_pivot_sound [] trail hints holding e = cc
  by_pivot_sound (p ∷ others) trail [] holding e =
      with_pivot p others trail [] holding (needs_none (resolved l.slots trail (negation p) 1 l.slots []) e)
  by_pivot_sound (p ∷ others) trail (hint ∷ hints) holding e = with_pivot p others trail (hint ∷ hints) holding e

  by_followed_sound : (f : Followed) (clause : Clause) (hints : List Hint) → HoldsStill a f → by_followed f l.slots clause hints ≡ Conflict → HasModelWith clause
  by_followed_sound (stops verdict) clause hints still e = absurd (still e)
  by_followed_sound (goes_on trail) clause hints still e = by_pivot_sound clause trail hints still e

  by_sound : (clause : Clause) (hints : List Hint) → verdict_by l.slots clause hints ≡ Conflict → HasModelWith clause
  by_sound clause hints e = elim (cases_Bool (satisfies a clause)) [
    | inl some ↦ (a, model, some)
    | inr none ↦
        elim (cases_Bool (is_tautology clause)) [
          | inl twice ↦ (a, model, any_on a (map negation clause) (hold-negations a clause none) clause twice)
          | inr apart ↦ by_followed_sound (followed l.slots (with_false [] clause) hints) clause (next_group hints)
              (followed_sound a l.slots model.clauses hints (with_false [] clause) (hold-false a [] clause refl none))
              (sym (ap (λ b. if b then Conflict else by_followed (followed l.slots (with_false [] clause) hints) l.slots clause (next_group hints)) apart) ∙ e)
        ]
  ]

out : IdOutOfRange ≡ Conflict → ⊥
out e = cc

-- a clause that is justified is redundant
pub verdict_sound : (l : Ledger) (id : ℕ) (clause : Clause) (hints : List Hint) → verdict_of l id clause hints ≡ Conflict → IsRedundant l clause
verdict_sound l id clause hints e = λ a model. elim (cases_Bool (is_next_id l id)) [
  | inl next ↦ by_sound l a model clause hints (sym (ap (λ b. if b then verdict_by l.slots clause hints else IdOutOfRange) next) ∙ e)
  | inr other ↦ absurd (out (sym (ap (λ b. if b then verdict_by l.slots clause hints else IdOutOfRange) other) ∙ e))
]

-- ---- models that are kept

nothing_satisfied : (a : Assignment) (n : ℕ) → All (IsSatisfied a) (replicate n None)
nothing_satisfied a n = λ k d h.
    let inside : k < n = omega (arith, h, length-replicate {A = Option Clause} n None) in
    subst (IsSatisfied a) (sym (get_or-replicate n k None d inside)) tt

nonempty : (a : Assignment) (clause : Clause) → satisfies a clause ≡ true → is_empty_clause clause ≡ false
nonempty a [] some = absurd (false≢true some)
nonempty a (l ∷ ls) some = grind arith

learned_model : (l : Ledger) (id : ℕ) (clause : Clause) (a : Assignment) → IsModelOf a l → satisfies a clause ≡ true → IsModelOf a (learned id clause l)
learned_model l id clause a model some = record {
  clauses = All-append (IsSatisfied a) l.slots (replicate (id - 1 - length l.slots) None ++ Some clause ∷ []) model.clauses
      (All-push (IsSatisfied a) (replicate (id - 1 - length l.slots) None) (Some clause) (nothing_satisfied a (id - 1 - length l.slots)) some);
  unrefuted = or_none l.is_refuted (is_empty_clause clause) model.unrefuted (nonempty a clause some);
}

keeps-learned : (l : Ledger) (id : ℕ) (clause : Clause) → IsRedundant l clause → KeepsSatisfiable l (learned id clause l)
keeps-learned l id clause redundant = λ a model.
    let one = redundant a model in
    (one.0, learned_model l id clause one.0 one.1 one.2)

keeps-after : (l : Ledger) (id : ℕ) (clause : Clause) (v : LratVerdict) → (v ≡ Conflict → IsRedundant l clause) → KeepsSatisfiable l (after_verdict v id clause l)
keeps-after l id clause Conflict redundant = keeps-learned l id clause (redundant refl)
keeps-after l id clause NoConflict redundant = λ a model. (a, model)
keeps-after l id clause UnknownHint redundant = λ a model. (a, model)
keeps-after l id clause ClauseLeftOut redundant = λ a model. (a, model)
keeps-after l id clause IdOutOfRange redundant = λ a model. (a, model)

emptied_satisfied : (a : Assignment) (id : ℕ) (slots : List (Option Clause)) → All (IsSatisfied a) slots → All (IsSatisfied a) (emptied id slots)
emptied_satisfied a id slots all = elim (cases_Bool (id == 0)) [
  | inl none ↦ subst (λ b. All (IsSatisfied a) (if b then slots else set slots (id - 1) None)) (sym none) all
  | inr some ↦ subst (λ b. All (IsSatisfied a) (if b then slots else set slots (id - 1) None)) (sym some) (All-set (IsSatisfied a) slots (id - 1) None tt all)
]

emptied_each_satisfied : (a : Assignment) (ids : List ℕ) (slots : List (Option Clause)) → All (IsSatisfied a) slots → All (IsSatisfied a) (emptied_each ids slots)
emptied_each_satisfied a [] slots all = all
emptied_each_satisfied a (id ∷ ids) slots all = emptied_each_satisfied a ids (emptied id slots) (emptied_satisfied a id slots all)

pub keeps-deleted : (l : Ledger) (ids : List ℕ) → KeepsModels l (deleted ids l)
keeps-deleted l ids = λ a model. record { clauses = emptied_each_satisfied a ids l.slots model.clauses; unrefuted = model.unrefuted }

-- ---- formulas

none_empty : (a : Assignment) (clauses : List Clause) → SatisfiesAll a clauses → list_any is_empty_clause clauses ≡ false
none_empty a [] all = refl
none_empty a (c ∷ cs) all =
    let rest : SatisfiesAll a cs = λ k d h. let deeper : suc k < length (c ∷ cs) = omega arith in all (suc k) d deeper in
    let first : 0 < length (c ∷ cs) = omega arith in
    or_none (is_empty_clause c) (list_any is_empty_clause cs) (nonempty a c (all 0 c first)) (none_empty a cs rest)

pub refutes_formula : (f : Formula) → RefutesFormula f
refutes_formula f = λ none a model. none a (record {
  clauses = All-map (IsSatisfied a) Some f.clauses model;
  unrefuted = none_empty a f.clauses model;
})

-- what a judge says of a clause keeps that there is a model
pub kept_by : {E : Type 0} (r : Result LratVerdict E) (l new : Ledger) (id : ℕ) (clause : Clause) (hints : List Hint)
    → IfOk r (λ v. v ≡ verdict_of l id clause hints) → IfOk r (λ v. new ≡ after_verdict v id clause l) → OnErr r (new ≡ l) → KeepsSatisfiable l new
kept_by (Ok v) l new id clause hints is e same =
    subst (KeepsSatisfiable l) (sym e) (keeps-after l id clause v (λ conflict. verdict_sound l id clause hints (sym is ∙ conflict)))
kept_by (Err x) l new id clause hints is e same = subst (KeepsSatisfiable l) (sym same) (λ a model. (a, model))

pub sound_by : {E : Type 0} (r : Result LratVerdict E) (l : Ledger) (id : ℕ) (clause : Clause) (hints : List Hint)
    → IfOk r (λ v. v ≡ verdict_of l id clause hints) → IfOk r (λ v. v ≡ Conflict → IsRedundant l clause)
sound_by (Ok v) l id clause hints is = λ conflict. verdict_sound l id clause hints (sym is ∙ conflict)
sound_by (Err x) l id clause hints is = is

-- ---- a model that is kept, step by step

pub satisfiable_same : (l : Ledger) → KeepsSatisfiable l l
satisfiable_same l a model = (a, model)

pub satisfiable_models : (old new : Ledger) → KeepsModels old new → KeepsSatisfiable old new
satisfiable_models old new kept a model = (a, kept a model)

pub satisfiable_on : (old mid new : Ledger) → KeepsSatisfiable old mid → KeepsSatisfiable mid new → KeepsSatisfiable old new
satisfiable_on old mid new first second a model = let one = first a model in second one.0 one.1

pub no_model_before : (old new : Ledger) → KeepsSatisfiable old new → HasNoModel new → HasNoModel old
no_model_before old new kept none a model = let one = kept a model in none one.0 one.1
