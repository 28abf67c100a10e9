-- Why a resolution asymmetric tautology may be added, and when a lemma is none.
use Rattle.std.proofs.Common.{◌≡◌, ℕ, ◌/◌, ◌%◌, ◌<◌, zero, suc, Bool, true, false, List, [], ◌∷◌, ◌++◌, refl, sym, ◌∙◌, ap, subst, arith, length, map, get_or, bit_xor, inl, inr, append-nil}
use Rattle.std.specs.Prelude.{◌==◌, ◌||◌, not, if◌then◌else◌}
use Rattle.std.specs.List.{Contains, list_all}
use Rattle.std.specs.Int.Bits.{xor_zero_r}
use Rattle.std.proofs.lemmas.Nat.{xor_shr, xor_mod}
use Rattle.std.proofs.lemmas.Bool.{cases_Bool, cases_eq, false≢true}
use Rattle.std.proofs.lemmas.Grind.{common_steps}
use Rattle.std.proofs.lemmas.List.{map-append}
use Rattle.std.proofs.lemmas.List.Elements.{All-contains_itself}
use Rattle.std.proofs.lemmas.List.Folds.{list_any-append}
use Rattle.std.proofs.lemmas.List.Sums.{AllPass-from_list_all, list_all-from_AllPass}
use Rattle.wf_sat_text.specs.Clauses.Formula.{Assignment, Clause, Literal, negation}
use Rattle.wf_sat_text.specs.Drat.Codes.{code_of, code_of-literal_of, holds_code, literal_of, satisfies_codes}
use Rattle.wf_sat_check.specs.Store.Literals.{has, opposite}
use Rattle.wf_sat_check.specs.Rup.Rat.{IsJustified, IsRat, IsRedundant, IsStoredRedundant, IsUnjustified, KeepsSatisfiable, KeepsStoredSatisfiable, RefusesBoth, RefusesRat, ResolvesOn, others_than, resolvent, resolvent_of, without}
use Rattle.wf_sat_check.specs.Rup.Resolving.{StopsShort, StopsShortOfBoth, StopsShortOfRat}
use Rattle.wf_sat_check.specs.Rup.Seen.{HasNoModel, IsModelOf, KeepsModels, Known, known_of}
use Rattle.wf_sat_check.specs.Rup.Settled.{Refuses}
use Rattle.wf_sat_check.specs.Rup.Stored.{IsModelOfStored, KeepsStoredModelsOf, Stored, kept_of}
use Rattle.wf_sat_check.specs.Rup.Unit.{DoesNotFollow, FollowsByPropagation}
use Rattle.wf_sat_check.proofs.OfRup.DeletedLemmas.{has-contained}
use Rattle.wf_sat_check.proofs.OfRup.LiteralLemmas.{literal_of-code_of, model_of_known, model_of_stored, satisfies-codes}
use Rattle.wf_sat_check.proofs.OfRup.SettledLemmas.{any-at}
use Rattle.wf_sat_check.proofs.OfStore.Lemmas.{All-has_front, other_test, same_test}
use Rattle.wf_sat_check.proofs.OfRup.UnitLemmas.{Contains-image, Contains-map, any-found, apart-not, code_of-negation, does-not-follow}

-- ---- an assignment under which a literal holds

-- the assignment that is changed at a literal's variable, so that the literal holds
abbrev with_true : Assignment → ℕ → Assignment
with_true a p = λ v. if v == p / 2 then p % 2 == 0 else a v

itself : (b : Bool) → (if b then b else not b) ≡ true
itself true = refl
itself false = refl

holds-it : (a : Assignment) (p : ℕ) → holds_code (with_true a p) p ≡ true
unfolding holds_code
holds-it a p =
    let here : with_true a p (p / 2) ≡ (p % 2 == 0) = ap (λ b. if b then p % 2 == 0 else a (p / 2)) (same_test (p / 2) (p / 2) refl) in
    ap (λ x. if p % 2 == 0 then x else not x) here ∙ itself (p % 2 == 0)

holds-apart : (a : Assignment) (p c : ℕ) → (c / 2 ≡ p / 2 → ⊥) → holds_code (with_true a p) c ≡ holds_code a c
unfolding holds_code
holds-apart a p c apart =
    let here : with_true a p (c / 2) ≡ a (c / 2) = ap (λ b. if b then p % 2 == 0 else a (c / 2)) (other_test (c / 2) (p / 2) apart) in
    ap (λ x. if c % 2 == 0 then x else not x) here

by-parity : (c p r : ℕ) → p % 2 ≡ r → c / 2 ≡ p / 2 → (c ≡ p → ⊥) → bit_xor p 1 / 2 ≡ p / 2 → bit_xor p 1 % 2 ≡ bit_xor (p % 2) 1 → c ≡ bit_xor p 1
by-parity c p zero even same other half parity =
    let odd : bit_xor p 1 % 2 ≡ 1 = parity ∙ ap (λ n. bit_xor n 1) even in
    omega (arith, even, same, other, half, odd)
by-parity c p (suc zero) odd same other half parity =
    let even : bit_xor p 1 % 2 ≡ 0 = parity ∙ ap (λ n. bit_xor n 1) odd in
    omega (arith, odd, same, other, half, even)
by-parity c p (suc (suc r)) more same other half parity = absurd (omega (arith, more))

-- of a variable's literals there are two
is-opposite : (c p : ℕ) → c / 2 ≡ p / 2 → (c ≡ p → ⊥) → c ≡ opposite p
is-opposite c p same other =
    let half : bit_xor p 1 / 2 ≡ p / 2 = xor_shr p 1 1 ∙ xor_zero_r (p / 2) in
    let parity : bit_xor p 1 % 2 ≡ bit_xor (p % 2) 1 = xor_mod p 1 1 in
    by-parity c p (p % 2) refl same other half parity

-- each other literal than the negation holds still
holds-still : (a : Assignment) (p c : ℕ) → (c ≡ opposite p → ⊥) → holds_code a c ≡ true → holds_code (with_true a p) c ≡ true
holds-still a p c other h = elim (cases_eq (c / 2) (p / 2)) [
  | inr apart ↦ holds-apart a p c apart ∙ h
  | inl same ↦ elim (cases_eq c p) [
    | inl it ↦ subst (λ (x : ℕ). holds_code (with_true a p) x ≡ true) (sym it) (holds-it a p)
    | inr not_it ↦ absurd (other (is-opposite c p same not_it))
  ]
]

-- ---- clauses under that assignment

missing-other : (xs : List ℕ) (x y : ℕ) → has xs y ≡ false → has xs x ≡ true → x ≡ y → ⊥
missing-other xs x y none here same = false≢true (sym none ∙ subst (λ (z : ℕ). has xs z ≡ true) same here)

-- the literals of the clause but for one
others-has : (l x : ℕ) (clause : List ℕ) → has (others_than l clause) x ≡ true → (has clause x ≡ true) × ((x == l) ≡ false)
others-has l x [] h = absurd (false≢true h)
others-has l x (y ∷ ys) h = grind (arith, common_steps, h, others-has l x ys)

satisfied-still : (a : Assignment) (p : ℕ) (clause : List ℕ) → has clause (opposite p) ≡ false → satisfies_codes a clause ≡ true → satisfies_codes (with_true a p) clause ≡ true
satisfied-still a p clause none h =
    let one = any-found (holds_code a) clause h in
    any-at (holds_code (with_true a p)) clause one.0 one.1 (holds-still a p one.0 (missing-other clause one.0 (opposite p) none one.1) one.2)

or-late : (x y : Bool) → x ≡ false → (x || y) ≡ true → y ≡ true
or-late true y none h = absurd (false≢true (sym none))
or-late false y none h = h

-- a clause whose resolvent with a false lemma is true
satisfied-by_others : (a : Assignment) (p : ℕ) (lemma clause : List ℕ) → satisfies_codes a lemma ≡ false
    → satisfies_codes a (resolvent_of lemma (opposite p) clause) ≡ true → satisfies_codes (with_true a p) clause ≡ true
satisfied-by_others a p lemma clause false_ h =
    let rest = others_than (opposite p) clause in
    let late : satisfies_codes a rest ≡ true =
    or-late (satisfies_codes a lemma) (satisfies_codes a rest) false_ (sym (list_any-append (holds_code a) lemma rest) ∙ h) in
    let one = any-found (holds_code a) rest late in
    let two = others-has (opposite p) one.0 clause one.1 in
    any-at (holds_code (with_true a p)) clause one.0 two.0 (holds-still a p one.0 (apart-not one.0 (opposite p) two.1) one.2)

each-passes : {X : Type 0} (f g : X → Bool) (xs : List X) → ((x : X) → Contains xs x → f x ≡ true → g x ≡ true) → list_all f xs ≡ true → list_all g xs ≡ true
each-passes f g xs step h =
    list_all-from_AllPass g xs (λ k d within. step (get_or xs k d) (All-contains_itself xs k d within) (AllPass-from_list_all f xs h k d within))

-- ---- a lemma that is justified may be added

module _ (s : Stored) (lemma : List ℕ) (p : ℕ) (on : ResolvesOn s.clauses s.literals lemma p) where
  model-with : (a : Assignment) → IsModelOfStored a s → satisfies_codes a lemma ≡ false → IsModelOfStored (with_true a p) s
  model-with a model false_ = record {
    literals = each-passes (holds_code a) (holds_code (with_true a p)) s.literals
        (λ l there h. holds-still a p l (missing-other s.literals l (opposite p) on.unfalsified (has-contained s.literals l there)) h) model.literals;
    clauses = each-passes (satisfies_codes a) (satisfies_codes (with_true a p)) s.clauses
        (λ clause there h. elim (cases_Bool (has clause (opposite p))) [
          | inr none ↦ satisfied-still a p clause none h
          | inl inside ↦ satisfied-by_others a p lemma clause false_ (on.each clause there inside a model.clauses model.literals)
        ])
        model.clauses;
    unrefuted = model.unrefuted;
  }

  rat-redundant : IsStoredRedundant s lemma
  rat-redundant a model = elim (cases_Bool (satisfies_codes a lemma)) [
    | inl holds ↦ (a, model, holds)
    | inr fails ↦ (with_true a p, model-with a model fails, any-at (holds_code (with_true a p)) lemma p on.inside (holds-it a p))
  ]

pub justified-redundant : (s : Stored) (lemma : List ℕ) → IsJustified s.clauses s.literals lemma → IsStoredRedundant s lemma
justified-redundant s lemma (inl implied) a model = (a, model, implied a model.clauses model.literals)
justified-redundant s lemma (inr (p, on)) a model = rat-redundant s lemma p on a model

-- what is added to it keeps a model
pub satisfiable-with : (old new : Stored) (lemma : List ℕ) → IsStoredRedundant old lemma → KeepsStoredModelsOf lemma old new → KeepsStoredSatisfiable old new
satisfiable-with old new lemma redundant sound a model =
    let one = redundant a model in
    (one.0, sound one.0 one.1 one.2)

-- ---- a lemma that is none

pub refuses-short : (s : Stored) (clause : List ℕ) → s.is_refuted ≡ false → StopsShort s.clauses s.literals clause → Refuses s clause
refuses-short s clause unrefuted short = record {
  trail = short.after;
  includes = All-has_front s.literals short.after short.front;
  stops = short.stops;
  unrefuted = unrefuted;
}

refuses-rat : (s : Stored) (lemma : List ℕ) → s.is_refuted ≡ false → StopsShortOfRat s.clauses s.literals lemma → RefusesRat s lemma
refuses-rat s [] unrefuted short = tt
refuses-rat s (p ∷ ps) unrefuted (inl there) = inl there
refuses-rat s (p ∷ ps) unrefuted (inr one) = inr (record {
  clause = one.clause;
  stored_is = one.stored_is;
  inside = one.inside;
  refuses = refuses-short s (resolvent_of (p ∷ ps) (opposite p) one.clause) unrefuted one.stops;
})

pub refuses-both : (s : Stored) (lemma : List ℕ) → s.is_refuted ≡ false → StopsShortOfBoth s.clauses s.literals lemma → RefusesBoth s lemma
refuses-both s lemma unrefuted (short, rat) = (refuses-short s lemma unrefuted short, refuses-rat s lemma unrefuted rat)

-- ---- the same of a database's parts

module _ (s : Stored) (t : List ℕ) (f : List (List ℕ)) (r : Bool) (lemma : List ℕ) (view : record { literals = t; clauses = kept_of f; is_refuted = r } ≡ s) where
  pub redundant-in : IsJustified (kept_of f) t lemma → IsStoredRedundant s lemma
  redundant-in just = subst (λ (x : Stored). IsStoredRedundant x lemma) view
      (justified-redundant (record { literals = t; clauses = kept_of f; is_refuted = r }) lemma just)

  pub satisfiable-in : (new : Stored) (t' : List ℕ) (f' : List (List ℕ)) → t' ≡ t → f' ≡ f → IsJustified (kept_of f) t lemma
      → KeepsStoredModelsOf lemma (record { literals = t'; clauses = kept_of f'; is_refuted = r }) new → KeepsStoredSatisfiable s new
  satisfiable-in new t' f' trail clauses just sound =
      satisfiable-with s new lemma (redundant-in just)
      (subst (λ (x : Stored). KeepsStoredModelsOf lemma x new)
      (ap (λ xs. record { literals = xs; clauses = kept_of f'; is_refuted = r }) trail ∙ ap (λ g. record { literals = t; clauses = kept_of g; is_refuted = r }) clauses ∙ view) sound)

  pub refused-in : r ≡ false → StopsShortOfBoth (kept_of f) t lemma → RefusesBoth s lemma
  refused-in unrefuted short = subst (λ (x : Stored). RefusesBoth x lemma) view
      (refuses-both (record { literals = t; clauses = kept_of f; is_refuted = r }) lemma unrefuted short)

-- ---- the same of what is known

literal-opposite : (l : Literal) → literal_of (opposite (code_of l)) ≡ negation l
literal-opposite l = ap literal_of (sym (code_of-negation l)) ∙ literal_of-code_of (negation l)

none-without : (l : Literal) → without l (l ∷ []) ≡ []
none-without l = ap (λ b. if not b then l ∷ [] else []) (same_test (code_of l) (code_of l) refl)

codes-without : (l : Literal) (codes : List ℕ) → others_than (code_of l) codes ≡ map code_of (without l (map literal_of codes))
codes-without l [] = refl
codes-without l (x ∷ xs) = grind (arith, common_steps, codes-without l xs, code_of-literal_of x)

codes-resolvent : (lemma : Clause) (p : Literal) (codes : List ℕ)
    → resolvent_of (map code_of lemma) (opposite (code_of p)) codes ≡ map code_of (resolvent lemma p (map literal_of codes))
codes-resolvent lemma p codes =
    ap (λ (c : ℕ). map code_of lemma ++ others_than c codes) (sym (code_of-negation p))
    ∙ ap (λ xs. map code_of lemma ++ xs) (codes-without (negation p) codes)
    ∙ sym (map-append code_of lemma (without (negation p) (map literal_of codes)))

first-literal : (l : Literal) (ls : Clause) → Contains (l ∷ ls) l
first-literal l ls = let first : 0 < length (l ∷ ls) = omega arith in (0, first, refl)

not-rat : (v : ℕ) (s : Stored) (lemma : Clause) → RefusesRat s (map code_of lemma) → DoesNotFollow (known_of v s) lemma → IsRat (known_of v s) lemma → ⊥
not-rat v s [] refused never rat = rat
not-rat v s (p ∷ ps) (inl there) never rat =
    let known = known_of v s in
    let unit : Contains known.literals (negation p) =
    subst (Contains known.literals) (literal-opposite p) (Contains-image literal_of s.literals (opposite (code_of p)) there) in
    let same : resolvent (p ∷ ps) p (negation p ∷ []) ≡ p ∷ ps = ap (λ xs. (p ∷ ps) ++ xs) (none-without (negation p)) ∙ append-nil (p ∷ ps) in
    never (subst (FollowsByPropagation known) same (rat (negation p ∷ []) (inr (negation p, unit, refl)) (first-literal (negation p) [])))
not-rat v s (p ∷ ps) (inr one) never rat =
    let known = known_of v s in
    let clause : Clause = map literal_of one.clause in
    let kept : Contains known.clauses clause = Contains-map (map literal_of) s.clauses one.clause one.stored_is in
    let inside : Contains clause (negation p) = subst (Contains clause) (literal-opposite p) (Contains-image literal_of one.clause (opposite (code_of p)) one.inside) in
    does-not-follow v s known (resolvent (p ∷ ps) p clause) (resolvent_of (map code_of (p ∷ ps)) (opposite (code_of p)) one.clause) refl
    (codes-resolvent (p ∷ ps) p one.clause) one.refuses (rat clause (inl kept) inside)

unjustified : (v : ℕ) (s : Stored) (lemma : Clause) → RefusesBoth s (map code_of lemma) → IsUnjustified (known_of v s) lemma
unjustified v s lemma (refused, rat) =
    let never = does-not-follow v s (known_of v s) lemma (map code_of lemma) refl refl refused in
    record { does_not_follow = never; is_not_rat = not-rat v s lemma rat never }

pub is-unjustified : (v : ℕ) (s : Stored) (known : Known) (lemma : Clause) (codes : List ℕ) → known_of v s ≡ known → codes ≡ map code_of lemma
    → RefusesBoth s codes → IsUnjustified known lemma
is-unjustified v s known lemma codes same e refused = subst (λ k. IsUnjustified k lemma) same (unjustified v s lemma (subst (RefusesBoth s) e refused))

pub is-redundant : (v : ℕ) (s : Stored) (known : Known) (lemma : Clause) (codes : List ℕ) → known_of v s ≡ known → codes ≡ map code_of lemma
    → IsStoredRedundant s codes → IsRedundant known lemma
is-redundant v s known lemma codes same e redundant = λ a model.
    let one = redundant a (model_of_stored v a s (subst (IsModelOf a) (sym same) model)) in
    (one.0, subst (IsModelOf one.0) same (model_of_known v one.0 s one.1), sym (ap (satisfies_codes one.0) e ∙ satisfies-codes one.0 lemma) ∙ one.2)

pub keeps-satisfiable : (v : ℕ) (old new : Stored) (known : Known) → known_of v old ≡ known → KeepsStoredSatisfiable old new → KeepsSatisfiable known (known_of v new)
keeps-satisfiable v old new known same kept = λ a model.
    let one = kept a (model_of_stored v a old (subst (IsModelOf a) (sym same) model)) in
    (one.0, model_of_known v one.0 new one.1)

-- ---- a model that is kept, step by step

pub satisfiable-same : (known : Known) → KeepsSatisfiable known known
satisfiable-same known a model = (a, model)

pub satisfiable-models : (old new : Known) → KeepsModels old new → KeepsSatisfiable old new
satisfiable-models old new kept a model = (a, kept a model)

pub satisfiable-on : (old mid new : Known) → KeepsSatisfiable old mid → KeepsSatisfiable mid new → KeepsSatisfiable old new
satisfiable-on old mid new first second a model = let one = first a model in second one.0 one.1

pub no-model-before : (old new : Known) → KeepsSatisfiable old new → HasNoModel new → HasNoModel old
no-model-before old new kept none a model = let one = kept a model in none one.0 one.1

-- what the empty clause may be added to has no model
pub no-model-of_empty : (known : Known) → IsRedundant known [] → HasNoModel known
no-model-of_empty known redundant a model = false≢true (redundant a model).2
