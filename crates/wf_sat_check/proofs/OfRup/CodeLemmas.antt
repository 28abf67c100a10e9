-- Laws of literals and clauses under an assignment.
use Rattle.std.proofs.Common.{◌≡◌, ℕ, ◌+◌, ◌<◌, true, false, List, ◌++◌, refl, sym, ◌∙◌, ap, length, take, drop, get_or, inl, inr}
use Rattle.std.specs.Prelude.{Bool, ◌||◌}
use Rattle.std.proofs.lemmas.List.Sums.{AllPass-from_list_all}
use Rattle.std.proofs.lemmas.Bool.{cases_Bool, false≢true}
use Rattle.std.proofs.lemmas.List.{take-append-drop}
use Rattle.std.proofs.lemmas.List.Folds.{list_any-append, list_any_at, list_any_more}
use Rattle.wf_sat_check.specs.Rup.Propagation.{Implies}
use Rattle.wf_sat_text.specs.Clauses.Formula.{Assignment}
use Rattle.wf_sat_text.specs.Drat.Codes.{holds_code, hold_codes, is_model_of_codes, satisfies_codes}

-- a model satisfies each clause
pub satisfies_codes-at : (a : Assignment) (f : List (List ℕ)) (i : ℕ) (c : List ℕ) → is_model_of_codes a f ≡ true → i < length f → c ≡ get_or f i c → satisfies_codes a c ≡ true
satisfies_codes-at a f i c model within e = ap (satisfies_codes a) e ∙ AllPass-from_list_all (satisfies_codes a) f model i c within

-- a clause with a part that is satisfied is satisfied
satisfies_codes-front : (a : Assignment) (clause : List ℕ) (i : ℕ) → satisfies_codes a (take i clause) ≡ true → satisfies_codes a clause ≡ true
satisfies_codes-front a clause i h =
    let parts : satisfies_codes a (take i clause ++ drop i clause) ≡ (satisfies_codes a (take i clause) || satisfies_codes a (drop i clause)) =
    list_any-append (holds_code a) (take i clause) (drop i clause) in
    ap (satisfies_codes a) (sym (take-append-drop i clause)) ∙ parts ∙ ap (λ b. b || satisfies_codes a (drop i clause)) h

pub or-neither : (x y : Bool) → (x || y) ≡ false → (x ≡ false) × (y ≡ false)
or-neither true y h = absurd (false≢true (sym h))
or-neither false y h = (refl, h)

-- of a part that isn't satisfied neither the last literal holds nor one before
pub satisfies_codes-neither : (a : Assignment) (clause : List ℕ) (i d : ℕ) → i < length clause → satisfies_codes a (take (i + 1) clause) ≡ false
    → (satisfies_codes a (take i clause) ≡ false) × (holds_code a (get_or clause i d) ≡ false)
satisfies_codes-neither a clause i d within none =
    or-neither (satisfies_codes a (take i clause)) (holds_code a (get_or clause i d))
    (sym (list_any_more (holds_code a) clause i d within) ∙ none)

-- a clause is implied where one of its literals holds as soon as those before it don't
pub Implies-at : (f : List (List ℕ)) (old new : List ℕ) (clause : List ℕ) (i d : ℕ) → i < length clause
    → ((a : Assignment) → hold_codes a old ≡ true → satisfies_codes a (take i clause) ≡ false → hold_codes a new ≡ true)
    → ((a : Assignment) → hold_codes a new ≡ true → holds_code a (get_or clause i d) ≡ true) → Implies f old clause
Implies-at f old new clause i d within forced here = λ a model all.
    let late : satisfies_codes a (take i clause) ≡ false → satisfies_codes a clause ≡ true =
    λ none. list_any_at (holds_code a) clause i d within (here a (forced a all none)) in
    elim (cases_Bool (satisfies_codes a (take i clause))) [ inl early ↦ satisfies_codes-front a clause i early | inr none ↦ late none ]
