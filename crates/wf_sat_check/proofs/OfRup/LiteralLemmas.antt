-- Literals and their codes say the same.
use Rattle.std.proofs.Common.{◌≡◌, ℕ, ◌+◌, ◌*◌, ◌/◌, ◌%◌, Bool, true, false, List, [], ◌∷◌, refl, sym, subst, ◌∙◌, ap, arith, map}
use Rattle.std.specs.Prelude.{◌==◌, not, if◌then◌else◌}
use Rattle.std.specs.List.{list_all}
use Rattle.std.proofs.lemmas.List.Sums.{AllPass-from_list_all, list_all-from_AllPass}
use Rattle.wf_sat_text.specs.Clauses.Formula.{Assignment, Literal, holds, neg, pos, satisfies}
use Rattle.wf_sat_text.specs.Drat.Codes.{code_of, hold_codes, holds_code, is_model_of_codes, literal_of, satisfies_codes}
use Rattle.wf_sat_check.specs.Rup.Stored.{IsModelOfStored, KeepsStoredModels, KeepsStoredModelsOf, Stored}
use Rattle.wf_sat_check.specs.Rup.Seen.{IsModelOf, KeepsModels, KeepsModelsOf, Known, known_of}

-- a literal is that of its code
pub literal_of-code_of : (l : Literal) → literal_of (code_of l) ≡ l
literal_of-code_of (pos v) =
    let even : (2 * v) % 2 ≡ 0 = omega arith in
    let half : (2 * v) / 2 ≡ v = omega arith in
    rw (even, half) refl
literal_of-code_of (neg v) =
    let odd : (2 * v + 1) % 2 ≡ 1 = omega arith in
    let half : (2 * v + 1) / 2 ≡ v = omega arith in
    rw (odd, half) refl

holds-either : (a : Assignment) (even : Bool) (v : ℕ) → holds a (if even then pos v else neg v) ≡ (if even then a v else not (a v))
holds-either a true v = refl
holds-either a false v = refl

pub holds-literal_of : (a : Assignment) (c : ℕ) → holds a (literal_of c) ≡ holds_code a c
unfolding holds_code
holds-literal_of a c = holds-either a (c % 2 == 0) (c / 2)

pub holds-code_of : (a : Assignment) (l : Literal) → holds_code a (code_of l) ≡ holds a l
holds-code_of a l = sym (holds-literal_of a (code_of l)) ∙ ap (holds a) (literal_of-code_of l)

pub satisfies-codes : (a : Assignment) (clause : List Literal) → satisfies_codes a (map code_of clause) ≡ satisfies a clause
satisfies-codes a [] = refl
satisfies-codes a (l ∷ ls) = rw (holds-code_of a l, satisfies-codes a ls) refl

pub satisfies-literals : (a : Assignment) (codes : List ℕ) → satisfies a (map literal_of codes) ≡ satisfies_codes a codes
satisfies-literals a [] = refl
satisfies-literals a (c ∷ cs) = rw (holds-literal_of a c, satisfies-literals a cs) refl

hold-literals : (a : Assignment) (codes : List ℕ) → list_all (holds a) (map literal_of codes) ≡ hold_codes a codes
hold-literals a [] = refl
hold-literals a (c ∷ cs) = rw (holds-literal_of a c, hold-literals a cs) refl

satisfies_all-literals : (a : Assignment) (clauses : List (List ℕ))
    → list_all (satisfies a) (map (λ clause. map literal_of clause) clauses) ≡ is_model_of_codes a clauses
satisfies_all-literals a [] = refl
satisfies_all-literals a (c ∷ cs) = rw (satisfies-literals a c, satisfies_all-literals a cs) refl

-- a model of what is stored is one of what is known by it
pub model_of_known : (v : ℕ) (a : Assignment) (s : Stored) → IsModelOfStored a s → IsModelOf a (known_of v s)
model_of_known v a s model = record {
  literals = AllPass-from_list_all (holds a) _ (hold-literals a s.literals ∙ model.literals);
  clauses = AllPass-from_list_all (satisfies a) _ (satisfies_all-literals a s.clauses ∙ model.clauses);
  unrefuted = model.unrefuted;
}

-- a model of what is known is one of what is stored
pub model_of_stored : (v : ℕ) (a : Assignment) (s : Stored) → IsModelOf a (known_of v s) → IsModelOfStored a s
model_of_stored v a s model = record {
  literals = sym (hold-literals a s.literals) ∙ list_all-from_AllPass (holds a) _ model.literals;
  clauses = sym (satisfies_all-literals a s.clauses) ∙ list_all-from_AllPass (satisfies a) _ model.clauses;
  unrefuted = model.unrefuted;
}

-- ---- what is kept of what is stored is kept of what is known

pub keeps-models : (v : ℕ) (old new : Stored) (known : Known) → known_of v old ≡ known → KeepsStoredModels old new → KeepsModels known (known_of v new)
keeps-models v old new known e kept = λ a model.
    model_of_known v a new (kept a (model_of_stored v a old (subst (IsModelOf a) (sym e) model)))

-- the clause is the one of these codes
pub keeps-models_of : (v : ℕ) (old new : Stored) (known : Known) (clause : List Literal) (codes : List ℕ) → known_of v old ≡ known → codes ≡ map code_of clause
    → KeepsStoredModelsOf codes old new → KeepsModelsOf clause known (known_of v new)
keeps-models_of v old new known clause codes e same kept = λ a model satisfied.
    model_of_known v a new (kept a (model_of_stored v a old (subst (IsModelOf a) (sym e) model))
    (ap (satisfies_codes a) same ∙ satisfies-codes a clause ∙ satisfied))
