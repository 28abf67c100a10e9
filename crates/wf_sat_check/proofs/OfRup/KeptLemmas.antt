-- Laws of the clauses that are kept.
use Rattle.std.proofs.Common.{◌≡◌, ℕ, ◌+◌, ◌<◌, zero, suc, true, List, [], ◌∷◌, ◌++◌, refl, sym, ◌∙◌, ap, subst, arith, length, take, get_or, set}
use Rattle.std.specs.List.{All, Contains}
use Rattle.std.proofs.lemmas.List.{append-nil}
use Rattle.std.proofs.lemmas.List.Elements.{All-push}
use Rattle.std.proofs.lemmas.Grind.{common_steps, take_at_read}
use Rattle.std.proofs.lemmas.List.Folds.{list_all-append}
use Rattle.wf_sat_text.specs.Clauses.Formula.{Assignment}
use Rattle.wf_sat_text.specs.Drat.Codes.{is_model_of_codes, satisfies_codes}
use Rattle.wf_sat_check.specs.Rup.Propagation.{AddsClause}
use Rattle.wf_sat_check.specs.Rup.Stored.{kept_of}
use Rattle.wf_sat_check.proofs.OfRup.CodeLemmas.{satisfies_codes-at}

pub kept_of-push : (f : List (List ℕ)) (c : List ℕ) → kept_of (f ++ c ∷ []) ≡ kept_of f ++ kept_of (c ∷ [])
kept_of-push [] c = refl
kept_of-push ([] ∷ f) c = kept_of-push f c
kept_of-push ((x ∷ xs) ∷ f) c = ap (λ cs. (x ∷ xs) ∷ cs) (kept_of-push f c)

-- with the clause of one place more
pub kept_of-more : (f : List (List ℕ)) (i : ℕ) (c : List ℕ) → i < length f → c ≡ get_or f i c
    → kept_of (take (i + 1) f) ≡ kept_of (take i f) ++ kept_of (c ∷ [])
kept_of-more f i c within e =
    let more : take (i + 1) f ≡ take i f ++ get_or f i c ∷ [] = (take_at_read f i c within).1 in
    ap kept_of (more ∙ ap (λ x. take i f ++ x ∷ []) (sym e)) ∙ kept_of-push (take i f) c

pub kept_of-pushed : (f : List (List ℕ)) (c : List ℕ) → 0 < length c → kept_of (f ++ c ∷ []) ≡ kept_of f ++ c ∷ []
kept_of-pushed f [] long = absurd (omega arith)
kept_of-pushed f (x ∷ xs) long = kept_of-push f (x ∷ xs)

pub kept_of-next : (f : List (List ℕ)) (i : ℕ) (c : List ℕ) → i < length f → c ≡ get_or f i c → 0 < length c
    → kept_of (take (i + 1) f) ≡ kept_of (take i f) ++ c ∷ []
kept_of-next f i [] within e long = absurd (omega arith)
kept_of-next f i (x ∷ xs) within e long = kept_of-more f i (x ∷ xs) within e

pub kept_of-skip : (f : List (List ℕ)) (i : ℕ) (c : List ℕ) → i < length f → c ≡ get_or f i c → length c ≡ 0
    → kept_of (take (i + 1) f) ≡ kept_of (take i f)
kept_of-skip f i [] within e none = kept_of-more f i [] within e ∙ append-nil (kept_of (take i f))
kept_of-skip f i (x ∷ xs) within e none = absurd (omega arith)

pub Contains-kept : (f : List (List ℕ)) (i : ℕ) (c : List ℕ) → i < length f → c ≡ get_or f i c → 0 < length c → Contains (kept_of f) c
Contains-kept [] i c within e long = absurd (omega arith)
Contains-kept ([] ∷ f) zero c within e long =
    let none : length c ≡ 0 = ap length e in
    absurd (omega arith)
Contains-kept ([] ∷ f) (suc i) c within e long =
    let rest : i < length f = omega arith in
    Contains-kept f i c rest e long
Contains-kept ((x ∷ xs) ∷ f) zero c within e long =
    let first : 0 < length ((x ∷ xs) ∷ kept_of f) = omega arith in
    (0, first, sym e)
Contains-kept ((x ∷ xs) ∷ f) (suc i) c within e long =
    let rest : i < length f = omega arith in
    let there : Contains (kept_of f) c = Contains-kept f i c rest e long in
    let deeper : there.0 < length (kept_of f) = there.1 in
    let behind : suc there.0 < length ((x ∷ xs) ∷ kept_of f) = omega arith in
    (suc there.0, behind, there.2)

-- a model satisfies each clause that it is one of
pub satisfies_codes-in : (a : Assignment) (f : List (List ℕ)) (c : List ℕ) → is_model_of_codes a f ≡ true → Contains f c → satisfies_codes a c ≡ true
satisfies_codes-in a f c model here = satisfies_codes-at a f here.0 c model here.1 (sym here.2)

pub satisfies_codes-kept : (a : Assignment) (f : List (List ℕ)) (i : ℕ) (c : List ℕ) → is_model_of_codes a (kept_of f) ≡ true
    → i < length f → c ≡ get_or f i c → 0 < length c → satisfies_codes a c ≡ true
satisfies_codes-kept a f i c model within e long = satisfies_codes-in a (kept_of f) c model (Contains-kept f i c within e long)

model-one : (a : Assignment) (f : List (List ℕ)) (c : List ℕ) → is_model_of_codes a f ≡ true → satisfies_codes a c ≡ true
    → is_model_of_codes a (f ++ kept_of (c ∷ [])) ≡ true
model-one a f [] model here = ap (is_model_of_codes a) (append-nil f) ∙ model
model-one a f (x ∷ xs) model here = grind (arith, common_steps, model, here, list_all-append (satisfies_codes a) f ((x ∷ xs) ∷ []))

pub AddsClause-push : (f : List (List ℕ)) (c : List ℕ) → AddsClause c (kept_of f) (kept_of (f ++ c ∷ []))
AddsClause-push f c = λ a model here. ap (is_model_of_codes a) (kept_of-push f c) ∙ model-one a (kept_of f) c model here

pub AddsClause-same : (f g : List (List ℕ)) (c : List ℕ) → g ≡ f ++ c ∷ [] → AddsClause c (kept_of f) (kept_of g)
AddsClause-same f g c e = subst (λ h. AddsClause c (kept_of f) (kept_of h)) (sym e) (AddsClause-push f c)

-- with one clause less a model is still one
pub model-less : (a : Assignment) (f : List (List ℕ)) (i : ℕ) → is_model_of_codes a (kept_of f) ≡ true → is_model_of_codes a (kept_of (set f i [])) ≡ true
model-less a [] i model = model
model-less a ([] ∷ f) zero model = model
model-less a ([] ∷ f) (suc i) model = model-less a f i model
model-less a ((x ∷ xs) ∷ f) zero model = grind (arith, common_steps, model)
model-less a ((x ∷ xs) ∷ f) (suc i) model = grind (arith, common_steps, model, model-less a f i)

all-one : (P : List ℕ → Type 0) (f : List (List ℕ)) (c : List ℕ) → (0 < length c → P c) → All P f → All P (f ++ kept_of (c ∷ []))
all-one P f [] one all = subst (All P) (sym (append-nil f)) all
all-one P f (x ∷ xs) one all = All-push P f (x ∷ xs) all (one (omega arith))

-- what holds of the kept clauses before a place, and of the one there, holds of those up to it
pub All-kept_more : (P : List ℕ → Type 0) (f : List (List ℕ)) (i : ℕ) (c : List ℕ) → i < length f → c ≡ get_or f i c → (0 < length c → P c)
    → All P (kept_of (take i f)) → All P (kept_of (take (i + 1) f))
All-kept_more P f i c within e one all =
    subst (All P) (sym (kept_of-more f i c within e)) (all-one P (kept_of (take i f)) c one all)
