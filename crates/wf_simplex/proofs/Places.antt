-- Where a process stands in a simplex, and in the scope of a constraint on it.
use Rattle.std.proofs.Common.{◌≡◌, ℕ, suc, ◌-◌, ◌<◌, ◌≤◌, ◌==◌, List, [], ◌∷◌, zip, length, get_or, Bool, true, false, cond, Option, Some, None, refl, ◌∙◌, ap, arith}
use Rattle.std.proofs.lemmas.List.{get_or_default, length-map}
use Rattle.wf_model.specs.Simplex.{Simplex, processes_of}
use Rattle.wf_model.specs.Task.{Rule, Task, inputs}
use Rattle.wf_model.specs.Check.{place_of}
use Rattle.wf_simplex.specs.Entries.{place_in}

-- a process that is not there
pub place_none : (n c : ℕ) (ps vs : List ℕ) → length vs ≡ length ps → place_in n c ps ≡ None → place_of n c (zip ps vs) ≡ None
place_none n c [] [] long h = refl
place_none n c [] (v ∷ vs) long h = absurd (omega (arith, long))
place_none n c (p ∷ ps) [] long h = absurd (omega (arith, long))
place_none n c (p ∷ ps) (v ∷ vs) long h = by_test (p == c) refl (place_none (suc n) c ps vs (omega (arith, long))) h
  where
    by_test : (b : Bool) → (p == c) ≡ b → (place_in (suc n) c ps ≡ None → place_of (suc n) c (zip ps vs) ≡ None) → cond b (Some n) (place_in (suc n) c ps) ≡ None → place_of n c (zip (p ∷ ps) (v ∷ vs)) ≡ None
    by_test true e rest h = absurd (let bad : ⊥ = cc in bad)
    by_test false e rest h = ap (λ b. cond b (Some (n, v)) (place_of (suc n) c (zip ps vs))) e ∙ rest h

-- the place, counted from the first, and its point
pub record PlaceIs (n c k : ℕ) (ps vs : List ℕ) : Type 0 where
  pub from : n ≤ k
  pub inside : k - n < length vs
  pub at : place_of n c (zip ps vs) ≡ Some (k, get_or vs (k - n) 0)

pub place_some : (n c k : ℕ) (ps vs : List ℕ) → length vs ≡ length ps → place_in n c ps ≡ Some k → PlaceIs n c k ps vs
place_some n c k [] vs long h = absurd (let bad : ⊥ = cc in bad)
place_some n c k (p ∷ ps) [] long h = absurd (omega (arith, long))
place_some n c k (p ∷ ps) (v ∷ vs) long h = by_test (p == c) refl (place_some (suc n) c k ps vs (omega (arith, long))) h
  where
    by_test : (b : Bool) → (p == c) ≡ b → (place_in (suc n) c ps ≡ Some k → PlaceIs (suc n) c k ps vs) → cond b (Some n) (place_in (suc n) c ps) ≡ Some k → PlaceIs n c k (p ∷ ps) (v ∷ vs)
    by_test true e found h =
        let same : n ≡ k = cc in
        let none : 0 ≡ k - n = omega (arith, same) in
        record {
          from = omega (arith, same);
          inside = omega (arith, same);
          at = ap (λ b. cond b (Some (n, v)) (place_of (suc n) c (zip ps vs))) e ∙ (λ i. Some (same i, get_or (v ∷ vs) (none i) 0));
        }
    by_test false e found h =
        let rest = found h in
        let next : suc (k - suc n) ≡ k - n = omega (arith, rest.from) in
        record {
          from = omega (arith, rest.from);
          inside = omega (arith, rest.inside, rest.from);
          at = ap (λ b. cond b (Some (n, v)) (place_of (suc n) c (zip ps vs))) e ∙ rest.at ∙ ap (λ j. Some (k, get_or (v ∷ vs) j 0)) next;
        }

-- ---- a simplex of a task, by its number

pub place_by_number : (t : Task) (n c : ℕ) (all : List Simplex) (simplex : Simplex) (found : Option ℕ) → n < length t.delta → all ≡ inputs t → simplex ≡ get_or all n simplex
    → found ≡ place_in 0 c (processes_of simplex) → found ≡ place_in 0 c (processes_of (get_or (inputs t) n []))
place_by_number t n c all simplex found low are is there =
    let within : n < length (inputs t) = omega (arith, low, length-map t.delta (λ (rule : Rule). rule.input)) in
    let same : simplex ≡ get_or (inputs t) n [] = is ∙ ap (λ simplices. get_or simplices n simplex) are ∙ get_or_default (inputs t) n simplex [] within in
    there ∙ ap (λ s. place_in 0 c (processes_of s)) same
