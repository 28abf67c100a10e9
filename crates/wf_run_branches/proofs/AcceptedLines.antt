-- The line that says what is accepted of a branch, and the texts of parts.
use Rattle.std.proofs.Common.{◌≡◌, ◌==◌, ℕ, Bool, true, false, if◌then◌else◌, List, [], ◌∷◌, ◌++◌, codes, decimal, length, take, Result, Ok, Err, Vec, sym, refl, ap, ◌∙◌, inl, inr, eq-eqb, eqb-true}
use Rattle.std.proofs.lemmas.Bool.{and_from, cases_Bool}
use Rattle.std.specs.Cmp.Lexicographic.{pointwise}
use Rattle.wf_model.specs.Task.{Task}
use Rattle.wf_run.specs.Run.{answered}
use Rattle.wf_run.specs.declared.fault.RunFault.{RunFault}
use Rattle.wf_run.proofs.Lemmas.{IsRefusal}
use Rattle.wf_sat_formula.specs.Branches.{branches}
use Rattle.wf_run_branches.specs.Refuting.{accepted_in}
use Rattle.wf_run_branches.specs.Verifying.{IsPartOf, JudgesPart}

module _ (words : List ℕ) (i n r : ℕ) where
  -- how it ends
  abbrev pub by_rounds : Bool → List ℕ
  by_rounds one = words ++ (codes " in branch " ++ (decimal i ++ (codes " of " ++ (decimal n
      ++ (if one then codes " at 1 round" ++ 10 ∷ [] else codes " at " ++ (decimal r ++ (codes " rounds" ++ 10 ∷ [])))))))

  pub after_one : r ≡ 1 → by_rounds true ≡ accepted_in words i n r
  after_one is = ap by_rounds (sym (eq-eqb r 1 is))

  other : (r ≡ 1 → ⊥) → (r == 1) ≡ false
  other not_one = elim (cases_Bool (r == 1)) [ inl one ↦ absurd (not_one (eqb-true r 1 one)) | inr never ↦ never ]

  pub after_several : (r ≡ 1 → ⊥) → by_rounds false ≡ accepted_in words i n r
  after_several not_one = ap by_rounds (sym (other not_one))

-- what a text begins with
front_is : (head rest : List ℕ) → take (length head) (head ++ rest) ≡ head
front_is [] rest = refl
front_is (x ∷ head) rest = ap (λ xs. x ∷ xs) (front_is head rest)

-- a list is itself, element by element
same_each : (xs : List ℕ) → pointwise (λ x y. x == y) xs xs ≡ true
same_each [] = refl
same_each (x ∷ xs) = and_from (x == x) (pointwise (λ x y. x == y) xs xs) (eq-eqb x x refl) (same_each xs)

-- where another front is found, the text doesn't begin so
pub begins_otherwise : (text head rest front : List ℕ) → front ≡ take (length head) text → false ≡ pointwise (λ x y. x == y) front head → text ≡ head ++ rest → ⊥
begins_otherwise text head rest front is other begins =
    let same : front ≡ head = is ∙ ap (take (length head)) begins ∙ front_is head rest in
    let bad : false ≡ true = other ∙ ap (λ xs. pointwise (λ x y. x == y) xs head) same ∙ same_each head in
    absurd (let never : ⊥ = cc in never)

-- a text that is no part
pub no_part : {A : Type 0} (i : ℕ) (t : Task) (r : ℕ) (text : List ℕ) (e : RunFault) (result : Result (Unit {0} × Vec ℕ A) RunFault) → IsPartOf i (length (branches t r)) text (Err e) → IsRefusal e result
    → JudgesPart i t r text (answered result)
no_part i t r text e (Ok x) is refused = absurd (let ended = refused.0 in let bad : ⊥ = cc in bad)
no_part i t r text e (Err found) is refused = (Err e, is, ap Err refused.1)
