-- The numbers that the refusals of the value lists carry are small.
use Rattle.std.proofs.Common.{◌≡◌, ℕ, suc, ◌+◌, ◌<◌, ◌≤◌, Bool, true, false, cond, List, [], ◌∷◌, length, flat_map, sum_by, Option, None, Some, refl, ap, ◌∙◌, arith}
use Rattle.std.specs.List.{position_from}
use Rattle.std.proofs.lemmas.List.Sums.{sum_by-cons}
use Rattle.wf_model.specs.Simplex.{Simplex}
use Rattle.wf_model.specs.Task.{Rule}
use Rattle.wf_simplex.specs.Order.{same_simplex}
use Rattle.wf_task_parse.specs.RawTask.{Listed}
use Rattle.wf_task.specs.Slots.{entries_in}
use Rattle.wf_task.specs.Judge.{tuples_for, wrong_length, no_output, answer_or, first_answer}
use Rattle.wf_task.proofs.DraftsWithoutFault.{lists_more}

pub place_below : {X : Type 0} (p : X → Bool) (n : ℕ) (xs : List X) (k : ℕ) → position_from p n xs ≡ Some k → k < n + length xs
place_below p n [] k h = cc
place_below {X = X} p n (x ∷ xs) k h = by (p x) (λ g. place_below p (n + 1) xs k g) h
  where
    by : (b : Bool) → (position_from p (n + 1) xs ≡ Some k → k < n + 1 + length xs) → cond b (Some n) (position_from p (n + 1) xs) ≡ Some k → k < n + suc (length xs)
    by true deeper e = let same : n ≡ k = cc in omega (arith, same)
    by false deeper e = omega (arith, deeper e)

-- the simplex that answers, and its number
pub record Answers (f : Simplex → Option ℕ) (bound number place : ℕ) : Type 0 where
  pub below : number < bound
  pub simplex : Simplex
  pub answer : f simplex ≡ Some place

pub answers : (f : Simplex → Option ℕ) (n : ℕ) (inputs : List Simplex) (number place : ℕ) → first_answer f n inputs ≡ Some (number, place) → Answers f (n + length inputs) number place
answers f n [] number place h = cc
answers f n (s ∷ ss) number place h = by (f s) refl (λ g. answers f (n + 1) ss number place g) h
  where
    by : (o : Option ℕ) → f s ≡ o → (first_answer f (n + 1) ss ≡ Some (number, place) → Answers f (n + 1 + length ss) number place) → answer_or o n (first_answer f (n + 1) ss) ≡ Some (number, place) → Answers f (n + suc (length ss)) number place
    by None is deeper e = let rest = deeper e in record { below = omega (arith, rest.below); simplex = rest.simplex; answer = rest.answer }
    by (Some k) is deeper e =
        let pair : ◌≡◌ {A = ℕ × ℕ} (n, k) (number, place) = cc in
        let one = ap (λ (p : ℕ × ℕ). p.0) pair in
        let two = ap (λ (p : ℕ × ℕ). p.1) pair in
        record { below = omega (arith, one); simplex = s; answer = is ∙ ap Some two }

-- the value lists for one simplex are among those of all entries
lists_few : (rules : List Rule) (s : Simplex) → length (flat_map (λ r. r.tuples) (entries_in rules s)) ≤ sum_by (λ r. length r.tuples) rules
lists_few [] s = omega arith
lists_few (rule ∷ rules) s = omega (arith, lists_more rule rules s, sum_by-cons (λ (r : Rule). length r.tuples) rule rules, lists_few rules s, at_most (same_simplex rule.input s) (length rule.tuples))
  where
    at_most : (b : Bool) (n : ℕ) → cond b n 0 ≤ n
    at_most true n = omega arith
    at_most false n = omega arith

pub wrong_place : (listed : Listed) (s : Simplex) (k : ℕ) → wrong_length listed s ≡ Some k → k < sum_by (λ r. length r.tuples) listed.delta
wrong_place listed s k h = omega (arith, place_below _ 0 (tuples_for listed s) k h, lists_few listed.delta s)

pub stray_place : (listed : Listed) (s : Simplex) (k : ℕ) → no_output listed s ≡ Some k → k < sum_by (λ r. length r.tuples) listed.delta
stray_place listed s k h = omega (arith, place_below _ 0 (tuples_for listed s) k h, lists_few listed.delta s)
