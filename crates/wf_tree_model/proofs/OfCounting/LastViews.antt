-- Processes of a simplex by their numbers, and how many last views there are.
use Rattle.std.proofs.Common.{◌≡◌, ℕ, suc, ◌+◌, ◌<◌, ◌≤◌, nat_lt, true, List, [], ◌∷◌, length, fold, sym, ◌∙◌, arith}
use Rattle.std.specs.List.{AllByRecursion}
use Rattle.std.proofs.lemmas.Bool.{and_parts, ltb-true}
use Rattle.wf_model.specs.Simplex.{is_ascending}
use Rattle.wf_model.specs.Word.{Word}
use Rattle.wf_model.specs.View.{View, round}
use Rattle.wf_tree_model.proofs.OfCounting.Rounds.{round_long}
use Rattle.wf_tree_model.proofs.OfCounting.Lists.{Between}

pub processes_ascend : (a : ℕ) (ps : List ℕ) (n : ℕ) → a ≤ n → is_ascending ps ≡ true → AllByRecursion (λ p. p < n) ps → AllByRecursion (λ p. a ≤ p) ps → Between a ps n
processes_ascend a [] n le up below from = le
processes_ascend a (p ∷ []) n le up below from = (from.0, below.0)
processes_ascend a (p ∷ q ∷ ps) n le up below from =
    let parts = and_parts (nat_lt p q) (is_ascending (q ∷ ps)) up in
    let first = ltb-true p q parts.0 in
    (from.0, processes_ascend (suc p) (q ∷ ps) n below.0 parts.1 below.1 (first, rest p q ps first parts.1))
  where
    rest : (p q : ℕ) (ps : List ℕ) → p < q → is_ascending (q ∷ ps) ≡ true → AllByRecursion (λ x. suc p ≤ x) ps
    rest p q [] low up = tt
    rest p q (x ∷ ps) low up =
        let parts = and_parts (nat_lt q x) (is_ascending (x ∷ ps)) up in
        let next = ltb-true q x parts.0 in
        let far : p < x = omega (arith, low, next) in
        (far, rest p x ps far parts.1)

pub long_between : (a : ℕ) (xs : List ℕ) (n : ℕ) → Between a xs n → a + length xs ≤ n
long_between a [] n h = omega (arith, h)
long_between a (x ∷ xs) n h = let e = long_between (suc x) xs n h.1 in let l = h.0 in omega (arith, e, l)

pub last_long : (ws : List Word) (old : List View) (n : ℕ) → length old ≡ n → AllByRecursion (λ w. length w ≡ n) ws → length (fold round old ws) ≡ n
last_long [] old n h k = h
last_long (w ∷ ws) old n h k = last_long ws (round old w) n (round_long w old (k.0 ∙ sym h) ∙ h) k.1
