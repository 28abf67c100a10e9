-- The clauses that rule out what a branch has not: how many they are, and their tokens.
use Rattle.std.proofs.Common.{◌≡◌, ℕ, ◌+◌, List, ◌∷◌, ◌++◌, map, flat_map, length, sym, ap, ◌∙◌, arith}
use Rattle.std.proofs.lemmas.List.{length-map}
use Rattle.wf_model.specs.Lists.{below}
use Rattle.wf_sat_text.specs.Clauses.Formula.{Clause}
use Rattle.wf_sat_cnf.specs.Tokens.{clause_tokens, formula_tokens}
use Rattle.wf_sat_cnf.proofs.TextLemmas.{length_more}

-- ---- the clauses of a point

-- so many clauses more
pub counted_more : (f : ℕ → List Clause) (g : ℕ → Clause) (n start before after more : ℕ) (left : List ℕ) → map g left ≡ f n → more ≡ length left
    → after ≡ before + more → before ≡ start + length (flat_map f (below n)) → after ≡ start + length (flat_map f (below (n + 1)))
counted_more f g n start before after more left here counted added so_far =
    let long : length left ≡ length (f n) = sym (length-map left g) ∙ ap length here in
    omega (arith, long, counted, added, so_far, length_more f n)

-- the clauses of values that begin so
pub next_clause : (f : ℕ → Clause) (v : ℕ) (left rest : List ℕ) → left ≡ v ∷ rest → formula_tokens (map f left) ≡ clause_tokens (f v) ++ formula_tokens (map f rest)
next_clause f v left rest is = ap (λ vs. formula_tokens (map f vs)) is
