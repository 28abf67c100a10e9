-- The margin of a line, level by level.
use Rattle.std.proofs.Common.{◌≡◌, ◌<◌, ◌≤◌, ℕ, suc, ◌+◌, ◌-◌, List, ◌++◌, codes, append_assoc, sym, ap, ◌∙◌, arith}
use Rattle.wf_report_explain.specs.Words.Text.{margin}

pub one_level : (depth n : ℕ) (t t' whole : List ℕ) → n < depth → t' ≡ t ++ codes "  " → t ++ margin (depth - n) ≡ whole → t' ++ margin (depth - (n + 1)) ≡ whole
one_level depth n t t' whole low is told =
    let next : depth - n ≡ suc (depth - (n + 1)) = omega (arith, low) in
    ap (λ u. u ++ margin (depth - (n + 1))) is ∙ append_assoc t (codes "  ") (margin (depth - (n + 1))) ∙ ap (λ k. t ++ margin k) (sym next) ∙ told

pub no_level : (depth n : ℕ) (t t' whole : List ℕ) → depth ≤ n → t' ≡ t ++ codes "  " → t ++ margin (depth - n) ≡ whole → t' ≡ whole
no_level depth n t t' whole high is told =
    let none : depth - n ≡ 0 = omega (arith, high) in
    is ∙ ap (λ k. t ++ margin k) (sym none) ∙ told
