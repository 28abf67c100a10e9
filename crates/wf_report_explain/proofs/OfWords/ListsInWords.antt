-- Lists in words, element by element.
use Rattle.std.proofs.Common.{ℕ, zero, suc, List}
use Rattle.wf_report_explain.specs.Words.Text.{list_text, others_text}

-- what is to come of a list once so many are told
abbrev pub rest_of : {X : Type 0} → (X → List ℕ) → List ℕ → List ℕ → ℕ → List X → List ℕ
rest_of text between last zero xs = list_text text between last xs
rest_of text between last (suc n) xs = others_text text between last xs
