-- Sizes in words.
use Rattle.std.proofs.Common.{◌≡◌, ℕ, suc, ◌-◌, ◌<◌, ◌++◌, Bool, true, false, List, [], ◌∷◌, length, get_or, codes, refl, ap, ◌∙◌, arith}
use Rattle.wf_report_explain.specs.Words.Summary.{last_size, processes_text, whose_text}
use Rattle.wf_report_explain.specs.declared.words.summary.SizeCount.{SizeCount}

-- the last of some sizes
last_at : (sizes : List SizeCount) (d : SizeCount) → 0 < length sizes → (get_or sizes (length sizes - 1) d).size ≡ last_size sizes
last_at [] d some = absurd (omega (arith, some))
last_at (x ∷ []) d some = refl
last_at (x ∷ y ∷ more) d some =
    let before : suc (suc (length more)) - 1 ≡ suc (suc (length more) - 1) = omega arith in
    ap (λ i. (get_or (x ∷ y ∷ more) i d).size) before ∙ last_at (y ∷ more) d (omega arith)

-- how many take part at most, where processes go by their ranks
pub at_most : (ranks : Bool) (processes most : List ℕ) (sizes : List SizeCount) (d : SizeCount) → ranks ≡ true → 0 < length sizes → most ≡ processes_text (get_or sizes (length sizes - 1) d).size → codes "at most " ++ most ≡ whose_text ranks processes sizes
at_most true processes most sizes d is some told = ap (λ m. codes "at most " ++ m) (told ∙ ap processes_text (last_at sizes d some))
at_most false processes most sizes d is some told = absurd (let bad : ⊥ = cc in bad)
