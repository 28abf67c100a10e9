-- Where a part ends.
use Rattle.std.proofs.Common.{◌≡◌, ◌<◌, ◌-◌, ◌+◌, ℕ, suc, zero, false, List, [], ◌∷◌, drop, take, length, length-drop, sym, ap, ◌∙◌, arith, if◌then◌else◌}
use Rattle.std.proofs.Math.Seq.{take-length}
use Rattle.wf_run_branches.specs.Joining.{ends_here, part_length}

-- what is left of a text
rest_is : (text : List ℕ) (at : ℕ) → take (length text - at) (drop at text) ≡ drop at text
rest_is text at = ap (λ n. take n (drop at text)) (sym (length-drop at text)) ∙ take-length (drop at text)

-- a part goes on where the mark isn't
goes_on : (text : List ℕ) (at : ℕ) → at < length text → ends_here (drop at text) ≡ false → part_length (drop at text) ≡ suc (part_length (drop (suc at) text))
goes_on [] at low is = absurd (omega arith)
goes_on (b ∷ bs) zero low is = ap (λ found. if found then 5 else suc (part_length bs)) is
goes_on (b ∷ bs) (suc at) low is = goes_on bs at (omega arith) is

-- the same of what is left
pub left_open : (text : List ℕ) (at : ℕ) → at < length text → ends_here (take (length text - at) (drop at text)) ≡ false → part_length (drop at text) ≡ suc (part_length (drop (at + 1) text))
left_open text at low is =
    let next : suc at ≡ at + 1 = omega arith in
    goes_on text at low (ap ends_here (sym (rest_is text at)) ∙ is) ∙ ap (λ k. suc (part_length (drop k text))) next
