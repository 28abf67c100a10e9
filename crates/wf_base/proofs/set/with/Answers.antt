use Rattle.std.proofs.Common.{◌≡◌, [], ◌∷◌, refl, arith}
use Rattle.std.specs.Prelude.{bit_or}
use Rattle.wf_base.proofs.OfSet.SetLaws.{added_at, in_four, part_of}
use Rattle.wf_base.proofs.set.with.Goals as goal

pub returns-then-value-lt64 : goal.returns-then-value-lt64
returns-then-value-lt64 c =
    let more = bit_or (part_of c.args.set 0) c.singleton-bit.result ∷ part_of c.args.set 1 ∷ part_of c.args.set 2 ∷ part_of c.args.set 3 ∷ [] in
    added_at c.args.set more c.args.value c.singleton-bit.result 0 c.ranges.value.fits (omega arith) (omega (arith, c.if-value-lt64.true)) c.singleton-bit.ensures refl
    (in_four (λ j. (j ≡ 0 → ⊥) → part_of more j ≡ part_of c.args.set j) (λ ne. absurd (ne refl)) (λ ne. refl) (λ ne. refl) (λ ne. refl))

pub returns-then-value-lt128 : goal.returns-then-value-lt128
returns-then-value-lt128 c =
    let more = part_of c.args.set 0 ∷ bit_or (part_of c.args.set 1) c.singleton-bit.result ∷ part_of c.args.set 2 ∷ part_of c.args.set 3 ∷ [] in
    added_at c.args.set more c.args.value c.singleton-bit.result 1 c.ranges.value.fits (omega arith) (omega (arith, c.if-value-lt64.false, c.if-value-lt128.true)) c.singleton-bit.ensures refl
    (in_four (λ j. (j ≡ 1 → ⊥) → part_of more j ≡ part_of c.args.set j) (λ ne. refl) (λ ne. absurd (ne refl)) (λ ne. refl) (λ ne. refl))

pub returns-then-value-lt192 : goal.returns-then-value-lt192
returns-then-value-lt192 c =
    let more = part_of c.args.set 0 ∷ part_of c.args.set 1 ∷ bit_or (part_of c.args.set 2) c.singleton-bit.result ∷ part_of c.args.set 3 ∷ [] in
    added_at c.args.set more c.args.value c.singleton-bit.result 2 c.ranges.value.fits (omega arith) (omega (arith, c.if-value-lt128.false, c.if-value-lt192.true)) c.singleton-bit.ensures refl
    (in_four (λ j. (j ≡ 2 → ⊥) → part_of more j ≡ part_of c.args.set j) (λ ne. refl) (λ ne. refl) (λ ne. absurd (ne refl)) (λ ne. refl))

pub returns-else-value-lt192 : goal.returns-else-value-lt192
returns-else-value-lt192 c =
    let more = part_of c.args.set 0 ∷ part_of c.args.set 1 ∷ part_of c.args.set 2 ∷ bit_or (part_of c.args.set 3) c.singleton-bit.result ∷ [] in
    added_at c.args.set more c.args.value c.singleton-bit.result 3 c.ranges.value.fits (omega arith) (omega (arith, c.if-value-lt192.false, c.ranges.value.fits)) c.singleton-bit.ensures refl
    (in_four (λ j. (j ≡ 3 → ⊥) → part_of more j ≡ part_of c.args.set j) (λ ne. refl) (λ ne. refl) (λ ne. refl) (λ ne. absurd (ne refl)))
