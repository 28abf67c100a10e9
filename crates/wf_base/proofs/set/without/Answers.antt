use Rattle.std.proofs.Common.{◌≡◌, [], ◌∷◌, refl, arith}
use Rattle.wf_base.proofs.OfSet.SetLaws.{in_four, lost_at, part_of}
use Rattle.wf_base.proofs.set.without.Goals as goal

pub returns-then-value-lt64 : goal.returns-then-value-lt64
returns-then-value-lt64 c =
    let kept = c.without.result ∷ part_of c.args.set 1 ∷ part_of c.args.set 2 ∷ part_of c.args.set 3 ∷ [] in
    lost_at c.args.set kept c.args.value 0 (omega arith) (omega (arith, c.if-value-lt64.true)) c.without.ensures
    (in_four (λ j. (j ≡ 0 → ⊥) → part_of kept j ≡ part_of c.args.set j) (λ ne. absurd (ne refl)) (λ ne. refl) (λ ne. refl) (λ ne. refl))

pub returns-then-value-lt128 : goal.returns-then-value-lt128
returns-then-value-lt128 c =
    let kept = part_of c.args.set 0 ∷ c.without-then-value-lt128.result ∷ part_of c.args.set 2 ∷ part_of c.args.set 3 ∷ [] in
    lost_at c.args.set kept c.args.value 1 (omega arith) (omega (arith, c.if-value-lt64.false, c.if-value-lt128.true)) c.without-then-value-lt128.ensures
    (in_four (λ j. (j ≡ 1 → ⊥) → part_of kept j ≡ part_of c.args.set j) (λ ne. refl) (λ ne. absurd (ne refl)) (λ ne. refl) (λ ne. refl))

pub returns-then-value-lt192 : goal.returns-then-value-lt192
returns-then-value-lt192 c =
    let kept = part_of c.args.set 0 ∷ part_of c.args.set 1 ∷ c.without-then-value-lt192.result ∷ part_of c.args.set 3 ∷ [] in
    lost_at c.args.set kept c.args.value 2 (omega arith) (omega (arith, c.if-value-lt128.false, c.if-value-lt192.true)) c.without-then-value-lt192.ensures
    (in_four (λ j. (j ≡ 2 → ⊥) → part_of kept j ≡ part_of c.args.set j) (λ ne. refl) (λ ne. refl) (λ ne. absurd (ne refl)) (λ ne. refl))

pub returns-else-value-lt192 : goal.returns-else-value-lt192
returns-else-value-lt192 c =
    let kept = part_of c.args.set 0 ∷ part_of c.args.set 1 ∷ part_of c.args.set 2 ∷ c.without-else-value-lt192.result ∷ [] in
    lost_at c.args.set kept c.args.value 3 (omega arith) (omega (arith, c.if-value-lt192.false, c.ranges.value.fits)) c.without-else-value-lt192.ensures
    (in_four (λ j. (j ≡ 3 → ⊥) → part_of kept j ≡ part_of c.args.set j) (λ ne. refl) (λ ne. refl) (λ ne. refl) (λ ne. absurd (ne refl)))
