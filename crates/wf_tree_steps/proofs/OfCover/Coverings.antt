-- A cover without a fault is a covering, and a covering has no fault.
use Rattle.std.proofs.Common.{◌≡◌, ℕ, zero, suc, ◌==◌, ◌<◌, nat_le, nat_lt, not, Bool, true, false, cond, List, [], ◌∷◌, Contains, length, None, Some, refl, sym, ap, ◌∙◌, arith}
use Rattle.std.specs.List.{list_all}
use Rattle.std.proofs.lemmas.Bool.{and_from, and_parts, false≢true, le-leb, leb-true, lt-ltb, ltb-true, ne_eqb}
use Rattle.wf_model.specs.Task.{Task, Tuple}
use Rattle.wf_tree_model.specs.Covers.{Covering, IsCovering, is_flat_on}
use Rattle.wf_tree_steps.specs.declared.cover.cover.CoverFault.TheVariants.{OneParticipant, NoCorner, NoSheet, NotFlat}
use Rattle.wf_tree_steps.specs.Cover.Faults.{NoFaultExactlyIfCovering, cover_fault, flat_fault}

flat_if : (c : Covering) (place : ℕ) (tuples : List Tuple) → flat_fault c place tuples ≡ None → list_all (is_flat_on c) tuples ≡ true
flat_if c place [] h = refl
flat_if c place (tuple ∷ tuples) h = by (is_flat_on c tuple) refl (flat_if c (suc place) tuples)
  where
    by : (b : Bool) → is_flat_on c tuple ≡ b → (flat_fault c (suc place) tuples ≡ None → list_all (is_flat_on c) tuples ≡ true) → list_all (is_flat_on c) (tuple ∷ tuples) ≡ true
    by true is rest = and_from (is_flat_on c tuple) (list_all (is_flat_on c) tuples) is (rest (sym (ap (λ b. cond b (flat_fault c (suc place) tuples) (Some (NotFlat place))) is) ∙ h))
    by false is rest = let bad : Some (NotFlat place) ≡ None = sym (ap (λ b. cond b (flat_fault c (suc place) tuples) (Some (NotFlat place))) is) ∙ h in absurd (let none : ⊥ = cc in none)

if_flat : (c : Covering) (place : ℕ) (tuples : List Tuple) → list_all (is_flat_on c) tuples ≡ true → flat_fault c place tuples ≡ None
if_flat c place [] h = refl
if_flat c place (tuple ∷ tuples) h =
    let both = and_parts (is_flat_on c tuple) (list_all (is_flat_on c) tuples) h in
    ap (λ b. cond b (flat_fault c (suc place) tuples) (Some (NotFlat place))) both.0 ∙ if_flat c (suc place) tuples both.1

positive : (n : ℕ) → (n == 0) ≡ false → 0 < n
positive zero h = absurd (false≢true (sym h))
positive (suc n) h = omega arith

not_zero : (n : ℕ) → 0 < n → (n == 0) ≡ false
not_zero n h = ne_eqb n 0 (λ e. let none : ⊥ = omega (arith, h, e) in none)

covering_if : (t : Task) (c : Covering) → Contains t.delta c.rule → cover_fault c ≡ None → IsCovering t c
covering_if t c listed h =
    by (nat_le 2 n) refl (nat_lt c.corner n) refl (c.sheets == 0) refl h
  where
    n : ℕ
    n = length c.rule.input

    by : (many : Bool) → nat_le 2 n ≡ many → (inside : Bool) → nat_lt c.corner n ≡ inside → (empty : Bool) → (c.sheets == 0) ≡ empty →
        cond (not many) (Some OneParticipant) (cond (not inside) (Some NoCorner) (cond empty (Some NoSheet) (flat_fault c 0 c.rule.tuples))) ≡ None → IsCovering t c
    by true many true inside false some h = record {
      listed = listed;
      some = leb-true 2 n many;
      inside = ltb-true c.corner n inside;
      some_sheet = positive c.sheets some;
      flat = flat_if c 0 c.rule.tuples h;
    }
    by true many true inside true none h = absurd (let bad : ⊥ = cc in bad)
    by true many false outside empty e h = absurd (let bad : ⊥ = cc in bad)
    by false one inside e empty d h = absurd (let bad : ⊥ = cc in bad)

if_covering : (t : Task) (c : Covering) → IsCovering t c → cover_fault c ≡ None
if_covering t c is =
    let n = length c.rule.input in
    ap (λ b. cond (not b) (Some OneParticipant) (cond (not (nat_lt c.corner n)) (Some NoCorner) (cond (c.sheets == 0) (Some NoSheet) (flat_fault c 0 c.rule.tuples)))) (le-leb 2 n is.some)
    ∙ ap (λ b. cond (not b) (Some NoCorner) (cond (c.sheets == 0) (Some NoSheet) (flat_fault c 0 c.rule.tuples))) (lt-ltb c.corner n is.inside)
    ∙ ap (λ b. cond b (Some NoSheet) (flat_fault c 0 c.rule.tuples)) (not_zero c.sheets is.some_sheet)
    ∙ if_flat c 0 c.rule.tuples is.flat

pub exact : NoFaultExactlyIfCovering
exact t c listed = (covering_if t c listed, if_covering t c)
