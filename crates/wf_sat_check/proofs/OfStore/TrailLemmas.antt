-- Laws of the trail: its list, the marks, and what holds under an assignment.
use Rattle.std.proofs.Common.{◌≡◌, ℕ, ◌/◌, ◌%◌, ◌<◌, drop, zero, suc, Bool, true, false, List, [], ◌∷◌, ◌++◌, refl, sym, ◌∙◌, ap, subst, arith, length, take, get_or, replicate, inl, inr}
use Rattle.std.specs.Prelude.{◌==◌, ◌||◌, not, if◌then◌else◌}
use Rattle.std.specs.List.{All, list_any}
use Rattle.std.specs.Int.Bits.{bit_xor, xor_zero_r}
use Rattle.std.proofs.Math.Bool.{not-not}
use Rattle.std.proofs.lemmas.Nat.{xor_shr, xor_mod}
use Rattle.std.proofs.lemmas.List.{get_or_past, get_or-replicate, take-append-drop}
use Rattle.std.proofs.lemmas.List.Folds.{list_any-append, list_any_at}
use Rattle.std.proofs.lemmas.Bool.{cases_eq, cases_lt, false≢true}
use Rattle.std.proofs.lemmas.Grind.{common_steps}
use Rattle.wf_sat_text.specs.Clauses.Formula.{Assignment}
use Rattle.wf_sat_text.specs.Drat.Codes.{hold_codes, holds_code}
use Rattle.wf_sat_check.specs.Store.Literals.{has, with_literal}

pub same_test : (a b : ℕ) → a ≡ b → (a == b) ≡ true
same_test a b h = grind (arith, h)

pub other_test : (a b : ℕ) → (a ≡ b → ⊥) → (a == b) ≡ false
other_test a b h = grind (arith, h)

or_right : (a b : Bool) → b ≡ true → (a || b) ≡ true
or_right true b h = refl
or_right false b h = h

or_left : (a b : Bool) → b ≡ false → (a || b) ≡ a
or_left true b h = refl
or_left false b h = h

one-of : (x l : ℕ) → has (x ∷ []) l ≡ (x == l)
one-of x l = grind (arith, common_steps)

pub has-push : (xs : List ℕ) (x l : ℕ) → has (xs ++ x ∷ []) l ≡ (has xs l || (x == l))
has-push xs x l = list_any-append (λ y. y == l) xs (x ∷ []) ∙ ap (λ b. has xs l || b) (one-of x l)

pub has-pushed : (xs : List ℕ) (x : ℕ) → has (xs ++ x ∷ []) x ≡ true
has-pushed xs x = has-push xs x x ∙ or_right (has xs x) (x == x) (same_test x x refl)

-- ---- the marks are those of the list

grown : (marks : List Bool) (m l : ℕ) → get_or (marks ++ replicate m false) l false ≡ get_or marks l false
grown [] m l = elim (cases_lt l m) [
  | inl within ↦ get_or-replicate m l false false within
  | inr beyond ↦ get_or_past (replicate m false) l false (grind (arith, common_steps, beyond))
]
grown (x ∷ marks) m zero = refl
grown (x ∷ marks) m (suc l) = grown marks m l

-- ---- a literal more

with-either : (xs : List ℕ) (l x : ℕ) (b : Bool) → has xs x ≡ true → has (if b then xs else xs ++ l ∷ []) x ≡ true
with-either xs l x true h = h
with-either xs l x false h = has-push xs l x ∙ ap (λ b. b || (l == x)) h

pub has-with : (xs : List ℕ) (l x : ℕ) → has xs x ≡ true → has (with_literal xs l) x ≡ true
has-with xs l x h = with-either xs l x (has xs l) h

with-same : (xs : List ℕ) (l : ℕ) (b : Bool) → b ≡ has xs l → has (if b then xs else xs ++ l ∷ []) l ≡ true
with-same xs l true h = sym h
with-same xs l false h = has-pushed xs l

pub has-with_same : (xs : List ℕ) (l : ℕ) → has (with_literal xs l) l ≡ true
has-with_same xs l = with-same xs l (has xs l) refl

-- ---- a list that begins with another

or_first : (a b : Bool) → a ≡ true → (a || b) ≡ true
or_first true b h = refl
or_first false b h = absurd (false≢true h)

pub has-front : (old new : List ℕ) (x : ℕ) → take (length old) new ≡ old → has old x ≡ true → has new x ≡ true
has-front old new x front h =
    let parts : take (length old) new ++ drop (length old) new ≡ new = take-append-drop (length old) new in
    let first : has (take (length old) new) x ≡ true = ap (λ ys. has ys x) front ∙ h in
    ap (λ ys. has ys x) (sym parts) ∙ list_any-append (λ y. y == x) (take (length old) new) (drop (length old) new)
    ∙ or_first (has (take (length old) new) x) (has (drop (length old) new) x) first

-- it has each literal of that one
pub All-has_front : (old new : List ℕ) → take (length old) new ≡ old → All (λ l. has new l ≡ true) old
All-has_front old new front = λ k d here.
    has-front old new (get_or old k d) front (list_any_at (λ y. y == get_or old k d) old k d here (same_test (get_or old k d) (get_or old k d) refl))

-- ---- what holds under an assignment

flipped : (a : Assignment) (r q : ℕ) → r < 2 → (if bit_xor r 1 == 0 then a q else not (a q)) ≡ not (if r == 0 then a q else not (a q))
flipped a zero q h = refl
flipped a (suc zero) q h = sym (not-not (a q))
flipped a (suc (suc r)) q h = absurd (omega arith)

-- of a literal and its negation one holds
pub holds_code-negated : (a : Assignment) (l : ℕ) → holds_code a (bit_xor l 1) ≡ not (holds_code a l)
unfolding holds_code
holds_code-negated a l =
    let same : bit_xor l 1 / 2 ≡ l / 2 = xor_shr l 1 1 ∙ xor_zero_r (l / 2) in
    let other : bit_xor l 1 % 2 ≡ bit_xor (l % 2) 1 = xor_mod l 1 1 in
    let small : l % 2 < 2 = omega arith in
    rw (same, other) (flipped a (l % 2) (l / 2) small)

-- where all literals of a list hold, one of them does
pub holds_code-of_all : (a : Assignment) (ls : List ℕ) (l : ℕ) → hold_codes a ls ≡ true → list_any (λ x. x == l) ls ≡ true → holds_code a l ≡ true
holds_code-of_all a [] l all here = cc
holds_code-of_all a (x ∷ xs) l all here = grind (arith, common_steps, holds_code-of_all a xs l)

-- ---- one literal of a list

pub has-behind : (x y : ℕ) (ys : List ℕ) → (y ≡ x → ⊥) → has (y ∷ ys) x ≡ true → has ys x ≡ true
has-behind x y ys other h = grind (arith, common_steps, h, other)

pub All-has : (P : ℕ → Type 0) (xs : List ℕ) (x : ℕ) → All P xs → has xs x ≡ true → P x
All-has P [] x all h = absurd (false≢true h)
All-has P (y ∷ ys) x all h = elim (cases_eq y x) [
  | inl same ↦ let first : 0 < length (y ∷ ys) = omega arith in subst P same (all 0 0 first)
  | inr other ↦
      let rest : All P ys = λ k d here. let deeper : suc k < length (y ∷ ys) = omega arith in all (suc k) d deeper in
      All-has P ys x rest (has-behind x y ys other h)
]

pub has-first : (y : ℕ) (ys : List ℕ) → has (y ∷ ys) y ≡ true
has-first y ys = grind (arith, common_steps)
