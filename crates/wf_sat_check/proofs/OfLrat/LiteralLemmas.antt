-- Literals and their codes say the same.
use Rattle.std.proofs.Common.{◌≡◌, ℕ, ◌+◌, ◌*◌, ◌/◌, ◌%◌, ◌≤◌, Bool, true, false, List, [], ◌∷◌, ◌++◌, refl, sym, ◌∙◌, ap, arith, length, take, length-take}
use Rattle.std.specs.Prelude.{◌==◌, ◌||◌, if◌then◌else◌, is_ok, OnOk, Result, Ok, Err}
use Rattle.std.proofs.lemmas.List.{map-append, take-take}
use Rattle.wf_sat_text.specs.Clauses.Formula.{Literal, neg, pos}
use Rattle.wf_sat_text.specs.Drat.Codes.{code_of, code_of-literal_of, literal_of}
use Rattle.wf_sat_check.specs.Store.Literals.{has, with_literal}
use Rattle.wf_sat_check.specs.Lrat.Hints.{is_on, with_true}
use Rattle.wf_sat_check.specs.Lrat.Slots.{clause_of}

-- a literal is that of its code
pub literal_of-code_of : (l : Literal) → literal_of (code_of l) ≡ l
literal_of-code_of (pos v) =
    let even : (2 * v) % 2 ≡ 0 = omega arith in
    let half : (2 * v) / 2 ≡ v = omega arith in
    rw (even, half) refl
literal_of-code_of (neg v) =
    let odd : (2 * v + 1) % 2 ≡ 1 = omega arith in
    let half : (2 * v + 1) / 2 ≡ v = omega arith in
    rw (odd, half) refl

same_test : (a b c d : ℕ) → a ≡ c → b ≡ d → (a == b) ≡ (c == d)
same_test a b c d p q = ap (λ n. n == b) p ∙ ap (λ n. c == n) q

-- two literals are the same if their codes are
pub same_literal : (c d : ℕ) → (code_of (literal_of c) == code_of (literal_of d)) ≡ (c == d)
same_literal c d = same_test (code_of (literal_of c)) (code_of (literal_of d)) c d (code_of-literal_of c) (code_of-literal_of d)

-- a literal is on the trail of some codes if its code is among them
pub is_on-codes : (codes : List ℕ) (l : ℕ) → is_on (clause_of codes) (literal_of l) ≡ has codes l
is_on-codes [] l = refl
is_on-codes (c ∷ cs) l =
    ap (λ b. b || is_on (clause_of cs) (literal_of l)) (same_literal c l)
    ∙ ap (λ b. (c == l) || b) (is_on-codes cs l)

-- ---- a literal more is on the trail

with-either : (codes : List ℕ) (l : ℕ) (b : Bool)
    → clause_of (if b then codes else codes ++ l ∷ []) ≡ (if b then clause_of codes else clause_of codes ++ literal_of l ∷ [])
with-either codes l true = refl
with-either codes l false = map-append literal_of codes (l ∷ [])

pub with_true-codes : (codes : List ℕ) (l : ℕ) → clause_of (with_literal codes l) ≡ with_true (clause_of codes) (literal_of l)
with_true-codes codes l =
    with-either codes l (has codes l)
    ∙ ap (λ b. if b then clause_of codes else clause_of codes ++ literal_of l ∷ []) (sym (is_on-codes codes l))

-- a list that begins with one that begins with a third one begins with that
pub front_on : (old mid new : List ℕ) → take (length old) mid ≡ old → take (length mid) new ≡ mid → take (length old) new ≡ old
front_on old mid new first second =
    let short : length old ≤ length mid = omega (arith, length-take (length old) mid, ap length first) in
    sym (take-take (length old) (length mid) new short) ∙ ap (take (length old)) second ∙ first

-- what a trail's call says, of literals
pub put-literals : {A E : Type 0} (r : Result A E) (old new : List ℕ) (l : ℕ) → new ≡ (if is_ok r then with_literal old l else old)
    → OnOk r (clause_of new ≡ with_true (clause_of old) (literal_of l))
put-literals (Ok x) old new l is = ap clause_of is ∙ with_true-codes old l
put-literals (Err e) old new l is = tt
