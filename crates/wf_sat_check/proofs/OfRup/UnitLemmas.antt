-- Where propagation stops, nothing follows by it.
use Rattle.std.proofs.Common.{◌≡◌, ℕ, ◌+◌, ◌*◌, ◌/◌, ◌%◌, ◌<◌, zero, suc, Bool, true, false, List, [], ◌∷◌, ◌++◌, refl, sym, ◌∙◌, ap, subst, arith, length, map, get_or, bit_xor, inl, inr}
use Rattle.std.specs.Prelude.{◌==◌}
use Rattle.std.specs.List.{All, Contains, list_any}
use Rattle.std.specs.Int.Bits.{xor_zero_r}
use Rattle.std.proofs.lemmas.Nat.{xor_shr, xor_mod}
use Rattle.std.proofs.lemmas.Bool.{cases_Bool, cases_eq, false≢true}
use Rattle.std.proofs.lemmas.Grind.{common_steps}
use Rattle.std.proofs.lemmas.List.Elements.{All-contains, Contains-append_cases}
use Rattle.wf_sat_text.specs.Clauses.Formula.{Clause, Literal, negation, pos, neg}
use Rattle.wf_sat_text.specs.Drat.Codes.{code_of, code_of-literal_of, literal_of}
use Rattle.wf_sat_check.specs.Store.Literals.{has, opposite}
use Rattle.wf_sat_check.specs.Rup.Seen.{Known, known_of}
use Rattle.wf_sat_check.specs.Rup.Settled.{IsConsistent, IsSettled, Refuses}
use Rattle.wf_sat_check.specs.Rup.Stored.{Stored}
use Rattle.wf_sat_check.proofs.OfStore.Lemmas.{All-has, has-behind, has-first}
use Rattle.wf_sat_check.specs.Rup.Unit.{DoesNotFollow, HasConflict, IsForcedBy, given, last}

-- ---- lists

found-first : (q : ℕ → Bool) (y : ℕ) (ys : List ℕ) → q y ≡ false → list_any q (y ∷ ys) ≡ true → list_any q ys ≡ true
found-first q y ys none h = grind (arith, common_steps, h, none)

has-later : (x y : ℕ) (ys : List ℕ) → has ys x ≡ true → has (y ∷ ys) x ≡ true
has-later x y ys h = grind (arith, common_steps, h)

pub any-found : (q : ℕ → Bool) (xs : List ℕ) → list_any q xs ≡ true → (x : ℕ) × (has xs x ≡ true) × (q x ≡ true)
any-found q [] h = absurd (false≢true h)
any-found q (y ∷ ys) h = elim (cases_Bool (q y)) [
  | inl hit ↦ (y, has-first y ys, hit)
  | inr none ↦
      let later : (x : ℕ) × (has ys x ≡ true) × (q x ≡ true) = any-found q ys (found-first q y ys none h) in
      (later.0, has-later later.0 y ys later.1, later.2)
]

pub Contains-image : {B : Type 0} (f : ℕ → B) (xs : List ℕ) (x : ℕ) → has xs x ≡ true → Contains (map f xs) (f x)
Contains-image {B} f [] x h = absurd (false≢true h)
Contains-image {B} f (y ∷ ys) x h = elim (cases_eq y x) [
  | inl same ↦ let first : 0 < length (f y ∷ map f ys) = omega arith in (0, first, ap f same)
  | inr other ↦
      let there : Contains (map f ys) (f x) = Contains-image f ys x (has-behind x y ys other h) in
      let within : there.0 < length (map f ys) = there.1 in
      let deeper : suc there.0 < length (f y ∷ map f ys) = omega arith in
      (suc there.0, deeper, there.2)
]

pub image-at : {A B : Type 0} (f : A → B) (xs : List A) (y : B) (k : ℕ) → k < length (map f xs) → get_or (map f xs) k y ≡ y
    → (x : A) × Contains xs x × (f x ≡ y)
image-at {A} {B} f [] y k within e = absurd (omega arith)
image-at {A} {B} f (x ∷ xs) y zero within e = let first : 0 < length (x ∷ xs) = omega arith in (x, (0, first, refl), e)
image-at {A} {B} f (x ∷ xs) y (suc k) within e =
    let rest : k < length (map f xs) = omega arith in
    let there : (z : A) × Contains xs z × (f z ≡ y) = image-at f xs y k rest e in
    let where_ : Contains xs there.0 = there.1 in
    let inside : where_.0 < length xs = where_.1 in
    let deeper : suc where_.0 < length (x ∷ xs) = omega arith in
    (there.0, (suc where_.0, deeper, where_.2), there.2)

pub Contains-map : {A B : Type 0} (f : A → B) (xs : List A) (x : A) → Contains xs x → Contains (map f xs) (f x)
Contains-map {A} {B} f [] x (k, within, e) = absurd (omega arith)
Contains-map {A} {B} f (y ∷ ys) x (zero, within, e) = let first : 0 < length (f y ∷ map f ys) = omega arith in (0, first, ap f e)
Contains-map {A} {B} f (y ∷ ys) x (suc k, within, e) =
    let rest : k < length ys = omega arith in
    let there : Contains (map f ys) (f x) = Contains-map f ys x (k, rest, e) in
    let inside : there.0 < length (map f ys) = there.1 in
    let deeper : suc there.0 < length (f y ∷ map f ys) = omega arith in
    (suc there.0, deeper, there.2)

pub Contains-of_image : {A B : Type 0} (f : A → B) (xs : List A) (y : B) → Contains (map f xs) y → (x : A) × Contains xs x × (f x ≡ y)
Contains-of_image f xs y here = image-at f xs y here.0 here.1 here.2

-- ---- the code of a negation

pub code_of-negation : (l : Literal) → code_of (negation l) ≡ opposite (code_of l)
code_of-negation (pos v) =
    let half : bit_xor (2 * v) 1 / 2 ≡ (2 * v) / 2 = xor_shr (2 * v) 1 1 ∙ xor_zero_r ((2 * v) / 2) in
    let even : (2 * v) % 2 ≡ 0 = omega arith in
    let odd : bit_xor (2 * v) 1 % 2 ≡ 1 = xor_mod (2 * v) 1 1 ∙ ap (λ n. bit_xor n 1) even in
    omega (arith, half, odd)
code_of-negation (neg v) =
    let half : bit_xor (2 * v + 1) 1 / 2 ≡ (2 * v + 1) / 2 = xor_shr (2 * v + 1) 1 1 ∙ xor_zero_r ((2 * v + 1) / 2) in
    let odd : (2 * v + 1) % 2 ≡ 1 = omega arith in
    let even : bit_xor (2 * v + 1) 1 % 2 ≡ 0 = xor_mod (2 * v + 1) 1 1 ∙ ap (λ n. bit_xor n 1) odd in
    omega (arith, half, even)

opposite-of : (x : ℕ) → code_of (negation (literal_of x)) ≡ opposite x
opposite-of x = code_of-negation (literal_of x) ∙ ap opposite (code_of-literal_of x)

-- ---- the literals where propagation stops

abbrev clause_of : List ℕ → Clause
clause_of codes = map literal_of codes

contradiction : (trail : List ℕ) (x : ℕ) → has trail x ≡ false → has trail x ≡ true → ⊥
contradiction trail x missing there = false≢true (sym missing ∙ there)

-- no literal is there beside its negation
never-both : (trail : List ℕ) (x : ℕ) → IsConsistent trail → has trail x ≡ true → has trail (opposite x) ≡ true → ⊥
never-both trail x consistent here there = contradiction trail (opposite x) (All-has (λ l. has trail (opposite l) ≡ false) trail x consistent here) there

-- a settled clause isn't false
not-false : (trail codes : List ℕ) → IsConsistent trail → IsSettled trail codes
    → ((m : Literal) → Contains (clause_of codes) m → has trail (code_of (negation m)) ≡ true) → ⊥
not-false trail codes consistent (inl satisfied) each =
    let one : (x : ℕ) × (has codes x ≡ true) × (has trail x ≡ true) = any-found (has trail) codes satisfied in
    never-both trail one.0 consistent one.2 (ap (has trail) (sym (opposite-of one.0)) ∙ each (literal_of one.0) (Contains-image literal_of codes one.0 one.1))
not-false trail codes consistent (inr twice) each =
    contradiction trail (opposite twice.first) twice.first_open.unfalsified
    (ap (has trail) (sym (opposite-of twice.first)) ∙ each (literal_of twice.first) (Contains-image literal_of codes twice.first twice.first_open.inside))

pub apart-not : (x y : ℕ) → (x == y) ≡ false → x ≡ y → ⊥
apart-not x y h e = grind (arith, h, e)

code-of : (x : ℕ) (l : Literal) → literal_of x ≡ l → x ≡ code_of l
code-of x l e = sym (code_of-literal_of x) ∙ ap code_of e

-- where all others are false, the last literal of a settled clause is there
last-there : (trail codes : List ℕ) (l : Literal) → IsConsistent trail → IsSettled trail codes
    → ((m : Literal) → Contains (clause_of codes) m → (m ≡ l → ⊥) → has trail (code_of (negation m)) ≡ true) → has trail (code_of l) ≡ true
last-there trail codes l consistent (inl satisfied) others =
    let one : (x : ℕ) × (has codes x ≡ true) × (has trail x ≡ true) = any-found (has trail) codes satisfied in
    elim (cases_eq one.0 (code_of l)) [
      | inl same ↦ ap (has trail) (sym same) ∙ one.2
      | inr other ↦ absurd (never-both trail one.0 consistent one.2
          (ap (has trail) (sym (opposite-of one.0)) ∙ others (literal_of one.0) (Contains-image literal_of codes one.0 one.1) (λ e. other (code-of one.0 l e))))
    ]
last-there trail codes l consistent (inr twice) others = elim (cases_eq twice.first (code_of l)) [
  | inl same ↦ absurd (contradiction trail (opposite twice.second) twice.second_open.unfalsified
      (ap (has trail) (sym (opposite-of twice.second))
      ∙ others (literal_of twice.second) (Contains-image literal_of codes twice.second twice.second_open.inside)
      (λ e. apart-not twice.second twice.first twice.apart (code-of twice.second l e ∙ sym same))))
  | inr other ↦ absurd (contradiction trail (opposite twice.first) twice.first_open.unfalsified
      (ap (has trail) (sym (opposite-of twice.first))
      ∙ others (literal_of twice.first) (Contains-image literal_of codes twice.first twice.first_open.inside) (λ e. other (code-of twice.first l e))))
]

Contains-coded : (clause : Clause) (m : Literal) → Contains clause m → Contains (map code_of clause) (code_of m)
Contains-coded clause m here = Contains-map code_of clause m here

-- what is assumed is there
assumed-there : (s : Stored) (clause : Clause) (codes : List ℕ) (r : Refuses s codes) → codes ≡ map code_of clause → (l : Literal)
    → Contains ((known_of 0 s).literals ++ map negation clause) l → has r.trail (code_of l) ≡ true
assumed-there s clause codes r e l here = elim (Contains-append_cases (map literal_of s.literals) (map negation clause) l here) [
  | inl known ↦
      let one : (x : ℕ) × Contains s.literals x × (literal_of x ≡ l) = Contains-of_image literal_of s.literals l known in
      ap (has r.trail) (sym (code-of one.0 l one.2)) ∙ All-contains (λ x. has r.trail x ≡ true) s.literals one.0 r.includes one.1
  | inr negated ↦
      let one : (m : Literal) × Contains clause m × (negation m ≡ l) = Contains-of_image negation clause l negated in
      let coded : All (λ x. has r.trail (opposite x) ≡ true) (map code_of clause) = subst (All (λ x. has r.trail (opposite x) ≡ true)) e r.stops.negated in
      ap (λ m. has r.trail (code_of m)) (sym one.2) ∙ ap (has r.trail) (code_of-negation one.0)
      ∙ All-contains (λ x. has r.trail (opposite x) ≡ true) (map code_of clause) (code_of one.0) coded (Contains-coded clause one.0 one.1)
]

settled-clause : (s : Stored) (codes : List ℕ) (r : Refuses s codes) (clause : Clause) → Contains (known_of 0 s).clauses clause
    → (c : List ℕ) × (clause_of c ≡ clause) × IsSettled r.trail c
settled-clause s codes r clause here =
    let one : (c : List ℕ) × Contains s.clauses c × (clause_of c ≡ clause) = Contains-of_image clause_of s.clauses clause here in
    (one.0, one.2, All-contains (IsSettled r.trail) s.clauses one.0 r.stops.stops.settled one.1)

-- and so is all that is forced
pub forced-there : (s : Stored) (clause : Clause) (codes : List ℕ) (r : Refuses s codes) → codes ≡ map code_of clause → (l : Literal)
    → IsForcedBy (known_of 0 s).clauses ((known_of 0 s).literals ++ map negation clause) l → has r.trail (code_of l) ≡ true
forced-there s clause codes r e l (given l2 here) = assumed-there s clause codes r e l2 here
forced-there s clause codes r e l (last c l2 here inside others) =
    let one = settled-clause s codes r c here in
    last-there r.trail one.0 l2 r.stops.stops.consistent one.2
    (λ m within other. forced-there s clause codes r e (negation m) (others m (subst (λ d. Contains d m) one.1 within) other))

no-conflict : (s : Stored) (clause : Clause) (codes : List ℕ) (r : Refuses s codes) → codes ≡ map code_of clause
    → HasConflict (known_of 0 s).clauses ((known_of 0 s).literals ++ map negation clause) → ⊥
no-conflict s clause codes r e (inl (c, here, each)) =
    let one = settled-clause s codes r c here in
    not-false r.trail one.0 r.stops.stops.consistent one.2
    (λ m within. forced-there s clause codes r e (negation m) (each m (subst (λ d. Contains d m) one.1 within)))
no-conflict s clause codes r e (inr (l, one, other)) =
    never-both r.trail (code_of l) r.stops.stops.consistent (forced-there s clause codes r e l one)
    (ap (has r.trail) (sym (code_of-negation l)) ∙ forced-there s clause codes r e (negation l) other)

pub does-not-follow : (v : ℕ) (s : Stored) (known : Known) (clause : Clause) (codes : List ℕ) → known_of v s ≡ known → codes ≡ map code_of clause
    → Refuses s codes → DoesNotFollow known clause
does-not-follow v s known clause codes same e r = subst (λ k. DoesNotFollow k clause) same
    (λ follows. elim follows [
      | inl refuted ↦ false≢true (sym r.unrefuted ∙ refuted)
      | inr conflict ↦ no-conflict s clause codes r e conflict
    ])
