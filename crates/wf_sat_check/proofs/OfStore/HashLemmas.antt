-- Clauses with the same literals have one hash.
use Rattle.std.proofs.Common.{◌≡◌, ℕ, ◌+◌, ◌%◌, ◌<◌, suc, Bool, true, false, List, [], ◌∷◌, refl, sym, ◌∙◌, ap, subst, arith, length, take, get_or, inl, inr}
use Rattle.std.specs.Prelude.{◌==◌, ◌||◌, ◌^◌, if◌then◌else◌}
use Rattle.std.specs.List.{sum_by}
use Rattle.std.proofs.lemmas.Bool.{cases_eq, false≢true}
use Rattle.std.proofs.lemmas.List.Sums.{sum_by-cons}
use Rattle.wf_sat_check.specs.Store.Alike.{AreAlike}
use Rattle.wf_sat_check.specs.Store.Index.{IsHashOf, first_step, joined, mixed, second_step, sum_of_each}
use Rattle.wf_sat_check.specs.Store.Literals.{IsDistinct, has}
use Rattle.wf_sat_check.proofs.OfStore.TrailLemmas.{All-has, has-behind, has-first, other_test, same_test}

-- ---- lists without doubles

abbrev Once : List ℕ → Type 0
Once [] = Unit {0}
Once (x ∷ xs) = (has xs x ≡ false) × Once xs

or-right : (a b : Bool) → (a || b) ≡ false → b ≡ false
or-right false b h = h
or-right true b h = absurd (false≢true (sym h))

or-left : (a b : Bool) → (a || b) ≡ false → a ≡ false
or-left false b h = refl
or-left true b h = absurd (false≢true (sym h))

or-neither : (a b : Bool) → a ≡ false → b ≡ false → (a || b) ≡ false
or-neither false b h k = k
or-neither true b h k = h

flip-test : (a b : ℕ) → (a == b) ≡ false → (b == a) ≡ false
flip-test a b h = grind (arith, h)

none-there : (x : ℕ) (xs : List ℕ) → ((k d : ℕ) → k < length xs → (get_or xs k d == x) ≡ false) → has xs x ≡ false
none-there x [] h = refl
none-there x (y ∷ ys) h =
    let first : 0 < length (y ∷ ys) = omega arith in
    or-neither (y == x) (has ys x) (h 0 0 first)
    (none-there x ys (λ k d here. let deeper : suc k < length (y ∷ ys) = omega arith in h (suc k) d deeper))

once-of : (xs : List ℕ) → IsDistinct xs → Once xs
once-of [] h = tt
once-of (x ∷ xs) h =
    let later : (k d : ℕ) → k < length xs → (x == get_or xs k d || has (take k xs) (get_or xs k d)) ≡ false =
    λ k d here. let deeper : suc k < length (x ∷ xs) = omega arith in h (suc k) d deeper in (
      none-there x xs (λ k d here. flip-test x (get_or xs k d) (or-left (x == get_or xs k d) (has (take k xs) (get_or xs k d)) (later k d here))),
      once-of xs (λ k d here. or-right (x == get_or xs k d) (has (take k xs) (get_or xs k d)) (later k d here)),
    )

without : ℕ → List ℕ → List ℕ
without x [] = []
without x (y ∷ ys) = if y == x then ys else y ∷ without x ys

without-here : (x y : ℕ) (ys : List ℕ) → y ≡ x → without x (y ∷ ys) ≡ ys
unfolding without
without-here x y ys e = ap (λ (b : Bool). if b then ys else y ∷ without x ys) (same_test y x e)

without-there : (x y : ℕ) (ys : List ℕ) → (y ≡ x → ⊥) → without x (y ∷ ys) ≡ y ∷ without x ys
unfolding without
without-there x y ys e = ap (λ (b : Bool). if b then ys else y ∷ without x ys) (other_test y x e)

without-none : (x : ℕ) → without x [] ≡ []
unfolding without
without-none x = refl

has-here : (y l : ℕ) (ys : List ℕ) → (y ≡ l → ⊥) → has (y ∷ ys) l ≡ has ys l
has-here y l ys other = ap (λ b. b || has ys l) (other_test y l other)

has-without : (x l : ℕ) (ys : List ℕ) → (x ≡ l → ⊥) → has (without x ys) l ≡ has ys l
has-without x l [] other = ap (λ zs. has zs l) (without-none x)
has-without x l (y ∷ ys) other = elim (cases_eq y x) [
  | inl same ↦ ap (λ zs. has zs l) (without-here x y ys same) ∙ sym (has-here y l ys (λ e. other (sym same ∙ e)))
  | inr apart ↦ ap (λ zs. has zs l) (without-there x y ys apart) ∙ ap (λ b. (y == l) || b) (has-without x l ys other)
]

has-gone : (x : ℕ) (ys : List ℕ) → Once ys → has (without x ys) x ≡ false
has-gone x [] once = ap (λ zs. has zs x) (without-none x)
has-gone x (y ∷ ys) once = elim (cases_eq y x) [
  | inl same ↦ ap (λ zs. has zs x) (without-here x y ys same) ∙ ap (has ys) (sym same) ∙ once.0
  | inr apart ↦ ap (λ zs. has zs x) (without-there x y ys apart) ∙ has-here y x (without x ys) apart ∙ has-gone x ys once.1
]

once-without : (x : ℕ) (ys : List ℕ) → Once ys → Once (without x ys)
once-without x [] once = subst Once (sym (without-none x)) tt
once-without x (y ∷ ys) once = elim (cases_eq y x) [
  | inl same ↦ subst Once (sym (without-here x y ys same)) once.1
  | inr apart ↦ subst Once (sym (without-there x y ys apart)) (has-without x y ys (λ e. apart (sym e)) ∙ once.0, once-without x ys once.1)
]

sum-without : (f : ℕ → ℕ) (x : ℕ) (ys : List ℕ) → has ys x ≡ true → sum_by f ys ≡ f x + sum_by f (without x ys)
sum-without f x [] h = absurd (false≢true h)
sum-without f x (y ∷ ys) h = elim (cases_eq y x) [
  | inl same ↦ sum_by-cons f y ys ∙ ap (λ n. f n + sum_by f ys) same ∙ ap (λ zs. f x + sum_by f zs) (sym (without-here x y ys same))
  | inr apart ↦
      let rest : sum_by f ys ≡ f x + sum_by f (without x ys) = sum-without f x ys (has-behind x y ys apart h) in
      let all : f y + sum_by f ys ≡ f x + (f y + sum_by f (without x ys)) = omega (arith, rest) in
      sum_by-cons f y ys ∙ all
      ∙ ap (λ n. f x + n) (sym (sum_by-cons f y (without x ys)) ∙ ap (sum_by f) (sym (without-there x y ys apart)))
]

none-has : (ys : List ℕ) → ((l : ℕ) → false ≡ has ys l) → ys ≡ []
none-has [] h = refl
none-has (y ∷ ys) h = absurd (false≢true (h y ∙ has-first y ys))

same-rest : (x l : ℕ) (xs ys : List ℕ) → Once (x ∷ xs) → Once ys → ((l : ℕ) → has (x ∷ xs) l ≡ has ys l) → has xs l ≡ has (without x ys) l
same-rest x l xs ys once onces same = elim (cases_eq x l) [
  | inl e ↦ ap (has xs) (sym e) ∙ once.0 ∙ sym (has-gone x ys onces) ∙ ap (has (without x ys)) e
  | inr e ↦ sym (has-here x l xs e) ∙ same l ∙ sym (has-without x l ys e)
]

same-sum : (f : ℕ → ℕ) (xs ys : List ℕ) → Once xs → Once ys → ((l : ℕ) → has xs l ≡ has ys l) → sum_by f xs ≡ sum_by f ys
same-sum f [] ys once onces same = ap (sum_by f) (sym (none-has ys same))
same-sum f (x ∷ xs) ys once onces same =
    sum_by-cons f x xs ∙ ap (λ n. f x + n) (same-sum f xs (without x ys) once.1 (once-without x ys onces) (λ l. same-rest x l xs ys once onces same))
    ∙ sym (sum-without f x ys (sym (same x) ∙ has-first x xs))

-- ---- hashes

both-ways : (a b : Bool) → (a ≡ true → b ≡ true) → (b ≡ true → a ≡ true) → a ≡ b
both-ways true b h k = sym (h refl)
both-ways false true h k = k refl
both-ways false false h k = refl

alike-has : (c d : List ℕ) → AreAlike c d → (l : ℕ) → has c l ≡ has d l
alike-has c d alike l = both-ways (has c l) (has d l) (All-has (λ m. has d m ≡ true) c l alike.1) (All-has (λ m. has c m ≡ true) d l alike.0)

same-sums : (c d : List ℕ) (h k step : ℕ) → AreAlike c d → (one : IsHashOf c h) → (two : IsHashOf d k) → sum_of_each step one.each ≡ sum_of_each step two.each
same-sums c d h k step alike one two =
    ap (λ n. n % 2 ^ 64) (same-sum (mixed step) one.each two.each (once-of one.each one.distinct) (once-of two.each two.distinct)
    (λ l. one.same l ∙ alike-has c d alike l ∙ sym (two.same l)))

pub same-hash : (c d : List ℕ) (h k : ℕ) → AreAlike c d → IsHashOf c h → IsHashOf d k → h ≡ k
same-hash c d h k alike one two =
    one.sum ∙ ap (λ n. joined n (sum_of_each second_step one.each)) (same-sums c d h k first_step alike one two)
    ∙ ap (λ n. joined (sum_of_each first_step two.each) n) (same-sums c d h k second_step alike one two) ∙ sym two.sum
