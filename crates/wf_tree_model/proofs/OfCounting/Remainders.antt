-- Numbers with one remainder.
use Rattle.std.proofs.Common.{◌≡◌, ℕ, ◌+◌, ◌-◌, ◌*◌, ◌%◌, ◌<◌, refl, sym, ap, ◌∙◌, arith}
use Rattle.std.proofs.Math.Nat.{add-mod, add-mul, add-mul-mod_self_left}

pub both_same : (k a b c d : ℕ) → a % k ≡ b % k → c % k ≡ d % k → (a + c) % k ≡ (b + d) % k
both_same k a b c d p q = add-mod a c k ∙ ap (λ x. (x + c % k) % k) p ∙ ap (λ y. (b % k + y) % k) q ∙ sym (add-mod b d k)

pub taken_away : (k a b c : ℕ) → 0 < k → (a + c) % k ≡ (b + c) % k → a % k ≡ b % k
taken_away k a b c some h =
    let j = k - 1 in
    let k_is : k ≡ j + 1 = omega arith in
    let whole : c + j * c ≡ k * c = let e = add-mul j 1 c in let o : 1 * c ≡ c = grind arith in let s : k * c ≡ (j + 1) * c = ap (λ m. m * c) k_is in omega (arith, e, o, s) in
    let both = both_same k (a + c) (b + c) (j * c) (j * c) h refl in
    let l : (a + c) + j * c ≡ a + k * c = omega (arith, whole) in
    let r : (b + c) + j * c ≡ b + k * c = omega (arith, whole) in
    sym (add-mul-mod_self_left a k c) ∙ ap (λ n. n % k) (sym l) ∙ both ∙ ap (λ n. n % k) r ∙ add-mul-mod_self_left b k c
