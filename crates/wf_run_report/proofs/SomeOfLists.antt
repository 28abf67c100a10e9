-- Lists that are some of the elements of others, in their order.
use Rattle.std.proofs.Common.{◌≡◌, ◌≤◌, ◌+◌, List, [], ◌∷◌, ◌++◌, flat_map, map, length, inl, inr, refl, sym, ap, subst, arith, length-append}
use Rattle.std.specs.List.{AllByRecursion}
use Rattle.wf_report_trim.specs.Among.{AreAmong}

pub among_self : {X : Type 0} (xs : List X) → AreAmong xs xs
among_self [] = tt
among_self (x ∷ xs) = inl (refl, among_self xs)

-- a list with as long a list after it, or a longer one
pub no_longer_after : {X : Type 0} (xs ys zs : List X) → length ys ≤ length zs → length (xs ++ ys) ≤ length (xs ++ zs)
no_longer_after xs ys zs h =
    let a : length (xs ++ ys) ≡ length xs + length ys = length-append xs ys in
    let b : length (xs ++ zs) ≡ length xs + length zs = length-append xs zs in
    omega (arith, h, a, b)

pub no_longer_before : {X : Type 0} (xs ys zs : List X) → length xs ≤ length ys → length (xs ++ zs) ≤ length (ys ++ zs)
no_longer_before xs ys zs h =
    let a : length (xs ++ zs) ≡ length xs + length zs = length-append xs zs in
    let b : length (ys ++ zs) ≡ length ys + length zs = length-append ys zs in
    omega (arith, h, a, b)

-- some of the elements make no longer a list
pub flat_among : {X Y : Type 0} (f : X → List Y) (ks ls : List X) → AreAmong ks ls → length (flat_map f ks) ≤ length (flat_map f ls)
flat_among f [] ls h = omega arith
flat_among f (k ∷ ks) [] h = absurd h
flat_among f (k ∷ ks) (l ∷ ls) (inl (same, h)) =
    subst (λ x. length (f k ++ flat_map f ks) ≤ length (f x ++ flat_map f ls)) same (no_longer_after (f k) (flat_map f ks) (flat_map f ls) (flat_among f ks ls h))
flat_among f (k ∷ ks) (l ∷ ls) (inr h) =
    let joined : length (f l ++ flat_map f ls) ≡ length (f l) + length (flat_map f ls) = length-append (f l) (flat_map f ls) in
    let rest : length (flat_map f (k ∷ ks)) ≤ length (flat_map f ls) = flat_among f (k ∷ ks) ls h in
    omega (arith, joined, rest)

pub few_among : {X : Type 0} (ks ls : List X) → AreAmong ks ls → length ks ≤ length ls
few_among [] ls h = omega arith
few_among (k ∷ ks) [] h = absurd h
few_among (k ∷ ks) (l ∷ ls) (inl (same, h)) = let rest : length ks ≤ length ls = few_among ks ls h in omega (arith, rest)
few_among (k ∷ ks) (l ∷ ls) (inr h) = let rest : length (k ∷ ks) ≤ length ls = few_among (k ∷ ks) ls h in omega (arith, rest)

-- what holds of all elements holds of some
pub each_among : {X : Type 0} (P : X → Type 0) (ks ls : List X) → AreAmong ks ls → AllByRecursion P ls → AllByRecursion P ks
each_among P [] ls h all = tt
each_among P (k ∷ ks) [] h all = absurd h
each_among P (k ∷ ks) (l ∷ ls) (inl (same, h)) all = (subst P (sym same) all.0, each_among P ks ls h all.1)
each_among P (k ∷ ks) (l ∷ ls) (inr h) all = each_among P (k ∷ ks) ls h all.1

-- what is made of some is some of what is made of all
pub made_among : {X Y : Type 0} (f : X → Y) (ks ls : List X) → AreAmong ks ls → AreAmong (map f ks) (map f ls)
made_among f [] ls h = tt
made_among f (k ∷ ks) [] h = absurd h
made_among f (k ∷ ks) (l ∷ ls) (inl (same, h)) = inl (ap f same, made_among f ks ls h)
made_among f (k ∷ ks) (l ∷ ls) (inr h) = inr (made_among f (k ∷ ks) ls h)
