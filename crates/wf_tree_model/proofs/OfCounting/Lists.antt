-- Lists whose elements all have something, and ascending numbers.
use Rattle.std.proofs.Common.{◌≡◌, ℕ, suc, ◌==◌, ◌≤◌, Bool, true, false, List, [], ◌∷◌, ◌++◌, map, flat_map, length, Contains, refl, ap, arith}
use Rattle.std.specs.List.{AllByRecursion, list_all}
use Rattle.std.proofs.lemmas.Bool.{and_parts}
use Rattle.std.proofs.lemmas.List.Elements.{All-contains, All-from_recursion}
use Rattle.wf_model.specs.Lists.{has}

pub map_same_on : {X Y : Type 0} (f g : X → Y) (xs : List X) → AllByRecursion (λ x. f x ≡ g x) xs → map f xs ≡ map g xs
map_same_on f g [] h = refl
map_same_on f g (x ∷ xs) h = let e = map_same_on f g xs h.1 in let d = h.0 in cc

pub each : {X : Type 0} (P Q : X → Type 0) → ((x : X) → P x → Q x) → (xs : List X) → AllByRecursion P xs → AllByRecursion Q xs
each P Q f [] h = tt
each P Q f (x ∷ xs) h = (f x h.0, each P Q f xs h.1)

pub pushed : {X : Type 0} (xs : List X) (x : X) → length (xs ++ x ∷ []) ≡ suc (length xs)
pushed [] x = refl
pushed (y ∷ xs) x = ap suc (pushed xs x)

-- ---- numbers in a list

-- ascending, from a on and below b
abbrev pub Between : ℕ → List ℕ → ℕ → Type 0
Between a [] b = a ≤ b
Between a (x ∷ xs) b = (a ≤ x) × Between (suc x) xs b

pub all_from : (a : ℕ) (xs : List ℕ) (b : ℕ) → Between a xs b → AllByRecursion (λ x. a ≤ x) xs
all_from a [] b h = tt
all_from a (x ∷ xs) b h = (h.0, let d = h.0 in each (λ y. suc x ≤ y) (λ y. a ≤ y) (λ y e. omega (arith, d, e)) xs (all_from (suc x) xs b h.1))

pub not_there : (i : ℕ) (xs : List ℕ) → AllByRecursion (λ x. (x == i) ≡ false) xs → has xs i ≡ false
not_there i [] h = refl
not_there i (x ∷ xs) h = rw h.0 (not_there i xs h.1)

-- ---- parts of lists

front : {X : Type 0} (P : X → Type 0) (xs ys : List X) → AllByRecursion P (xs ++ ys) → AllByRecursion P xs
front P [] ys h = tt
front P (x ∷ xs) ys h = (h.0, front P xs ys h.1)

back : {X : Type 0} (P : X → Type 0) (xs ys : List X) → AllByRecursion P (xs ++ ys) → AllByRecursion P ys
back P [] ys h = h
back P (x ∷ xs) ys h = back P xs ys h.1

pub both_ends : {X : Type 0} (P : X → Type 0) (xs ys : List X) → AllByRecursion P (xs ++ ys) → AllByRecursion P xs × AllByRecursion P ys
both_ends P xs ys h = (front P xs ys h, back P xs ys h)

pub each_of_flat : {X Y : Type 0} (P : Y → Type 0) (f : X → List Y) (xs : List X) → AllByRecursion P (flat_map f xs) → AllByRecursion (λ x. AllByRecursion P (f x)) xs
each_of_flat P f [] h = tt
each_of_flat P f (x ∷ xs) h = (front P (f x) (flat_map f xs) h, each_of_flat P f xs (back P (f x) (flat_map f xs) h))

pub contained : {X : Type 0} (P : X → Type 0) (xs : List X) (x : X) → AllByRecursion P xs → Contains xs x → P x
contained P xs x h c = All-contains P xs x (All-from_recursion P xs h) c

pub each_passes : {X : Type 0} (test : X → Bool) (xs : List X) → list_all test xs ≡ true → AllByRecursion (λ x. test x ≡ true) xs
each_passes test [] h = tt
each_passes test (x ∷ xs) h = let parts = and_parts (test x) (list_all test xs) h in (parts.0, each_passes test xs parts.1)
