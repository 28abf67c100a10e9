-- Sums over the entries, and the numbers of a simplex that was judged.
use Rattle.std.proofs.Common.{◌≡◌, ℕ, zero, suc, ◌+◌, ◌<◌, ◌≤◌, true, List, [], ◌∷◌, ◌++◌, length, map, take, All, sum_by, nat_lt, slice_index_or, slice_set, refl, sym, ap, ◌∙◌, subst, arith, lt-ltb}
use Rattle.std.proofs.lemmas.List.{take_more, take_more_set, get_or-map, length-map}
use Rattle.std.proofs.lemmas.List.Elements.{All-get_or}
use Rattle.std.proofs.lemmas.List.Sums.{sum_by-cons}
use Rattle.wf_model.specs.Simplex.{Simplex}
use Rattle.wf_model.specs.Task.{IsSimplexWithin}
use Rattle.wf_task_parse.specs.declared.shape.ListedSimplex.{ListedSimplex}
use Rattle.wf_task_parse.specs.DraftSeen.{pairs_seen}

sum_by-nil : {X : Type 0} (f : X → ℕ) → sum_by f [] ≡ 0
sum_by-nil f = refl

-- what comes before an element, and the element, are no more than all
pub part_below : {X : Type 0} (f : X → ℕ) (xs : List X) (i : ℕ) (x : X) → i < length xs → x ≡ slice_index_or xs i x → sum_by f (take i xs) + f x ≤ sum_by f xs
part_below f [] i x h is = absurd (let none : ⊥ = omega (arith, h) in none)
part_below f (y ∷ ys) zero x h is = let e : f x ≡ f y = ap f is in omega (arith, e, sum_by-cons f y ys, sum_by-nil f)
part_below f (y ∷ ys) (suc i) x h is = omega (arith, part_below f ys i x (omega (arith, h)) is, sum_by-cons f y ys, sum_by-cons f y (take i ys))

pub sum_by-map : {X Y : Type 0} (f : Y → ℕ) (g : X → Y) (xs : List X) → sum_by f (map g xs) ≡ sum_by (λ x. f (g x)) xs
sum_by-map f g [] = refl
sum_by-map f g (x ∷ xs) = sum_by-cons f (g x) (map g xs) ∙ ap (λ n. f (g x) + n) (sum_by-map f g xs) ∙ sym (sum_by-cons (λ x. f (g x)) x xs)

-- more than is left, so more than all that was allowed
pub more_than_left : {X Y : Type 0} (f : Y → ℕ) (g : X → Y) (xs : List X) (i : ℕ) (x : X) (left most : ℕ) → i < length xs → x ≡ slice_index_or xs i x
    → left + sum_by f (map g (take i xs)) ≡ most → left < f (g x) → true ≡ nat_lt most (sum_by f (map g xs))
more_than_left f g xs i x left most h is all more =
    let below = part_below (λ x. f (g x)) xs i x h is in
    sym (lt-ltb most (sum_by f (map g xs)) (omega (arith, below, all, more, sum_by-map f g (take i xs), sum_by-map f g xs)))

-- ---- the pairs of a simplex

-- one pair more was copied
pub copied : (small s : Simplex) (i : ℕ) → i < length small → i < length s → take i small ≡ take i s → take (i + 1) (slice_set small i ((slice_index_or s i (0, 0)).0, (slice_index_or s i (0, 0)).1)) ≡ take (i + 1) s
copied small s i h k same =
    let pair = slice_index_or s i (0, 0) in
    take_more_set small i (pair.0, pair.1) h ∙ ap (λ t. t ++ (pair ∷ [])) same ∙ sym (take_more s i (0, 0) k)

-- each listed simplex is within the bounds
pub seen_within : (listed : List ListedSimplex) (i : ℕ) (s : ListedSimplex) → i < length listed → s ≡ slice_index_or listed i s → All (IsSimplexWithin 4 255) (map pairs_seen listed) → IsSimplexWithin 4 255 (pairs_seen s)
seen_within listed i s inside is all =
    let shorter : i < length (map pairs_seen listed) = omega (arith, length-map listed pairs_seen) in
    let within = All-get_or (IsSimplexWithin 4 255) (map pairs_seen listed) i (pairs_seen s) shorter all in
    subst (IsSimplexWithin 4 255) (get_or-map pairs_seen listed i s (pairs_seen s) inside ∙ ap pairs_seen (sym is)) within
