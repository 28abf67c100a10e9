-- The largest of numbers, one after the other.
use Rattle.std.proofs.Common.{◌≡◌, ℕ, ◌+◌, ◌<◌, List, [], ◌∷◌, ◌++◌, flat_map, get_or, length, map, max, take, refl, sym, ap, ◌∙◌, arith}
use Rattle.std.proofs.lemmas.List.{take_more}
use Rattle.wf_model.specs.Simplex.{Simplex}
use Rattle.wf_model.specs.Task.{Tuple}
use Rattle.wf_task.specs.TaskSeen.{rules_seen}
use Rattle.wf_tree_model.specs.Trees.{largest}

largest_both : (xs ys : List ℕ) → largest (xs ++ ys) ≡ max (largest xs) (largest ys)
largest_both [] ys = omega arith
largest_both (x ∷ xs) ys = let rest = largest_both xs ys in omega (arith, rest)

flat_more : {X : Type 0} (f : X → List ℕ) (xs : List X) (x : X) → largest (flat_map f (xs ++ x ∷ [])) ≡ max (largest (flat_map f xs)) (largest (f x))
flat_more f [] x = largest_both (f x) [] ∙ (let e : max (largest (f x)) 0 ≡ max 0 (largest (f x)) = omega arith in e)
flat_more f (y ∷ xs) x =
    let rest = flat_more f xs x in
    let one = largest_both (f y) (flat_map f (xs ++ x ∷ [])) in
    let two = largest_both (f y) (flat_map f xs) in
    omega (arith, rest, one, two)

-- one element more
pub largest_more : {X : Type 0} (f : X → List ℕ) (xs : List X) (i : ℕ) (x : X) (most this next : ℕ) → i < length xs → x ≡ get_or xs i x → most ≡ largest (flat_map f (take i xs)) → this ≡ largest (f x) → next ≡ max this most → next ≡ largest (flat_map f (take (i + 1) xs))
largest_more f xs i x most this next low here so_far is then =
    let step = ap (λ ys. largest (flat_map f ys)) (take_more xs i x low ∙ ap (λ y. take i xs ++ y ∷ []) (sym here)) ∙ flat_more f (take i xs) x in
    omega (arith, step, so_far, is, then)

pub value_more : (xs : List ℕ) (i x most next : ℕ) → i < length xs → x ≡ get_or xs i x → most ≡ largest (take i xs) → next ≡ max x most → next ≡ largest (take (i + 1) xs)
value_more xs i x most next low here so_far then =
    let step = ap largest (take_more xs i x low ∙ ap (λ y. take i xs ++ y ∷ []) (sym here)) ∙ largest_both (take i xs) (x ∷ []) in
    omega (arith, step, so_far, then)

-- all tuples of all rules
pub all_values : (ins : List Simplex) (rows : List (List Tuple)) → length rows ≡ length ins → flat_map (λ rule. flat_map (λ tuple. tuple) rule.tuples) (rules_seen ins rows) ≡ flat_map (λ tuples. flat_map (λ tuple. tuple) tuples) rows
all_values [] [] e = refl
all_values [] (r ∷ rows) e = absurd (let bad : ⊥ = omega (arith, e) in bad)
all_values (s ∷ ins) [] e = absurd (let bad : ⊥ = omega (arith, e) in bad)
all_values (s ∷ ins) (r ∷ rows) e = ap (λ xs. flat_map (λ tuple. tuple) r ++ xs) (all_values ins rows (omega (arith, e)))

pub flat_of_map : {V : Type 0} (f : V → List Tuple) (vs : List V) → flat_map (λ tuples. flat_map (λ tuple. tuple) tuples) (map f vs) ≡ flat_map (λ v. flat_map (λ tuple. tuple) (f v)) vs
flat_of_map f [] = refl
flat_of_map f (v ∷ vs) = ap (λ xs. flat_map (λ tuple. tuple) (f v) ++ xs) (flat_of_map f vs)
