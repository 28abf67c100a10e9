-- Tuples made one after the other, within a limit.
use Rattle.std.proofs.Common.{◌≡◌, ℕ, ◌+◌, ◌<◌, ◌≤◌, List, [], ◌∷◌, ◌++◌, flat_map, length, map, take, refl, sym, ap, ◌∙◌, arith, append_assoc, append-nil, get_or, length-append}
use Rattle.std.proofs.Math.ListN.{set}
use Rattle.std.proofs.lemmas.Grind.{flat_map-append}
use Rattle.std.proofs.lemmas.List.{length-map, map-append, take_more, take_more_set}
use Rattle.std.proofs.lemmas.List.Folds.{length-flat_map-take}
use Rattle.std.proofs.lemmas.List.Concat.{flat_map-cons}
use Rattle.wf_model.specs.Task.{Tuple}
use Rattle.wf_tree_refine.specs.Limits.{IsTooMany}
use Rattle.wf_tree_refine.specs.declared.fault.RefineFault.{RefineFault}

-- more tuples are too many too
pub too_many_more : (fault : RefineFault) (most a b : ℕ) → a ≤ b → IsTooMany fault most a → IsTooMany fault most b
too_many_more fault most a b less h = λ other. let r = h other in (r.0, omega (arith, r.1, less))

-- ---- choices

abbrev pub begun : Tuple → List Tuple → List Tuple
begun first rows = map (λ rest. first ++ rest) rows

abbrev pub each_first : List Tuple → ℕ → List Tuple
each_first rows z = map (λ rest. z ∷ rest) rows

begun_twice : (first : Tuple) (v : ℕ) (rows : List Tuple) → begun first (each_first rows v) ≡ begun (first ++ v ∷ []) rows
begun_twice first v [] = refl
begun_twice first v (row ∷ rows) =
    let here : first ++ (v ∷ row) ≡ (first ++ v ∷ []) ++ row = sym (append_assoc first (v ∷ []) row) in
    let rest = begun_twice first v rows in
    λ i. here i ∷ rest i

-- one choice more
pub choice_pushed : (found new : List Tuple) (values longer : List ℕ) (place v : ℕ) (rows : List Tuple) (left rest : List ℕ) (whole : List Tuple) → place < length values → longer ≡ set values place v → left ≡ v ∷ rest
    → new ≡ found ++ begun (take (place + 1) longer) rows → found ++ begun (take place values) (flat_map (each_first rows) left) ≡ whole
    → new ++ begun (take place values) (flat_map (each_first rows) rest) ≡ whole
choice_pushed found new values longer place v rows left rest whole inside is split made so_far =
    let first = take place values in
    let here : begun (take (place + 1) longer) rows ≡ begun first (each_first rows v) = ap (λ xs. begun (take (place + 1) xs) rows) is ∙ ap (λ xs. begun xs rows) (take_more_set values place v inside) ∙ sym (begun_twice first v rows) in
    let all : begun first (flat_map (each_first rows) left) ≡ begun first (each_first rows v) ++ begun first (flat_map (each_first rows) rest) =
    ap (λ xs. begun first (flat_map (each_first rows) xs)) split ∙ ap (begun first) (flat_map-cons (each_first rows) v rest) ∙ map-append (λ r. first ++ r) (each_first rows v) (flat_map (each_first rows) rest) in
    ap (λ xs. xs ++ begun first (flat_map (each_first rows) rest)) (made ∙ ap (λ xs. found ++ xs) here)
    ∙ append_assoc found (begun first (each_first rows v)) (begun first (flat_map (each_first rows) rest))
    ∙ ap (λ xs. found ++ xs) (sym all) ∙ so_far

-- with one choice more there are no more than in all
pub choice_counted : (found old : List Tuple) (first other : Tuple) (v : ℕ) (rows all : List Tuple) (left rest : List ℕ) → left ≡ v ∷ rest → found ++ begun first (flat_map (each_first rows) left) ≡ old ++ begun other all
    → length found + length rows ≤ length old + length all
choice_counted found old first other v rows all left rest split so_far =
    let whole = sym (length-append found (begun first (flat_map (each_first rows) left))) ∙ ap length so_far ∙ length-append old (begun other all) in
    let f = length-map (flat_map (each_first rows) left) (λ r. first ++ r) in
    let g = length-map all (λ r. other ++ r) in
    let more = ap (λ xs. length (flat_map (each_first rows) xs)) split ∙ ap length (flat_map-cons (each_first rows) v rest) ∙ length-append (each_first rows v) (flat_map (each_first rows) rest) in
    let h = length-map rows (λ r. v ∷ r) in
    omega (arith, whole, f, g, more, h)

-- ---- row by row

taken : {X Y : Type 0} (f : X → List Y) (xs : List X) (i : ℕ) (x : X) → i < length xs → x ≡ get_or xs i x → flat_map f (take (i + 1) xs) ≡ flat_map f (take i xs) ++ f x
taken f xs i x low here =
    ap (flat_map f) (take_more xs i x low) ∙ flat_map-append f (take i xs) (get_or xs i x ∷ []) ∙ ap (λ y. flat_map f (take i xs) ++ y) (flat_map-cons f (get_or xs i x) [] ∙ append-nil (f (get_or xs i x)) ∙ ap f (sym here))

-- what one element more brings
pub more_made : {X : Type 0} (f : X → List Tuple) (xs : List X) (i : ℕ) (x : X) (found new made : List Tuple) → i < length xs → x ≡ get_or xs i x → made ≡ f x → new ≡ found ++ made
    → found ≡ flat_map f (take i xs) → new ≡ flat_map f (take (i + 1) xs)
more_made f xs i x found new made low here is more so_far = more ∙ ap (λ ys. found ++ ys) is ∙ ap (λ ys. ys ++ f x) so_far ∙ sym (taken f xs i x low here)

pub rows_made : (f : Tuple → List Tuple) (rows : List Tuple) (i : ℕ) (row : Tuple) (found new made : List Tuple) → i < length rows → row ≡ get_or rows i row → made ≡ f row → new ≡ found ++ begun [] made
    → found ≡ flat_map f (take i rows) → new ≡ flat_map f (take (i + 1) rows)
rows_made f rows i row found new made low here is more so_far = more_made f rows i row found new made low here is (more ∙ ap (λ xs. found ++ xs) (begun_none made)) so_far
  where
    begun_none : (xs : List Tuple) → begun [] xs ≡ xs
    begun_none [] = refl
    begun_none (x ∷ xs) = ap (λ ys. x ∷ ys) (begun_none xs)

pub rows_counted : {X : Type 0} (f : X → List Tuple) (rows : List X) (i : ℕ) (row : X) (found made : List Tuple) → i < length rows → row ≡ get_or rows i row → made ≡ f row → found ≡ flat_map f (take i rows) → length found + length made ≤ length (flat_map f rows)
rows_counted f rows i row found made low here is so_far =
    let e = ap length so_far in
    let g = ap length (is ∙ ap f here) in
    let h = length-flat_map-take f rows i row low in
    omega (arith, e, g, h)
