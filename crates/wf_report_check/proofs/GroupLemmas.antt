-- Rows in groups and in blocks.
use Rattle.std.proofs.Common.{◌≡◌, ℕ, zero, suc, ◌+◌, ◌*◌, ◌<◌, ◌≤◌, List, [], ◌∷◌, ◌++◌, length, take, drop, get_or, Bool, true, false, cond, ◌&&◌, refl, sym, ◌∙◌, ap, arith, ⊎_elim, subst}
use Rattle.std.specs.Prelude.{filter, max, ◌||◌}
use Rattle.std.specs.List.{All, list_any}
use Rattle.std.proofs.Math.Seq.{drop-nil}
use Rattle.std.proofs.lemmas.Bool.{cases_lt}
use Rattle.std.proofs.lemmas.List.{get_or_append_left, get_or_push, length-append, take-append-drop}
use Rattle.std.proofs.lemmas.List.Elements.{All-more, All-weaker, filter_more}
use Rattle.std.proofs.lemmas.List.Folds.{list_any-append}
use Rattle.wf_model.specs.Task.{Tuple}
use Rattle.wf_model.specs.Box.{has_at, is_alive, is_supported}

one_kept : {X : Type 0} (p q : X → Bool) (x : X) (kept : List X) (rest : Bool) (b : Bool) → p x ≡ b → list_any (λ y. p y && q y) kept ≡ rest → list_any (λ y. p y && q y) (cond b (x ∷ kept) kept) ≡ (b && q x || rest)
one_kept p q x kept rest true e same = ap (λ t. t && q x || list_any (λ y. p y && q y) kept) e ∙ ap (λ r. q x || r) same
one_kept p q x kept rest false e same = same

-- what the filter leaves out can't pass
any-filter : {X : Type 0} (p q : X → Bool) (xs : List X) → list_any (λ x. p x && q x) (filter p xs) ≡ list_any (λ x. p x && q x) xs
any-filter p q [] = refl
any-filter p q (x ∷ xs) = one_kept p q x (filter p xs) (list_any (λ y. p y && q y) xs) (p x) refl (any-filter p q xs)

pub supported_in_group : (tuples group : List Tuple) (sets : List (List ℕ)) (place value : ℕ) → group ≡ filter (λ t. has_at t place value) tuples → is_supported group sets place value ≡ is_supported tuples sets place value
supported_in_group tuples group sets place value e = ap (λ ts. is_supported ts sets place value) e ∙ any-filter (λ t. has_at t place value) (is_alive sets) tuples

pub one_tuple_more : (p : Tuple → Bool) (xs : List Tuple) (i : ℕ) (x : Tuple) → i < length xs → x ≡ get_or xs i x → filter p (take (i + 1) xs) ≡ filter p (take i xs) ++ cond (p x) (x ∷ []) []
one_tuple_more p xs i x lt is = filter_more p xs i x lt ∙ ap (λ y. filter p (take i xs) ++ cond (p y) (y ∷ []) []) (sym is)

-- a fact of each element, by its number, and one more
pub each_more : {X : Type 0} (P : ℕ → X → Type 0) (xs : List X) (x : X) → ((i : ℕ) (g : X) → i < length xs → g ≡ get_or xs i g → P i g) → P (length xs) x → (i : ℕ) (g : X) → i < length (xs ++ x ∷ []) → g ≡ get_or (xs ++ x ∷ []) i g → P i g
each_more P xs x each last i g lt is =
    ⊎_elim
    (λ (low : i < length xs). each i g low (is ∙ get_or_append_left xs (x ∷ []) g i low))
    (λ (high : length xs ≤ i).
    let same : i ≡ length xs = omega (arith, lt, high, length-append xs (x ∷ [])) in
    let here : x ≡ g = sym (is ∙ get_or_push xs x g i (sym same)) in
    subst (λ k. P k g) (sym same) (subst (P (length xs)) here last))
    (cases_lt i (length xs))

-- ---- widths

pub wider_more : (values : List ℕ) (i wide wider d : ℕ) → i < length values → wider ≡ max wide (get_or values i d + 1) → All (λ v. v < wide) (take i values) → All (λ v. v < wider) (take (i + 1) values)
wider_more values i wide wider d lt is before =
    All-more (λ v. v < wider) values i d lt (All-weaker (λ v. v < wide) (λ v. v < wider) (λ v h. omega (arith, h, is)) (take i values) before) (omega (arith, is))

-- ---- blocks one after the other

drop_twice : (a b : ℕ) (xs : List Tuple) → drop b (drop a xs) ≡ drop (a + b) xs
drop_twice zero b xs = ap (λ n. drop n xs) (let same : b ≡ 0 + b = omega arith in same)
drop_twice (suc a) b [] = drop-nil b ∙ sym (drop-nil (suc a + b))
drop_twice (suc a) b (x ∷ xs) = drop_twice a b xs ∙ ap (λ n. drop n (x ∷ xs)) (let same : suc (a + b) ≡ suc a + b = omega arith in same)

-- support in the rows from a block on
pub supported_split : (rows : List Tuple) (sets : List (List ℕ)) (place value k : ℕ) → is_supported (drop (64 * k) rows) sets place value ≡ (is_supported (take 64 (drop (64 * k) rows)) sets place value || is_supported (drop (64 * (k + 1)) rows) sets place value)
supported_split rows sets place value k =
    let test = λ (t : Tuple). has_at t place value && is_alive sets t in
    let block = take 64 (drop (64 * k) rows) in
    ap (list_any test) (sym (take-append-drop 64 (drop (64 * k) rows)))
    ∙ list_any-append test block (drop 64 (drop (64 * k) rows))
    ∙ ap (λ l. list_any test block || list_any test l) (drop_twice (64 * k) 64 rows ∙ ap (λ n. drop n rows) (let next : 64 * k + 64 ≡ 64 * (k + 1) = omega arith in next))
