-- One round: what some of the participants see counts the same with the others and without them.
use Rattle.std.proofs.Common.{◌≡◌, ℕ, ◌+◌, ◌==◌, ◌&&◌, ◌≤◌, nat_le, not, Bool, true, false, cond, List, [], ◌∷◌, ◌++◌, map, filter, zip, length, refl, ap, ◌∙◌, inl, inr, arith}
use Rattle.std.specs.Cmp.Lexicographic.{pointwise}
use Rattle.std.proofs.lemmas.Bool.{and_from, and_parts, cases_Bool, eq-eqb, eqb-true, false≢true}
use Rattle.wf_model.specs.Lists.{below}
use Rattle.wf_model.specs.Word.{Word, words}
use Rattle.wf_model.specs.View.{View, base, seen, process_of, round, views_of, visible}
use Rattle.wf_tree_model.specs.Counting.Signs.{same_sign, is_even_word, total, keep}

-- ---- places in the place of views

abbrev seen_by : ℕ → Word → List ℕ → List ℕ
seen_by block w ps = map (λ q. q.1) (filter (λ q. nat_le q.0 block) (zip w ps))

-- each place, and the places that it sees
abbrev pub rows : List ℕ → Word → List (List ℕ)
rows ps w = map (λ q. q.1 ∷ seen_by q.0 w ps) (zip w ps)

abbrev pub view_of : (ℕ → View) → List ℕ → View
view_of g [] = base 0 0
view_of g (p ∷ ps) = seen (process_of (g p)) (views_of (map g ps))

visible_map : (g : ℕ → View) (block : ℕ) (w : Word) (ps : List ℕ) → visible block w (map g ps) ≡ map g (seen_by block w ps)
visible_map g block [] ps = refl
visible_map g block (b ∷ w) [] = refl
visible_map g block (b ∷ w) (p ∷ ps) =
    elim (cases_Bool (nat_le b block)) [
      | inl low ↦ rw low (ap (λ vs. g p ∷ vs) (visible_map g block w ps))
      | inr high ↦ rw high (visible_map g block w ps)
    ]

rows_within : (g : ℕ → View) (all : Word) (places : List ℕ) (w : Word) (ps : List ℕ) →
    map (λ q. seen (process_of q.1) (views_of (visible q.0 all (map g places)))) (zip w (map g ps)) ≡ map (view_of g) (map (λ q. q.1 ∷ seen_by q.0 all places) (zip w ps))
rows_within g all places [] ps = refl
rows_within g all places (b ∷ w) [] = refl
rows_within g all places (b ∷ w) (p ∷ ps) =
    ap (λ vs. seen (process_of (g p)) (views_of vs) ∷ map (λ q. seen (process_of q.1) (views_of (visible q.0 all (map g places)))) (zip w (map g ps))) (visible_map g b all places)
    ∙ ap (λ vs. seen (process_of (g p)) (views_of (map g (seen_by b all places))) ∷ vs) (rows_within g all places w ps)

pub round_rows : (g : ℕ → View) (ps : List ℕ) (w : Word) → round (map g ps) w ≡ map (view_of g) (rows ps w)
round_rows g ps w = rows_within g w ps w ps

-- ---- pairs that cancel

abbrev pub Signed : Type 0
Signed = Bool × List (List ℕ)

abbrev same_rows : List (List ℕ) → List (List ℕ) → Bool
same_rows [] [] = true
same_rows [] (y ∷ ys) = false
same_rows (x ∷ xs) [] = false
same_rows (x ∷ xs) (y ∷ ys) = pointwise (λ a b. a == b) x y && same_rows xs ys

abbrev opposite : Signed → Signed → Bool
opposite x y = same_sign x.0 (not y.0) && same_rows x.1 y.1

abbrev put : Signed → List Signed → List Signed
put x [] = x ∷ []
put x (y ∷ ys) = cond (opposite x y) ys (y ∷ put x ys)

abbrev reduced : List Signed → List Signed
reduced [] = []
reduced (x ∷ xs) = put x (reduced xs)

abbrev pub counted : (Bool → List (List ℕ) → ℕ) → Bool → List Signed → ℕ
counted k b xs = total (λ x. k (same_sign b x.0) x.1) xs

pub numbers_same : (xs : List ℕ) → pointwise (λ x y. x == y) xs xs ≡ true
numbers_same [] = refl
numbers_same (x ∷ xs) = and_from (x == x) (pointwise (λ a b. a == b) xs xs) (eq-eqb x x refl) (numbers_same xs)

pub numbers_equal : (xs ys : List ℕ) → pointwise (λ x y. x == y) xs ys ≡ true → xs ≡ ys
numbers_equal [] [] h = refl
numbers_equal [] (y ∷ ys) h = absurd (false≢true h)
numbers_equal (x ∷ xs) [] h = absurd (false≢true h)
numbers_equal (x ∷ xs) (y ∷ ys) h =
    let parts = and_parts (x == y) (pointwise (λ a b. a == b) xs ys) h in
    let first : x ≡ y = eqb-true x y parts.0 in
    let rest : xs ≡ ys = numbers_equal xs ys parts.1 in
    cc

rows_same : (xs ys : List (List ℕ)) → same_rows xs ys ≡ true → xs ≡ ys
rows_same [] [] h = refl
rows_same [] (y ∷ ys) h = absurd (false≢true h)
rows_same (x ∷ xs) [] h = absurd (false≢true h)
rows_same (x ∷ xs) (y ∷ ys) h =
    let parts = and_parts (pointwise (λ a b. a == b) x y) (same_rows xs ys) h in
    let first : x ≡ y = numbers_equal x y parts.0 in
    let rest : xs ≡ ys = rows_same xs ys parts.1 in
    cc

either_way : (k : Bool → List (List ℕ) → ℕ) (a b : Bool) (r : List (List ℕ)) → same_sign a (not b) ≡ true → k (same_sign true a) r + k (same_sign true b) r ≡ k (same_sign false a) r + k (same_sign false b) r
either_way k true true r h = absurd (false≢true h)
either_way k true false r h = omega arith
either_way k false true r h = omega arith
either_way k false false r h = absurd (false≢true h)

put_keeps : (k : Bool → List (List ℕ) → ℕ) (x : Signed) (xs : List Signed) → counted k true (put x xs) + counted k false (x ∷ xs) ≡ counted k false (put x xs) + counted k true (x ∷ xs)
put_keeps k x [] = omega arith
put_keeps k x (y ∷ ys) =
    elim (cases_Bool (opposite x y)) [
      | inl pair ↦
          let parts = and_parts (same_sign x.0 (not y.0)) (same_rows x.1 y.1) pair in
          let e = either_way k x.0 y.0 x.1 parts.0 in
          let one = ap (k (same_sign true y.0)) (rows_same x.1 y.1 parts.1) in
          let other = ap (k (same_sign false y.0)) (rows_same x.1 y.1 parts.1) in
          rw pair (omega (arith, e, one, other))
      | inr apart ↦ let e = put_keeps k x ys in rw apart (omega (arith, e))
    ]

reduced_keeps : (k : Bool → List (List ℕ) → ℕ) (xs : List Signed) → counted k true (reduced xs) + counted k false xs ≡ counted k false (reduced xs) + counted k true xs
reduced_keeps k [] = refl
reduced_keeps k (x ∷ xs) =
    let e = put_keeps k x (reduced xs) in
    let d = reduced_keeps k xs in
    omega (arith, e, d)

pub cancelled : (k : Bool → List (List ℕ) → ℕ) (xs : List Signed) → reduced xs ≡ [] → counted k true xs ≡ counted k false xs
cancelled k xs h =
    let e = reduced_keeps k xs in
    let a = ap (counted k true) h in
    let b = ap (counted k false) h in
    omega (arith, e, a, b)

-- ---- the words of up to four participants

abbrev pub with_others : List Bool → ℕ → List Signed
with_others mask n = map (λ w. (is_even_word w, keep mask (rows (below n) w))) (words 1 n)

abbrev pub alone : List Bool → ℕ → List Signed
alone mask n = map (λ w. (not (is_even_word w), rows (keep mask (below n)) w)) (words 1 (length (keep mask (below n))))

pub all_cancel : (mask : List Bool) → length mask ≤ 4 → reduced (with_others mask (length mask) ++ alone mask (length mask)) ≡ []
all_cancel [] h = refl
all_cancel (true ∷ []) h = refl
all_cancel (false ∷ []) h = refl
all_cancel (true ∷ true ∷ []) h = refl
all_cancel (true ∷ false ∷ []) h = refl
all_cancel (false ∷ true ∷ []) h = refl
all_cancel (false ∷ false ∷ []) h = refl
all_cancel (true ∷ true ∷ true ∷ []) h = refl
all_cancel (true ∷ true ∷ false ∷ []) h = refl
all_cancel (true ∷ false ∷ true ∷ []) h = refl
all_cancel (true ∷ false ∷ false ∷ []) h = refl
all_cancel (false ∷ true ∷ true ∷ []) h = refl
all_cancel (false ∷ true ∷ false ∷ []) h = refl
all_cancel (false ∷ false ∷ true ∷ []) h = refl
all_cancel (false ∷ false ∷ false ∷ []) h = refl
all_cancel (true ∷ true ∷ true ∷ true ∷ []) h = refl
all_cancel (true ∷ true ∷ true ∷ false ∷ []) h = refl
all_cancel (true ∷ true ∷ false ∷ true ∷ []) h = refl
all_cancel (true ∷ true ∷ false ∷ false ∷ []) h = refl
all_cancel (true ∷ false ∷ true ∷ true ∷ []) h = refl
all_cancel (true ∷ false ∷ true ∷ false ∷ []) h = refl
all_cancel (true ∷ false ∷ false ∷ true ∷ []) h = refl
all_cancel (true ∷ false ∷ false ∷ false ∷ []) h = refl
all_cancel (false ∷ true ∷ true ∷ true ∷ []) h = refl
all_cancel (false ∷ true ∷ true ∷ false ∷ []) h = refl
all_cancel (false ∷ true ∷ false ∷ true ∷ []) h = refl
all_cancel (false ∷ true ∷ false ∷ false ∷ []) h = refl
all_cancel (false ∷ false ∷ true ∷ true ∷ []) h = refl
all_cancel (false ∷ false ∷ true ∷ false ∷ []) h = refl
all_cancel (false ∷ false ∷ false ∷ true ∷ []) h = refl
all_cancel (false ∷ false ∷ false ∷ false ∷ []) h = refl
all_cancel (a ∷ b ∷ c ∷ d ∷ e ∷ mask) h = absurd (let none : ⊥ = omega arith in none)
