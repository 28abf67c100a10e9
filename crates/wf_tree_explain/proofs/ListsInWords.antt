-- Lists in words, element by element.
use Rattle.std.proofs.Common.{◌≡◌, ◌<◌, ◌≤◌, ℕ, zero, suc, ◌+◌, List, [], ◌∷◌, ◌++◌, map, length, drop, length-drop, get_or, codes, decimal, refl, sym, ap, ◌∙◌, arith, append_assoc, append-nil, eq-eqb}
use Rattle.std.proofs.lemmas.Bool.{ne_eqb}
use Rattle.std.proofs.lemmas.List.FromFn.{get_or-range_with_len}
use Rattle.std.specs.Prelude.{if◌then◌else◌}
use Rattle.std.proofs.Math.ListN.{drop_of_length-le}
use Rattle.std.proofs.lemmas.List.{drop_more, get_or-map, length-map}
use Rattle.wf_model.specs.Lists.{below}
use Rattle.wf_model.proofs.Lemmas.{length-below}
use Rattle.wf_tree_explain.specs.Lists.{list_text, others_text}
use Rattle.wf_tree_explain.specs.Places.{before_at, separator, start_text}
use Rattle.wf_tree_explain.specs.Words.{indent_text, next_line}

-- what is to come of a list once so many are told
abbrev pub rest_of : {X : Type 0} → (X → List ℕ) → List ℕ → List ℕ → ℕ → List X → List ℕ
rest_of text between last zero xs = list_text text between last xs
rest_of text between last (suc n) xs = others_text text between last xs

-- one more piece was added
pub one_added : (t t' w piece rest rest' : List ℕ) → t' ≡ t ++ piece → rest ≡ piece ++ rest' → t ++ rest ≡ w → t' ++ rest' ≡ w
one_added t t' w piece rest rest' added is so_far =
    ap (λ x. x ++ rest') added ∙ append_assoc t piece rest' ∙ ap (λ x. t ++ x) (sym is) ∙ so_far

-- two more pieces were added
pub two_added : (t t' t'' w first second rest rest' : List ℕ) → t' ≡ t ++ first → t'' ≡ t' ++ second → rest ≡ first ++ (second ++ rest') → t ++ rest ≡ w → t'' ++ rest' ≡ w
two_added t t' t'' w first second rest rest' once twice is so_far =
    one_added t' t'' w second (second ++ rest') rest' twice refl (one_added t t' w first rest (second ++ rest') once is so_far)

-- nothing is to come
pub all_added : (t w rest : List ℕ) → rest ≡ [] → t ++ rest ≡ w → t ≡ w
all_added t w rest none so_far = sym (append-nil t) ∙ ap (λ x. t ++ x) (sym none) ∙ so_far

module _ {X : Type 0} (text : X → List ℕ) (between : List ℕ) where
  pub none_left : (last : List ℕ) (n : ℕ) (xs : List X) → length xs ≤ n → rest_of text between last n (drop n xs) ≡ []
  none_left last zero xs high = ap (rest_of text between last zero) (drop_of_length-le xs high)
  none_left last (suc n) xs high = ap (rest_of text between last (suc n)) (drop_of_length-le xs high)

  another : (x : X) (xs : List X) → others_text text between between (x ∷ xs) ≡ between ++ (text x ++ others_text text between between xs)
  another x [] = ap (λ t. between ++ t) (sym (append-nil (text x)))
  another x (y ∷ ys) = refl

  later : (last : List ℕ) (n k : ℕ) (xs : List X) → 0 < k → rest_of text between last (n + k) xs ≡ others_text text between last xs
  later last n zero xs some = absurd (let none : ⊥ = omega (arith, some) in none)
  later last n (suc k) xs some = let e : n + suc k ≡ suc (n + k) = omega arith in ap (λ m. rest_of text between last m xs) e

  -- an element is told where n are, and then n + k
  pub one_told : (n k : ℕ) (x : X) (xs : List X) → 0 < k → rest_of text between between n (x ∷ xs) ≡ before_at between n ++ (text x ++ rest_of text between between (n + k) xs)
  one_told zero k x xs some = ap (λ t. text x ++ t) (sym (later between zero k xs some))
  one_told (suc n) k x xs some = another x xs ∙ ap (λ t. between ++ (text x ++ t)) (sym (later between (suc n) k xs some))

  -- an element is told where n are, the last one behind another text
  element : (last : List ℕ) (n size : ℕ) (x : X) (xs : List X) → size ≡ n + length (x ∷ xs) → rest_of text between last n (x ∷ xs) ≡ separator between last n size ++ (text x ++ rest_of text between last (n + 1) xs)
  element last zero size x xs e = ap (λ t. text x ++ t) (sym (later last zero 1 xs (omega arith)))
  element last (suc n) size x [] e =
      let at : suc (suc n) ≡ size = omega (arith, e) in
      ap (λ t. last ++ t) (sym (append-nil (text x)) ∙ ap (λ t. text x ++ t) (sym (later last (suc n) 1 [] (omega arith))))
      ∙ ap (λ b. (if b then last else between) ++ (text x ++ rest_of text between last (suc n + 1) [])) (sym (eq-eqb (suc (suc n)) size at))
  element last (suc n) size x (y ∷ ys) e =
      ap (λ t. between ++ (text x ++ t)) (sym (later last (suc n) 1 (y ∷ ys) (omega arith)))
      ∙ ap (λ b. (if b then last else between) ++ (text x ++ rest_of text between last (suc n + 1) (y ∷ ys))) (sym (ne_eqb (suc (suc n)) size (λ at. absurd (let none : ⊥ = omega (arith, e, at) in none))))

  pub element_at : (last : List ℕ) (n : ℕ) (xs : List X) (d : X) → n < length xs
      → rest_of text between last n (drop n xs) ≡ separator between last n (length xs) ++ (text (get_or xs n d) ++ rest_of text between last (n + 1) (drop (n + 1) xs))
  element_at last n xs d low =
      let some = drop_more xs n d low in
      ap (rest_of text between last n) some
      ∙ element last n (length xs) (get_or xs n d) (drop (n + 1) xs) (let e = length-drop (n + 1) xs in omega (arith, e, low))

  pub element_before : (n : ℕ) (xs : List X) (d : X) → n < length xs
      → rest_of text between between n (drop n xs) ≡ before_at between n ++ (text (get_or xs n d) ++ rest_of text between between (n + 1) (drop (n + 1) xs))
  element_before n xs d low = ap (rest_of text between between n) (drop_more xs n d low) ∙ one_told n 1 (get_or xs n d) (drop (n + 1) xs) (omega arith)

-- a number of those below another one
pub next_number : (between last : List ℕ) (n count : ℕ) → n < count
    → rest_of decimal between last n (drop n (below count)) ≡ (separator between last n count ++ decimal n) ++ rest_of decimal between last (n + 1) (drop (n + 1) (below count))
next_number between last n count low =
    let long = length-below count in
    let rest = rest_of decimal between last (n + 1) (drop (n + 1) (below count)) in
    element_at decimal between last n (below count) 0 (omega (arith, long, low))
    ∙ ap (λ x. separator between last n (length (below count)) ++ (decimal x ++ rest)) (let at = get_or-range_with_len 0 count n 0 low in let e : 0 + n ≡ n = omega arith in at ∙ e)
    ∙ ap (λ size. separator between last n size ++ (decimal n ++ rest)) long
    ∙ sym (append_assoc (separator between last n count) (decimal n) rest)

-- ---- lines

module _ {X : Type 0} (depth : ℕ) (text : X → List ℕ) where
  -- an element is told in a line of its own
  pub one_line : (n k : ℕ) (x : X) (xs : List X) → 0 < k
      → rest_of (λ y. next_line depth (text y)) (codes ",") (codes ",") n (x ∷ xs) ≡ start_text depth n ++ (text x ++ rest_of (λ y. next_line depth (text y)) (codes ",") (codes ",") (n + k) xs)
  one_line n k x xs some =
      let rest = rest_of (λ y. next_line depth (text y)) (codes ",") (codes ",") (n + k) xs in
      let b = before_at (codes ",") n in let i = indent_text depth in
      one_told (λ y. next_line depth (text y)) (codes ",") n k x xs some
      ∙ ap (λ t. b ++ (codes "\n" ++ t)) (append_assoc i (codes "  " ++ text x) rest ∙ sym (append_assoc i (codes "  ") (text x ++ rest)))
      ∙ sym (append_assoc b (codes "\n" ++ (i ++ codes "  ")) (text x ++ rest))

-- the same of the element at a place
pub line_at : {X Y : Type 0} (depth : ℕ) (text : Y → List ℕ) (seen : X → Y) (xs : List X) (n : ℕ) (x d : X) → n < length xs → x ≡ get_or xs n d
    → rest_of (λ y. next_line depth (text y)) (codes ",") (codes ",") n (drop n (map seen xs)) ≡ start_text depth n ++ (text (seen x) ++ rest_of (λ y. next_line depth (text y)) (codes ",") (codes ",") (n + 1) (drop (n + 1) (map seen xs)))
line_at depth text seen xs n x d low is =
    let rest = rest_of (λ y. next_line depth (text y)) (codes ",") (codes ",") (n + 1) (drop (n + 1) (map seen xs)) in
    let long = length-map xs seen in
    ap (rest_of (λ y. next_line depth (text y)) (codes ",") (codes ",") n) (drop_more (map seen xs) n (seen x) (omega (arith, low, long)))
    ∙ one_line depth text n 1 (get_or (map seen xs) n (seen x)) (drop (n + 1) (map seen xs)) (omega arith)
    ∙ ap (λ y. start_text depth n ++ (text y ++ rest)) (get_or-map seen xs n d (seen x) low ∙ ap seen (sym is))

-- one text behind another
pub joined : (t t' a b : List ℕ) → t' ≡ t ++ a → t' ++ b ≡ t ++ (a ++ b)
joined t t' a b added = ap (λ x. x ++ b) added ∙ append_assoc t a b

-- a list between two texts
pub enclosed : (t0 t1 t2 t3 begin body end rest : List ℕ) → t1 ≡ t0 ++ begin → t2 ++ rest ≡ t1 ++ body → rest ≡ [] → t3 ≡ t2 ++ end → t3 ≡ t0 ++ (begin ++ (body ++ end))
enclosed t0 t1 t2 t3 begin body end rest opened told none closed =
    closed ∙ ap (λ t. t ++ end) (all_added t2 (t1 ++ body) rest none told ∙ ap (λ t. t ++ body) opened)
    ∙ append_assoc (t0 ++ begin) body end ∙ append_assoc t0 begin (body ++ end)
