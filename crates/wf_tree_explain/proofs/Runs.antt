-- Multipliers line by line.
use Rattle.std.proofs.Common.{◌≡◌, ◌<◌, ◌≤◌, ◌==◌, ℕ, suc, ◌+◌, ◌&&◌, Bool, true, false, List, [], ◌∷◌, ◌++◌, length, take, drop, get_or, codes, refl, sym, ap, ◌∙◌, subst, arith, inl, inr, eqb-true, eq-eqb}
use Rattle.std.specs.Prelude.{if◌then◌else◌}
use Rattle.std.proofs.lemmas.Bool.{cases_Bool, and_parts}
use Rattle.std.proofs.Math.ListN.{drop_of_length-le}
use Rattle.std.proofs.lemmas.List.{drop_more, drop-drop}
use Rattle.wf_model.specs.Task.{Task}
use Rattle.wf_tree_model.specs.Balance.{Multiplier}
use Rattle.wf_tree_explain.specs.Places.{start_text}
use Rattle.wf_tree_explain.specs.Lists.{lines_of, same_line, with_multiplier}
use Rattle.wf_tree_explain.specs.Words.{equations_text, first_of, next_line as line_behind}
use Rattle.wf_tree_explain.proofs.ListsInWords.{one_line, rest_of}

-- how many in front go into the line of a tuple
abbrev pub run_of : Multiplier → List Multiplier → ℕ
run_of x [] = 0
run_of x (y ∷ ys) = if same_line x y then suc (run_of x ys) else 0

pub same_itself : (x : Multiplier) → same_line x x ≡ true
same_itself x =
    ap (λ b. (b && (x.place == x.place)) && (x.weight == x.weight)) (eq-eqb x.simplex x.simplex refl)
    ∙ ap (λ b. b && (x.weight == x.weight)) (eq-eqb x.place x.place refl) ∙ eq-eqb x.weight x.weight refl

-- multipliers of one line have the same others in it
alike : (x y z : Multiplier) → same_line x y ≡ true → same_line x z ≡ same_line y z
alike x y z same =
    let outer = and_parts ((x.simplex == y.simplex) && (x.place == y.place)) (x.weight == y.weight) same in
    let inner = and_parts (x.simplex == y.simplex) (x.place == y.place) outer.0 in
    ap (λ n. ((n == z.simplex) && (x.place == z.place)) && (x.weight == z.weight)) (eqb-true x.simplex y.simplex inner.0)
    ∙ ap (λ n. ((y.simplex == z.simplex) && (n == z.place)) && (x.weight == z.weight)) (eqb-true x.place y.place inner.1)
    ∙ ap (λ n. ((y.simplex == z.simplex) && (y.place == z.place)) && (n == z.weight)) (eqb-true x.weight y.weight outer.1)

same_run : (x y : Multiplier) (zs : List Multiplier) → same_line x y ≡ true → run_of x zs ≡ run_of y zs
same_run x y [] same = refl
same_run x y (z ∷ zs) same =
    ap (λ b. if b then suc (run_of x zs) else 0) (alike x y z same)
    ∙ ap (λ n. if same_line y z then suc n else 0) (same_run x y zs same)

in_front : (x y : Multiplier) (ys : List Multiplier) (ls : List (List Multiplier)) (b : Bool) → same_line x y ≡ b → with_multiplier x ((y ∷ ys) ∷ ls) ≡ (if b then (x ∷ y ∷ ys) ∷ ls else (x ∷ []) ∷ (y ∷ ys) ∷ ls)
in_front x y ys ls b is = ap (λ c. if c then (x ∷ y ∷ ys) ∷ ls else (x ∷ []) ∷ (y ∷ ys) ∷ ls) is

-- the line of the first tuple, and those behind it
first_line : (x : Multiplier) (ys : List Multiplier) → lines_of (x ∷ ys) ≡ (x ∷ take (run_of x ys) ys) ∷ lines_of (drop (run_of x ys) ys)
first_line x [] = refl
first_line x (y ∷ zs) =
    let n = run_of y zs in
    let whole = ap (with_multiplier x) (first_line y zs) in
    elim (cases_Bool (same_line x y)) [
      | inl same ↦
          whole ∙ in_front x y (take n zs) (lines_of (drop n zs)) true same
          ∙ ap (λ k. (x ∷ take k (y ∷ zs)) ∷ lines_of (drop k (y ∷ zs))) (ap suc (sym (same_run x y zs same)) ∙ ap (λ b. if b then suc (run_of x zs) else 0) (sym same))
      | inr apart ↦
          whole ∙ in_front x y (take n zs) (lines_of (drop n zs)) false apart
          ∙ ap (λ ls. (x ∷ []) ∷ ls) (sym (first_line y zs))
          ∙ ap (λ k. (x ∷ take k (y ∷ zs)) ∷ lines_of (drop k (y ∷ zs))) (ap (λ b. if b then suc (run_of x zs) else 0) (sym apart))
    ]

whole_run : (x : Multiplier) (ys : List Multiplier) → run_of x (x ∷ ys) ≡ suc (run_of x ys)
whole_run x ys = ap (λ b. if b then suc (run_of x ys) else 0) (same_itself x)

-- ---- the length of a line, tuple by tuple

pub run_stops : (x : Multiplier) (xs : List Multiplier) (i : ℕ) (y : Multiplier) → i < length xs → y ≡ get_or xs i y → same_line x y ≡ false → run_of x (drop i xs) ≡ 0
run_stops x xs i y low is apart =
    ap (run_of x) (drop_more xs i y low ∙ ap (λ z. z ∷ drop (i + 1) xs) (sym is))
    ∙ ap (λ b. if b then suc (run_of x (drop (i + 1) xs)) else 0) apart

pub run_ends : (x : Multiplier) (xs : List Multiplier) (i : ℕ) → length xs ≤ i → run_of x (drop i xs) ≡ 0
run_ends x xs i high = ap (run_of x) (drop_of_length-le xs high)

-- what is known of the length of the first line
pub record IsLineLength (xs : List Multiplier) (n : ℕ) : Type 0 where
  pub some : 0 < n
  pub within : n ≤ length xs
  pub first : lines_of xs ≡ take n xs ∷ lines_of (drop n xs)

run_within : (x : Multiplier) (xs : List Multiplier) → run_of x xs ≤ length xs
run_within x [] = omega arith
run_within x (y ∷ ys) =
    elim (cases_Bool (same_line x y)) [
      | inl same ↦ let e = ap (λ b. if b then suc (run_of x ys) else 0) same in omega (arith, run_within x ys, e)
      | inr apart ↦ let e = ap (λ b. if b then suc (run_of x ys) else 0) apart in omega (arith, e)
    ]

run_is_line : (x : Multiplier) (ys : List Multiplier) → IsLineLength (x ∷ ys) (suc (run_of x ys))
run_is_line x ys = record {
  some = omega arith;
  within = omega (arith, run_within x ys);
  first = first_line x ys;
}

pub line_length_is : (xs : List Multiplier) (n : ℕ) → 0 < length xs → n ≡ run_of (first_of xs) xs → IsLineLength xs n
line_length_is [] n some is = absurd (let none : ⊥ = omega (arith, some) in none)
line_length_is (x ∷ ys) n some is = subst (IsLineLength (x ∷ ys)) (sym (is ∙ whole_run x ys)) (run_is_line x ys)

-- ---- the lines in words

-- the next line, where so many multipliers are told
pub next_line : (t : Task) (depth : ℕ) (xs : List Multiplier) (told n : ℕ) → 0 < n → lines_of (drop told xs) ≡ take n (drop told xs) ∷ lines_of (drop n (drop told xs))
    → rest_of (λ line. line_behind depth (equations_text t line)) (codes ",") (codes ",") told (lines_of (drop told xs))
    ≡ start_text depth told ++ (equations_text t (take n (drop told xs)) ++ rest_of (λ line. line_behind depth (equations_text t line)) (codes ",") (codes ",") (told + n) (lines_of (drop (told + n) xs)))
next_line t depth xs told n some is =
    ap (rest_of (λ line. line_behind depth (equations_text t line)) (codes ",") (codes ",") told) is
    ∙ one_line depth (equations_text t) told n (take n (drop told xs)) (lines_of (drop n (drop told xs))) some
    ∙ ap (λ ys. start_text depth told ++ (equations_text t (take n (drop told xs)) ++ rest_of (λ line. line_behind depth (equations_text t line)) (codes ",") (codes ",") (told + n) (lines_of ys))) (drop-drop n told xs)
