-- The last views of some of the participants, after any number of rounds.
use Rattle.std.proofs.Common.{◌≡◌, ℕ, zero, suc, ◌+◌, ◌≤◌, not, Bool, true, false, cond, List, [], ◌∷◌, ◌++◌, map, zip, length, get_or, fold, refl, sym, ap, ◌∙◌, subst, arith}
use Rattle.std.specs.List.{AllByRecursion}
use Rattle.std.proofs.lemmas.List.{length-map}
use Rattle.wf_model.specs.Lists.{below, lists_of}
use Rattle.wf_model.specs.Word.{Word, words}
use Rattle.wf_model.specs.View.{View, base, seen, process_of, round, views_of, visible}
use Rattle.wf_model.proofs.Lemmas.{words_long}
use Rattle.wf_tree_model.specs.Counting.Signs.{same_sign, is_even_word, is_even, total, keep}
use Rattle.wf_tree_model.proofs.OfCounting.Sums.{total_append, total_map, total_same, total_flat, total_balanced, keep_map, not_not, twice, turned_later}
use Rattle.wf_tree_model.proofs.OfCounting.Words.{all_cancel, alone, cancelled, counted, round_rows, rows, view_of, with_others}

-- ---- one round

abbrev place : List View → ℕ → View
place old i = get_or old i (base 0 0)

place_by_place : (old : List View) → length old ≤ 4 → old ≡ map (place old) (below (length old))
place_by_place [] h = refl
place_by_place (a ∷ []) h = refl
place_by_place (a ∷ b ∷ []) h = refl
place_by_place (a ∷ b ∷ c ∷ []) h = refl
place_by_place (a ∷ b ∷ c ∷ d ∷ []) h = refl
place_by_place (a ∷ b ∷ c ∷ d ∷ e ∷ old) h = absurd (let none : ⊥ = omega arith in none)

abbrev by_rows : (Bool → List View → ℕ) → (ℕ → View) → Bool → List (List ℕ) → ℕ
by_rows k g c rs = k c (map (view_of g) rs)

with_rows : (k : Bool → List View → ℕ) (g : ℕ → View) (mask : List Bool) (n : ℕ) (b : Bool) →
    counted (by_rows k g) b (with_others mask n) ≡ total (λ w. k (same_sign b (is_even_word w)) (keep mask (round (map g (below n)) w))) (words 1 n)
with_rows k g mask n b =
    total_map (λ (x : Bool × List (List ℕ)). by_rows k g (same_sign b x.0) x.1) (λ w. (is_even_word w, keep mask (rows (below n) w))) (words 1 n)
    ∙ total_same (λ w. by_rows k g (same_sign b (is_even_word w)) (keep mask (rows (below n) w))) (λ w. k (same_sign b (is_even_word w)) (keep mask (round (map g (below n)) w))) (words 1 n)
    (λ w. ap (k (same_sign b (is_even_word w))) (sym (keep_map (view_of g) mask (rows (below n) w)) ∙ ap (keep mask) (sym (round_rows g (below n) w))))

alone_rows : (k : Bool → List View → ℕ) (g : ℕ → View) (mask : List Bool) (n : ℕ) (b : Bool) →
    counted (by_rows k g) b (alone mask n) ≡ total (λ w. k (not (same_sign b (is_even_word w))) (round (keep mask (map g (below n))) w)) (words 1 (length (keep mask (below n))))
alone_rows k g mask n b =
    let here = words 1 (length (keep mask (below n))) in
    total_map (λ (x : Bool × List (List ℕ)). by_rows k g (same_sign b x.0) x.1) (λ w. (not (is_even_word w), rows (keep mask (below n)) w)) here
    ∙ total_same (λ w. by_rows k g (same_sign b (not (is_even_word w))) (rows (keep mask (below n)) w)) (λ w. k (not (same_sign b (is_even_word w))) (round (keep mask (map g (below n))) w)) here
    (λ w.
    ap (λ c. k c (map (view_of g) (rows (keep mask (below n)) w))) (turned_later b (is_even_word w))
    ∙ ap (k (not (same_sign b (is_even_word w)))) (sym (round_rows g (keep mask (below n)) w) ∙ ap (λ vs. round vs w) (sym (keep_map g mask (below n)))))

-- over the words of the participants, and over those of some of them
abbrev word_sum : (Bool → List View → ℕ) → Bool → ℕ → List View → ℕ
word_sum k b n old = total (λ w. k (same_sign b (is_even_word w)) (round old w)) (words 1 n)

turned_words : (k : Bool → List View → ℕ) (n : ℕ) (old : List View) (b : Bool) → total (λ w. k (not (same_sign b (is_even_word w))) (round old w)) (words 1 n) ≡ word_sum k (not b) n old
turned_words k n old true = refl
turned_words k n old false = total_same (λ w. k (not (not (is_even_word w))) (round old w)) (λ w. k (is_even_word w) (round old w)) (words 1 n) (λ w. ap (λ c. k c (round old w)) (not_not (is_even_word w)))

round_of_places : (k : Bool → List View → ℕ) (g : ℕ → View) (mask : List Bool) → length mask ≤ 4 →
    let n = length mask in
    let some = length (keep mask (below n)) in
    let old = map g (below n) in
    word_sum (λ c vs. k c (keep mask vs)) true n old + word_sum k false some (keep mask old) ≡ word_sum (λ c vs. k c (keep mask vs)) false n old + word_sum k true some (keep mask old)
round_of_places k g mask small =
    let n = length mask in
    let some = length (keep mask (below n)) in
    let old = map g (below n) in
    let f = λ (x : Bool × List (List ℕ)). by_rows k g x.0 x.1 in
    let same = cancelled (by_rows k g) (with_others mask n ++ alone mask n) (all_cancel mask small) in
    let a = total_append (λ (x : Bool × List (List ℕ)). by_rows k g (same_sign true x.0) x.1) (with_others mask n) (alone mask n) in
    let b = total_append (λ (x : Bool × List (List ℕ)). by_rows k g (same_sign false x.0) x.1) (with_others mask n) (alone mask n) in
    let c = with_rows k g mask n true in
    let d = with_rows k g mask n false in
    let e = alone_rows k g mask n true ∙ turned_words k some (keep mask old) true in
    let h = alone_rows k g mask n false ∙ turned_words k some (keep mask old) false in
    omega (arith, same, a, b, c, d, e, h)

pub length_keep : {X Y : Type 0} (mask : List Bool) (xs : List X) (ys : List Y) → length xs ≡ length ys → length (keep mask xs) ≡ length (keep mask ys)
length_keep [] xs ys h = h
length_keep (b ∷ mask) [] [] h = refl
length_keep (b ∷ mask) [] (y ∷ ys) h = absurd (let none : ⊥ = cc in none)
length_keep (b ∷ mask) (x ∷ xs) [] h = absurd (let none : ⊥ = cc in none)
length_keep (true ∷ mask) (x ∷ xs) (y ∷ ys) h = ap suc (length_keep mask xs ys (let e : length xs ≡ length ys = cc in e))
length_keep (false ∷ mask) (x ∷ xs) (y ∷ ys) h = length_keep mask xs ys (let e : length xs ≡ length ys = cc in e)

pub one_round : (k : Bool → List View → ℕ) (mask : List Bool) (old : List View) (n some : ℕ) → n ≤ 4 → length mask ≡ n → length old ≡ n → length (keep mask old) ≡ some →
    word_sum (λ c vs. k c (keep mask vs)) true n old + word_sum k false some (keep mask old) ≡ word_sum (λ c vs. k c (keep mask vs)) false n old + word_sum k true some (keep mask old)
one_round k mask old n some small long olds kept =
    let g = place old in
    let e : map g (below (length mask)) ≡ old = ap (λ m. map g (below m)) (long ∙ sym olds) ∙ sym (place_by_place old (omega arith)) in
    let s : length (keep mask (below (length mask))) ≡ some = sym (length-map (keep mask (below (length mask))) g) ∙ ap length (sym (keep_map g mask (below (length mask)))) ∙ ap (λ o. length (keep mask o)) e ∙ kept in
    let start = round_of_places k g mask (omega arith) in
    subst (λ m. word_sum (λ c vs. k c (keep mask vs)) true m old + word_sum k false some (keep mask old) ≡ word_sum (λ c vs. k c (keep mask vs)) false m old + word_sum k true some (keep mask old)) long
    (subst (λ m. word_sum (λ c vs. k c (keep mask vs)) true (length mask) old + word_sum k false m (keep mask old) ≡ word_sum (λ c vs. k c (keep mask vs)) false (length mask) old + word_sum k true m (keep mask old)) s
    (subst (λ o. word_sum (λ c vs. k c (keep mask vs)) true (length mask) o + word_sum k false (length (keep mask (below (length mask)))) (keep mask o) ≡ word_sum (λ c vs. k c (keep mask vs)) false (length mask) o + word_sum k true (length (keep mask (below (length mask)))) (keep mask o)) e start))

-- ---- more rounds

abbrev pub over : (Bool → List View → ℕ) → Bool → ℕ → ℕ → List View → ℕ
over k b n r old = total (λ ws. k (same_sign b (is_even ws)) (fold round old ws)) (lists_of (words 1 n) r)

first_round : (k : Bool → List View → ℕ) (b : Bool) (n r : ℕ) (old : List View) → over k b n (suc r) old ≡ total (λ w. over k (same_sign b (is_even_word w)) n r (round old w)) (words 1 n)
first_round k b n r old =
    let f = λ (ws : List Word). k (same_sign b (is_even ws)) (fold round old ws) in
    let later = lists_of (words 1 n) r in
    total_flat f (λ w. map (λ rest. w ∷ rest) later) (words 1 n)
    ∙ total_same (λ w. total f (map (λ rest. w ∷ rest) later)) (λ w. over k (same_sign b (is_even_word w)) n r (round old w)) (words 1 n)
    (λ w.
    total_map f (λ rest. w ∷ rest) later
    ∙ total_same (λ ws. k (same_sign b (same_sign (is_even_word w) (is_even ws))) (fold round (round old w) ws)) (λ ws. k (same_sign (same_sign b (is_even_word w)) (is_even ws)) (fold round (round old w) ws)) later
    (λ ws. ap (λ c. k c (fold round (round old w) ws)) (twice b (is_even_word w) (is_even ws))))

zip_long : {X Y : Type 0} (xs : List X) (ys : List Y) → length xs ≡ length ys → length (zip xs ys) ≡ length ys
zip_long [] [] h = refl
zip_long [] (y ∷ ys) h = absurd (let none : ⊥ = cc in none)
zip_long (x ∷ xs) [] h = absurd (let none : ⊥ = cc in none)
zip_long (x ∷ xs) (y ∷ ys) h = ap suc (zip_long xs ys (let e : length xs ≡ length ys = cc in e))

pub round_long : (w : Word) (old : List View) → length w ≡ length old → length (round old w) ≡ length old
round_long w old h = length-map (zip w old) (λ q. seen (process_of q.1) (views_of (visible q.0 w old))) ∙ zip_long w old h

either : (f g : Bool → ℕ) (b : Bool) → f true + g false ≡ f false + g true → f (same_sign true b) + g (same_sign false b) ≡ f (same_sign false b) + g (same_sign true b)
either f g true h = h
either f g false h = omega (arith, h)

pub marginal : (r : ℕ) (k : Bool → List View → ℕ) (mask : List Bool) (old : List View) (n some : ℕ) → n ≤ 4 → length mask ≡ n → length old ≡ n → length (keep mask old) ≡ some →
    over (λ c vs. k c (keep mask vs)) true n r old + over k false some r (keep mask old) ≡ over (λ c vs. k c (keep mask vs)) false n r old + over k true some r (keep mask old)
marginal zero k mask old n some small long olds kept = omega arith
marginal (suc r) k mask old n some small long olds kept =
    let kk = λ (c : Bool) (vs : List View). k c (keep mask vs) in
    let mid = λ (c : Bool) (vs : List View). over k c some r vs in
    let a = first_round kk true n r old in
    let b = first_round kk false n r old in
    let c = first_round k true some r (keep mask old) in
    let d = first_round k false some r (keep mask old) in
    let one = one_round mid mask old n some small long olds kept in
    let more = total_balanced
    (λ w. over kk (same_sign true (is_even_word w)) n r (round old w))
    (λ w. over k (same_sign false (is_even_word w)) some r (keep mask (round old w)))
    (λ w. over kk (same_sign false (is_even_word w)) n r (round old w))
    (λ w. over k (same_sign true (is_even_word w)) some r (keep mask (round old w)))
    (words 1 n)
    (each (words 1 n) (words_long 1 n) (λ vs after. marginal r k mask vs n some small long after (length_keep mask vs old (after ∙ sym olds) ∙ kept))) in
    omega (arith, a, b, c, d, one, more)
  where
    each : (ws : List Word) → AllByRecursion (λ w. length w ≡ n) ws →
        ((vs : List View) → length vs ≡ n → over (λ c vs. k c (keep mask vs)) true n r vs + over k false some r (keep mask vs) ≡ over (λ c vs. k c (keep mask vs)) false n r vs + over k true some r (keep mask vs)) →
        AllByRecursion (λ w. over (λ c vs. k c (keep mask vs)) (same_sign true (is_even_word w)) n r (round old w) + over k (same_sign false (is_even_word w)) some r (keep mask (round old w))
        ≡ over (λ c vs. k c (keep mask vs)) (same_sign false (is_even_word w)) n r (round old w) + over k (same_sign true (is_even_word w)) some r (keep mask (round old w))) ws
    each [] h go = tt
    each (w ∷ ws) h go = (
      either (λ s. over (λ c vs. k c (keep mask vs)) s n r (round old w)) (λ s. over k s some r (keep mask (round old w))) (is_even_word w)
          (go (round old w) (round_long w old (h.0 ∙ sym olds) ∙ olds)),
      each ws h.1 go,
    )

-- ---- all executions

pub nobody : (k : Bool → List View → ℕ) (b : Bool) (r : ℕ) → over k b 0 r [] ≡ k b []
nobody k true zero = omega arith
nobody k false zero = omega arith
nobody k b (suc r) =
    let f = λ (ws : List Word). k (same_sign b (is_even ws)) (fold round [] ws) in
    let e = total_append f (map (λ rest. [] ∷ rest) (lists_of (words 1 0) r)) [] in
    let d = total_map f (λ rest. [] ∷ rest) (lists_of (words 1 0) r) in
    let h = nobody k b r in
    omega (arith, e, d, h)

none_kept : {X : Type 0} (xs : List X) → keep (map (λ x. false) xs) xs ≡ []
none_kept [] = refl
none_kept (x ∷ xs) = none_kept xs

pub one_in_all : (r : ℕ) (old : List View) → length old ≤ 4 → over (λ c vs. cond c 1 0) true (length old) r old ≡ over (λ c vs. cond c 1 0) false (length old) r old + 1
one_in_all r old small =
    let k : Bool → List View → ℕ = λ c vs. cond c 1 0 in
    let mask = map (λ (v : View). false) old in
    let h = marginal r k mask old (length old) 0 small (length-map old (λ v. false)) refl (ap length (none_kept old)) in
    let a = ap (over k true 0 r) (none_kept old) ∙ nobody k true r in
    let b = ap (over k false 0 r) (none_kept old) ∙ nobody k false r in
    omega (arith, h, a, b)
