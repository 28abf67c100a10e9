-- Executions of inputs that differ by the names of the processes alone have the same classes.
use Rattle.std.proofs.Common.{◌≡◌, ℕ, zero, suc, ◌+◌, ◌==◌, ◌||◌, ◌<◌, ◌≤◌, nat_le, Bool, true, false, List, [], ◌∷◌, map, filter, zip, fold, refl, sym, ap, ◌∙◌, subst, inl, inr, arith}
use Rattle.std.specs.List.{AllByRecursion}
use Rattle.std.proofs.lemmas.Bool.{cases_Bool, eqb-true, eq-eqb, ne_eqb, or_cases, or_left, or_right, false≢true}
use Rattle.wf_model.specs.Lists.{has}
use Rattle.wf_model.specs.Simplex.{Simplex, processes_of, values_of}
use Rattle.wf_model.specs.Word.{Word}
use Rattle.wf_model.specs.View.{View, base, seen, view, views_of, process_of, base_views, visible, round, occurs, occurs_in, renamed, renamed_each, normal}
use Rattle.wf_model.proofs.Lemmas.{each_filter, each_map, count, normal_counted, one_if}
use Rattle.wf_tree_model.proofs.OfCounting.Lists.{Between, all_from, each, map_same_on, not_there}

-- ---- rounds of renamed views

process_renamed : (f : ℕ → ℕ) (v : View) → process_of (renamed f v) ≡ f (process_of v)
process_renamed f (base p x) = refl
process_renamed f (seen p vs) = refl

views_renamed : (f : ℕ → ℕ) (vs : List View) → views_of (map (renamed f) vs) ≡ renamed_each f (views_of vs)
views_renamed f [] = refl
views_renamed f (v ∷ vs) = ap (view (renamed f v)) (views_renamed f vs)

visible_renamed : (f : ℕ → ℕ) (block : ℕ) (w : Word) (old : List View) → visible block w (map (renamed f) old) ≡ map (renamed f) (visible block w old)
visible_renamed f block [] old = refl
visible_renamed f block (b ∷ w) [] = refl
visible_renamed f block (b ∷ w) (v ∷ old) =
    elim (cases_Bool (nat_le b block)) [
      | inl low ↦ rw low (ap (λ vs. renamed f v ∷ vs) (visible_renamed f block w old))
      | inr high ↦ rw high (visible_renamed f block w old)
    ]

round_within : (f : ℕ → ℕ) (all : Word) (views : List View) (w : Word) (old : List View) →
    map (λ q. seen (process_of q.1) (views_of (visible q.0 all (map (renamed f) views)))) (zip w (map (renamed f) old)) ≡ map (renamed f) (map (λ q. seen (process_of q.1) (views_of (visible q.0 all views))) (zip w old))
round_within f all views [] old = refl
round_within f all views (b ∷ w) [] = refl
round_within f all views (b ∷ w) (v ∷ old) =
    let rest = round_within f all views w old in
    let seen_there = ap views_of (visible_renamed f b all views) ∙ views_renamed f (visible b all views) in
    λ i. seen (process_renamed f v i) (seen_there i) ∷ rest i

round_renamed : (f : ℕ → ℕ) (old : List View) (w : Word) → round (map (renamed f) old) w ≡ map (renamed f) (round old w)
round_renamed f old w = round_within f w old w old

rounds_renamed : (f : ℕ → ℕ) (ws : List Word) (old : List View) → fold round (map (renamed f) old) ws ≡ map (renamed f) (fold round old ws)
rounds_renamed f [] old = refl
rounds_renamed f (w ∷ ws) old = ap (λ vs. fold round vs ws) (round_renamed f old w) ∙ rounds_renamed f ws (round old w)

-- ---- the processes that occur

abbrev Covers : (ℕ → Bool) → View → Type 0
Covers set v = (q : ℕ) → occurs q v ≡ true → set q ≡ true

own_occurs : (v : View) → occurs (process_of v) v ≡ true
own_occurs (base p x) = eq-eqb p p refl
own_occurs (seen p vs) = or_left (p == p) (occurs_in p vs) (eq-eqb p p refl)

covers_views : (set : ℕ → Bool) (vs : List View) → AllByRecursion (Covers set) vs → (q : ℕ) → occurs_in q (views_of vs) ≡ true → set q ≡ true
covers_views set [] h q there = absurd (false≢true there)
covers_views set (v ∷ vs) h q there =
    elim (or_cases (occurs q v) (occurs_in q (views_of vs)) there) [
      | inl here ↦ h.0 q here
      | inr later ↦ covers_views set vs h.1 q later
    ]

each_zip : {X Y : Type 0} (P : Y → Type 0) (xs : List X) (ys : List Y) → AllByRecursion P ys → AllByRecursion (λ (q : X × Y). P q.1) (zip xs ys)
each_zip P [] ys h = tt
each_zip P (x ∷ xs) [] h = tt
each_zip P (x ∷ xs) (y ∷ ys) h = (h.0, each_zip P xs ys h.1)

covers_visible : (set : ℕ → Bool) (block : ℕ) (w : Word) (old : List View) → AllByRecursion (Covers set) old → AllByRecursion (Covers set) (visible block w old)
covers_visible set block w old h =
    each_map (Covers set) (λ (q : ℕ × View). q.1) (filter (λ q. nat_le q.0 block) (zip w old))
    (each_filter (λ (q : ℕ × View). Covers set q.1) (λ q. nat_le q.0 block) (zip w old) (each_zip (Covers set) w old h))

covers_round : (set : ℕ → Bool) (w : Word) (old : List View) → AllByRecursion (Covers set) old → AllByRecursion (Covers set) (round old w)
covers_round set w old h =
    each_map (Covers set) (λ (q : ℕ × View). seen (process_of q.1) (views_of (visible q.0 w old))) (zip w old)
    (each (λ (q : ℕ × View). Covers set q.1) (λ q. Covers set (seen (process_of q.1) (views_of (visible q.0 w old))))
    (λ q c. one_covers q.0 q.1 c) (zip w old) (each_zip (Covers set) w old h))
  where
    one_covers : (b : ℕ) (v : View) → Covers set v → Covers set (seen (process_of v) (views_of (visible b w old)))
    one_covers b v c q there =
        elim (or_cases (q == process_of v) (occurs_in q (views_of (visible b w old))) there) [
          | inl own ↦ subst (λ p. set p ≡ true) (sym (eqb-true q (process_of v) own)) (c (process_of v) (own_occurs v))
          | inr later ↦ covers_views set (visible b w old) (covers_visible set b w old h) q later
        ]

covers_rounds : (set : ℕ → Bool) (ws : List Word) (old : List View) → AllByRecursion (Covers set) old → AllByRecursion (Covers set) (fold round old ws)
covers_rounds set [] old h = h
covers_rounds set (w ∷ ws) old h = covers_rounds set ws (round old w) (covers_round set w old h)

covers_base : (set : ℕ → Bool) (s : Simplex) → AllByRecursion (λ p. set p ≡ true) (processes_of s) → AllByRecursion (Covers set) (base_views s)
covers_base set [] h = tt
covers_base set (v ∷ s) h = (λ q there. subst (λ p. set p ≡ true) (sym (eqb-true q v.0 there)) h.0, covers_base set s h.1)

each_has_it : (ps : List ℕ) → AllByRecursion (λ p. has ps p ≡ true) ps
each_has_it [] = tt
each_has_it (p ∷ ps) =
    (or_left (p == p) (has ps p) (eq-eqb p p refl), each (λ q. has ps q ≡ true) (λ q. has (p ∷ ps) q ≡ true) (λ q h. or_right (p == q) (has ps q) h) ps (each_has_it ps))

-- ---- ranks

-- vertices at i and the processes after it
abbrev pub places : ℕ → List ℕ → Simplex
places i [] = []
places i (x ∷ xs) = (i, x) ∷ places (suc i) xs

one_at : (b : Bool) → b ≡ true → one_if b ≡ 1
one_at b h = ap one_if h

none_at : (b : Bool) → b ≡ false → one_if b ≡ 0
none_at b h = ap one_if h

count_none : (ps : List ℕ) (q : ℕ) → AllByRecursion (λ p. q ≤ p) ps → count (has ps) q ≡ 0
count_none ps zero h = refl
count_none ps (suc q) h =
    let e = count_none ps q (each (λ p. suc q ≤ p) (λ p. q ≤ p) (λ p l. omega (arith, l)) ps h) in
    let d = none_at (has ps q) (not_there q ps (each (λ p. suc q ≤ p) (λ p. (p == q) ≡ false) (λ p l. ne_eqb p q (λ e. absurd (let none : ⊥ = omega (arith, e, l) in none))) ps h)) in
    omega (arith, e, d)

le : (a b : ℕ) → a ≤ b → nat_le a b ≡ true
le a b h = grind (arith, h)

not_le : (a b : ℕ) → b < a → nat_le a b ≡ false
not_le a b h = grind (arith, h)

both_sides : (p q : ℕ) → (p == q) ≡ false → nat_le (suc q) p ≡ nat_le q p
both_sides p q other =
    elim (cases_Bool (nat_le q p)) [
      | inl low ↦ let l : suc q ≤ p = grind (arith, low, other) in le (suc q) p l ∙ sym low
      | inr high ↦ let l : p < suc q = grind (arith, high) in not_le (suc q) p l ∙ sym high
    ]

-- p is one more of those below q
count_more : (p : ℕ) (ps : List ℕ) (q : ℕ) → has ps p ≡ false → count (has (p ∷ ps)) q + one_if (nat_le q p) ≡ suc (count (has ps) q)
count_more p ps zero h = let d = one_at (nat_le 0 p) (le 0 p (omega arith)) in omega (arith, d)
count_more p ps (suc q) h =
    let e = count_more p ps q h in
    elim (cases_Bool (p == q)) [
      | inl same ↦
          let is = eqb-true p q same in
          let a = none_at (has ps q) (subst (λ u. has ps u ≡ false) is h) in
          let b = one_at (has (p ∷ ps) q) (or_left (p == q) (has ps q) same) in
          let c = none_at (nat_le (suc q) p) (not_le (suc q) p (omega (arith, is))) in
          let d = one_at (nat_le q p) (le (q) p (omega (arith, is))) in
          omega (arith, e, a, b, c, d)
      | inr other ↦
          let a : one_if (has (p ∷ ps) q) ≡ one_if (has ps q) = ap (λ b. one_if (b || has ps q)) other in
          let c : one_if (nat_le (suc q) p) ≡ one_if (nat_le q p) = ap one_if (both_sides p q other) in
          omega (arith, e, a, c)
    ]

ranked : (i a : ℕ) (s : Simplex) (n : ℕ) (g : ℕ → ℕ) → Between a (processes_of s) n → ((q : ℕ) → a ≤ q → g q ≡ i + count (has (processes_of s)) q) → map (renamed g) (base_views s) ≡ base_views (places i (values_of s))
ranked i a [] n g up h = refl
ranked i a (v ∷ s) n g up h =
    let ps = processes_of s in
    let later = all_from (suc v.0) ps n up.1 in
    let e = h v.0 up.0 in
    let c = count_none (v.0 ∷ ps) v.0 ((let l : v.0 ≤ v.0 = omega arith in l), each (λ p. suc v.0 ≤ p) (λ p. v.0 ≤ p) (λ p l. omega (arith, l)) ps later) in
    let first : g v.0 ≡ i = omega (arith, e, c) in
    let apart = not_there v.0 ps (each (λ p. suc v.0 ≤ p) (λ p. (p == v.0) ≡ false) (λ p l. ne_eqb p v.0 (λ e. absurd (let none : ⊥ = omega (arith, e, l) in none))) ps later) in
    let rest = ranked (suc i) (suc v.0) s n g up.1
    (λ q l.
    let m = count_more v.0 ps q apart in
    let z : one_if (nat_le q v.0) ≡ 0 = none_at (nat_le q v.0) (let f : nat_le q v.0 ≡ false = grind (arith, l) in f) in
    let low = up.0 in
    let t = h q (omega (arith, low, l)) in
    omega (arith, m, z, t)) in
    λ i. base (first i) v.1 ∷ rest i

-- the classes of an ascending simplex are those of its values by rank
pub same_classes : (s : Simplex) (n : ℕ) → Between 0 (processes_of s) n → (ws : List Word) →
    map normal (fold round (base_views s) ws) ≡ map normal (fold round (base_views (places 0 (values_of s))) ws)
same_classes s n up ws =
    let set = has (processes_of s) in
    let vs = fold round (base_views s) ws in
    let covered = covers_rounds set ws (base_views s) (covers_base set s (each_has_it (processes_of s))) in
    map_same_on normal (λ v. normal (renamed (count set) v)) vs (each (Covers set) (λ v. normal v ≡ normal (renamed (count set) v)) (λ v c. sym (normal_counted set v c)) vs covered)
    ∙ sym (twice (count set) vs)
    ∙ ap (map normal) (sym (rounds_renamed (count set) ws (base_views s)) ∙ ap (λ old. fold round old ws) (ranked 0 0 s n (count set) up (λ q l. let e : count set q ≡ 0 + count set q = omega arith in e)))
  where
    twice : (f : ℕ → ℕ) (vs : List View) → map normal (map (renamed f) vs) ≡ map (λ v. normal (renamed f v)) vs
    twice f [] = refl
    twice f (v ∷ vs) = ap (λ us. normal (renamed f v) ∷ us) (twice f vs)
