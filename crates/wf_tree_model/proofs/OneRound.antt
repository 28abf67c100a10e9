-- One round: labels of pairs of views that are flat in each word come from a potential. What a
-- place sees in a word is a row, the place in front.
use Rattle.std.proofs.Common.{◌≡◌, ℕ, zero, suc, ◌==◌, ◌&&◌, ◌||◌, ◌<◌, ◌≤◌, nat_lt, not, Bool, true, false, cond, List, [], ◌∷◌, ◌++◌, map, filter, flat_map, drop, get_or, refl, sym, ap, ◌∙◌, subst, inl, inr, arith}
use Rattle.std.specs.List.{AllByRecursion, list_all, list_any}
use Rattle.std.proofs.lemmas.Bool.{and_parts, cases_eq, eq-eqb, eqb-true, false≢true, or_cases}
use Rattle.wf_model.specs.Lists.{below, has}
use Rattle.wf_model.specs.Simplex.{parts_of}
use Rattle.wf_model.specs.Word.{Word, words}
use Rattle.wf_model.proofs.Lemmas.{each_append, each_flat, each_map}
use Rattle.wf_tree_model.specs.Counting.Rules.{same_numbers}
use Rattle.wf_tree_model.proofs.OfCounting.Lemmas.{each_passes, map_same_on, numbers_equal}
use Rattle.wf_tree_model.proofs.Members.{Has, from_each, has_any, of_has}
use Rattle.wf_tree_model.proofs.WordTests.{at_goal, below_has, chosen, filter_gives, goal, goal_of, has_below, has_chosen, has_number, hop, hopped, hops, is_a_word, passes_word, row, seen_at}

-- ---- pairs of rows

abbrev Edge : Type 0
Edge = List ℕ × List ℕ

abbrev is_listed : List Edge → List ℕ → List ℕ → Bool
is_listed known a b = list_any (λ e. same_numbers e.0 a && same_numbers e.1 b) known

-- ---- a tree of pairs, from the row of c alone

-- the first place that isn't c
abbrev pub other : ℕ → List ℕ → ℕ
other c [] = c
other c (q ∷ qs) = cond (q == c) (other c qs) q

-- from c alone to who sees c
abbrev to_seeing : ℕ → List ℕ → List Edge
to_seeing c set = map (λ q. (c ∷ c ∷ [], q ∷ set)) (filter (λ q. not (q == c)) set)

-- from one of them to c that sees the same
abbrev to_same : ℕ → List ℕ → List Edge
to_same c set = map (λ q. (q ∷ set, c ∷ set)) (filter (λ q. not (q == c) && (q == other c set)) set)

-- from c that sees all to who doesn't see it
abbrev to_unseeing : ℕ → ℕ → List ℕ → List Edge
to_unseeing n c set = map (λ q. (c ∷ below n, q ∷ set)) (filter (λ q. not (q == c) && not (same_numbers (below n) (c ∷ []))) set)

abbrev branches : ℕ → ℕ → List ℕ → List Edge
branches n c set = cond (has set c) (cond (same_numbers set (c ∷ [])) [] (to_seeing c set ++ to_same c set)) (to_unseeing n c set)

abbrev tree : ℕ → ℕ → List Edge
tree n c = flat_map (branches n c) (parts_of (below n))

-- ---- words one after the other

abbrev Places : Type 0
Places = ℕ × ℕ

-- the places i and j with i below j
abbrev place_pairs : ℕ → List Places
place_pairs n = flat_map (λ i. map (λ j. (i, j)) (filter (nat_lt i) (below n))) (below n)

abbrev is_tied : ℕ → List Edge → Word → Places → Bool
is_tied n known w e = is_listed known (row n e.0 w) (row n e.1 w) || is_listed known (row n e.1 w) (row n e.0 w)

abbrev ties : ℕ → List Edge → Word → List Places
ties n known w = filter (is_tied n known w) (place_pairs n)

abbrev is_next : List Places → List ℕ → ℕ → Bool
is_next tied reached j = has reached j || list_any (λ e. ((e.1 == j) && has reached e.0) || ((e.0 == j) && has reached e.1)) tied

abbrev spread : ℕ → List Places → List ℕ → List ℕ
spread n tied reached = filter (is_next tied reached) (below n)

-- the tied pairs join all places
abbrev joins : ℕ → List Places → Bool
joins n tied = list_all (has (spread n tied (spread n tied (spread n tied (0 ∷ []))))) (below n)

abbrev added : ℕ → List Edge → Word → List Places → List Edge
added n known w tied = cond (joins n tied) (map (λ e. (row n e.0 w, row n e.1 w)) (filter (λ e. not (is_tied n known w e)) (place_pairs n)) ++ known) known

-- the pairs that follow, word by word
abbrev following : ℕ → List Word → List Edge → List Edge
following n [] known = known
following n (w ∷ ws) known = following n ws (added n known w (ties n known w))

abbrev all_pairs : ℕ → ℕ → List Edge
all_pairs n c = following n (words 1 n) (following n (words 1 n) (tree n c))

abbrev passes : ℕ → ℕ → Bool
passes n c = list_all (λ w. joins n (ties n (all_pairs n c) w)) (words 1 n)

-- ---- words with given rows

-- i alone, then j, then the others
abbrev pub in_turn : ℕ → ℕ → ℕ → Word
in_turn n i j = map (λ k. cond (k == i) 0 (cond (k == j) 1 2)) (below n)

-- these together, then the others
abbrev pub together : ℕ → List ℕ → Word
together n set = map (λ k. cond (has set k) 0 1) (below n)

-- two places in their order
abbrev pub pair : ℕ → ℕ → List ℕ
pair i j = cond (nat_lt i j) (i ∷ j ∷ []) (j ∷ i ∷ [])

abbrev is_row : ℕ → ℕ → Word → List ℕ → Bool
is_row n p w places = same_numbers (row n p w) places

abbrev passes_pair : ℕ → ℕ → ℕ → Bool
passes_pair n i j =
    (i == j)
    || ((passes_word n (in_turn n i j) && passes_word n (together n (i ∷ j ∷ [])))
    && ((is_row n i (in_turn n i j) (i ∷ i ∷ []) && is_row n j (in_turn n i j) (j ∷ pair i j))
    && (is_row n i (together n (i ∷ j ∷ [])) (i ∷ pair i j) && is_row n j (together n (i ∷ j ∷ [])) (j ∷ pair i j))))

abbrev passes_alone : ℕ → ℕ → Bool
passes_alone n i = passes_word n (together n (i ∷ [])) && is_row n i (together n (i ∷ [])) (i ∷ i ∷ [])

-- none of the places is the only one
abbrev passes_corner : ℕ → ℕ → Bool
passes_corner n c = passes n c && (passes_alone n c && list_all (passes_pair n c) (below n))

two : list_all (passes_corner 2) (below 2) ≡ true
two = refl

three : list_all (passes_corner 3) (below 3) ≡ true
three = refl

four : list_all (passes_corner 4) (below 4) ≡ true
four = refl

every : (n : ℕ) → 2 ≤ n → n ≤ 4 → list_all (passes_corner n) (below n) ≡ true
every zero some few = absurd (let none : ⊥ = omega arith in none)
every (suc zero) some few = absurd (let none : ⊥ = omega arith in none)
every (suc (suc zero)) some few = two
every (suc (suc (suc zero))) some few = three
every (suc (suc (suc (suc zero)))) some few = four
every (suc (suc (suc (suc (suc n))))) some few = absurd (let none : ⊥ = omega arith in none)

corner : (n c : ℕ) → 2 ≤ n → n ≤ 4 → c < n → passes_corner n c ≡ true
corner n c some few low = of_has (λ i. passes_corner n i ≡ true) (below n) c (each_passes (passes_corner n) (below n) (every n some few)) (below_has n c low)

pub record Alone (n i : ℕ) : Type 0 where
  pub word : Has (together n (i ∷ [])) (words 1 n)
  pub row : row n i (together n (i ∷ [])) ≡ i ∷ i ∷ []

pub alone_row : (n i : ℕ) → 2 ≤ n → n ≤ 4 → i < n → Alone n i
alone_row n i some few low =
    let w = together n (i ∷ []) in
    let a = and_parts (passes n i) (passes_alone n i && list_all (passes_pair n i) (below n)) (corner n i some few low) in
    let b = and_parts (passes_alone n i) (list_all (passes_pair n i) (below n)) a.1 in
    let d = and_parts (passes_word n w) (is_row n i w (i ∷ i ∷ [])) b.0 in
    record { word = is_a_word n w d.0; row = numbers_equal (row n i w) (i ∷ i ∷ []) d.1 }

-- the rows on the way from i alone to j alone, but for the last
pub record Pair (n i j : ℕ) : Type 0 where
  pub turn : Has (in_turn n i j) (words 1 n)
  pub both : Has (together n (i ∷ j ∷ [])) (words 1 n)
  pub first : row n i (in_turn n i j) ≡ i ∷ i ∷ []
  pub second : row n j (in_turn n i j) ≡ j ∷ pair i j
  pub one : row n i (together n (i ∷ j ∷ [])) ≡ i ∷ pair i j
  pub other : row n j (together n (i ∷ j ∷ [])) ≡ j ∷ pair i j

pub pair_rows : (n i j : ℕ) → 2 ≤ n → n ≤ 4 → i < n → j < n → (i ≡ j → ⊥) → Pair n i j
pair_rows n i j some few i_low j_low apart =
    let u = in_turn n i j in
    let w = together n (i ∷ j ∷ []) in
    let a = and_parts (passes n i) (passes_alone n i && list_all (passes_pair n i) (below n)) (corner n i some few i_low) in
    let b = and_parts (passes_alone n i) (list_all (passes_pair n i) (below n)) a.1 in
    let d : passes_pair n i j ≡ true = of_has (λ k. passes_pair n i k ≡ true) (below n) j (each_passes (passes_pair n i) (below n) b.1) (below_has n j j_low) in
    let are_words = passes_word n u && passes_word n w in
    let in_u = is_row n i u (i ∷ i ∷ []) && is_row n j u (j ∷ pair i j) in
    let in_w = is_row n i w (i ∷ pair i j) && is_row n j w (j ∷ pair i j) in
    let e : (are_words && (in_u && in_w)) ≡ true = elim (or_cases (i == j) (are_words && (in_u && in_w)) d) [ inl same ↦ absurd (apart (eqb-true i j same)) | inr rest ↦ rest ] in
    let f = and_parts are_words (in_u && in_w) e in
    let g = and_parts (passes_word n u) (passes_word n w) f.0 in
    let h = and_parts in_u in_w f.1 in
    let k = and_parts (is_row n i u (i ∷ i ∷ [])) (is_row n j u (j ∷ pair i j)) h.0 in
    let l = and_parts (is_row n i w (i ∷ pair i j)) (is_row n j w (j ∷ pair i j)) h.1 in
    record {
      turn = is_a_word n u g.0;
      both = is_a_word n w g.1;
      first = numbers_equal (row n i u) (i ∷ i ∷ []) k.0;
      second = numbers_equal (row n j u) (j ∷ pair i j) k.1;
      one = numbers_equal (row n i w) (i ∷ pair i j) l.0;
      other = numbers_equal (row n j w) (j ∷ pair i j) l.1;
    }

-- ---- flat labels

-- what a label takes a sheet at the first row to, at the second
abbrev pub Label : Type 0
Label = List ℕ → List ℕ → ℕ → ℕ

-- round the places of each word
pub record IsFlat (n : ℕ) (label : Label) : Type 0 where
  pub own : (w : Word) → Has w (words 1 n) → (i x : ℕ) → i < n → label (row n i w) (row n i w) x ≡ x
  pub flat : (w : Word) → Has w (words 1 n) → (i j k x : ℕ) → i < n → j < n → k < n → label (row n j w) (row n k w) (label (row n i w) (row n j w) x) ≡ label (row n i w) (row n k w) x

-- sheets that the labels take to one another
abbrev pub Follows : ℕ → Label → (List ℕ → ℕ) → Type 0
Follows n label sheet = (w : Word) → Has w (words 1 n) → (i j : ℕ) → i < n → j < n → sheet (row n j w) ≡ label (row n i w) (row n j w) (sheet (row n i w))

-- ---- the potential

abbrev pub from_seeing : ℕ → Label → ℕ → ℕ → List ℕ → ℕ
from_seeing c label x q set = label (c ∷ c ∷ []) (q ∷ set) x

abbrev pub from_same : ℕ → Label → ℕ → List ℕ → ℕ
from_same c label x set = label (other c set ∷ set) (c ∷ set) (from_seeing c label x (other c set) set)

abbrev pub at_row : ℕ → ℕ → Label → ℕ → ℕ → List ℕ → ℕ
at_row n c label x q set =
    cond (q == c)
    (cond (same_numbers set (c ∷ [])) x (from_same c label x set))
    (cond (has set c) (from_seeing c label x q set) (label (c ∷ below n) (q ∷ set) (from_same c label x (below n))))

-- the sheet of a row: x where c is alone, and then along the tree
abbrev pub potential : ℕ → ℕ → Label → ℕ → List ℕ → ℕ
potential n c label x places = at_row n c label x (get_or places 0 0) (drop 1 places)

is_false : (b : Bool) → not b ≡ true → b ≡ false
is_false true h = absurd (false≢true h)
is_false false h = refl

module _ (n c : ℕ) (label : Label) (x : ℕ) where
  abbrev sheet : List ℕ → ℕ
  sheet = potential n c label x

  abbrev Known : Edge → Type 0
  Known e = sheet e.1 ≡ label e.0 e.1 (sheet e.0)

  itself : (c == c) ≡ true
  itself = eq-eqb c c refl

  pub starts : sheet (c ∷ c ∷ []) ≡ x
  starts = rw itself refl

  other_is : (q : ℕ) (set : List ℕ) → (q == c) ≡ false → has set c ≡ true → sheet (q ∷ set) ≡ from_seeing c label x q set
  other_is q set apart sees = rw (apart, sees) refl

  same_is : (set : List ℕ) → same_numbers set (c ∷ []) ≡ false → sheet (c ∷ set) ≡ from_same c label x set
  same_is set more = rw (itself, more) refl

  unseeing_is : (q : ℕ) (set : List ℕ) → (q == c) ≡ false → has set c ≡ false → sheet (q ∷ set) ≡ label (c ∷ below n) (q ∷ set) (from_same c label x (below n))
  unseeing_is q set apart sees = rw (apart, sees) refl

  tree_known : AllByRecursion Known (tree n c)
  tree_known = each_flat Known (branches n c) (parts_of (below n)) (from_each (λ set. AllByRecursion Known (branches n c set)) (parts_of (below n)) (λ set there. by set (has set c) refl (same_numbers set (c ∷ [])) refl))
    where
      seeing : (set : List ℕ) → has set c ≡ true → AllByRecursion Known (to_seeing c set)
      seeing set sees =
          each_map Known (λ q. (c ∷ c ∷ [], q ∷ set)) (filter (λ q. not (q == c)) set)
          (from_each (λ q. Known (c ∷ c ∷ [], q ∷ set)) (filter (λ q. not (q == c)) set)
          (λ q there.
          let apart = is_false (q == c) (filter_gives (λ p. not (p == c)) set q there).1 in
          other_is q set apart sees ∙ ap (label (c ∷ c ∷ []) (q ∷ set)) (sym starts)))

      same : (set : List ℕ) → has set c ≡ true → same_numbers set (c ∷ []) ≡ false → AllByRecursion Known (to_same c set)
      same set sees more =
          each_map Known (λ q. (q ∷ set, c ∷ set)) (filter (λ q. not (q == c) && (q == other c set)) set)
          (from_each (λ q. Known (q ∷ set, c ∷ set)) (filter (λ q. not (q == c) && (q == other c set)) set)
          (λ q there.
          let parts = and_parts (not (q == c)) (q == other c set) (filter_gives (λ p. not (p == c) && (p == other c set)) set q there).1 in
          let is = eqb-true q (other c set) parts.1 in
          same_is set more
          ∙ ap (λ p. label (p ∷ set) (c ∷ set) (from_seeing c label x p set)) (sym is)
          ∙ ap (label (q ∷ set) (c ∷ set)) (sym (other_is q set (is_false (q == c) parts.0) sees))))

      unseeing : (set : List ℕ) → has set c ≡ false → AllByRecursion Known (to_unseeing n c set)
      unseeing set sees =
          each_map Known (λ q. (c ∷ below n, q ∷ set)) (filter (λ q. not (q == c) && not (same_numbers (below n) (c ∷ []))) set)
          (from_each (λ q. Known (c ∷ below n, q ∷ set)) (filter (λ q. not (q == c) && not (same_numbers (below n) (c ∷ []))) set)
          (λ q there.
          let parts = and_parts (not (q == c)) (not (same_numbers (below n) (c ∷ []))) (filter_gives (λ p. not (p == c) && not (same_numbers (below n) (c ∷ []))) set q there).1 in
          unseeing_is q set (is_false (q == c) parts.0) sees
          ∙ ap (label (c ∷ below n) (q ∷ set)) (sym (same_is (below n) (is_false (same_numbers (below n) (c ∷ [])) parts.1)))))

      by : (set : List ℕ) (b : Bool) → has set c ≡ b → (d : Bool) → same_numbers set (c ∷ []) ≡ d → AllByRecursion Known (cond b (cond d [] (to_seeing c set ++ to_same c set)) (to_unseeing n c set))
      by set true sees true only = tt
      by set true sees false more = each_append Known (to_seeing c set) (to_same c set) (seeing set sees) (same set sees more)
      by set false sees d only = unseeing set sees

  module _ (is : IsFlat n label) where
    abbrev Joined : Word → ℕ → ℕ → Type 0
    Joined w i j = sheet (row n j w) ≡ label (row n i w) (row n j w) (sheet (row n i w))

    back : (w : Word) → Has w (words 1 n) → (i j : ℕ) → i < n → j < n → Joined w i j → Joined w j i
    back w there i j i_low j_low h =
        sym (is.own w there i (sheet (row n i w)) i_low)
        ∙ sym (is.flat w there i j i (sheet (row n i w)) i_low j_low i_low)
        ∙ ap (label (row n j w) (row n i w)) (sym h)

    onward : (w : Word) → Has w (words 1 n) → (i j k : ℕ) → i < n → j < n → k < n → Joined w i j → Joined w j k → Joined w i k
    onward w there i j k i_low j_low k_low h g = g ∙ ap (label (row n j w) (row n k w)) h ∙ is.flat w there i j k (sheet (row n i w)) i_low j_low k_low

    listed : (known : List Edge) → AllByRecursion Known known → (w : Word) (i j : ℕ) → is_listed known (row n i w) (row n j w) ≡ true → Joined w i j
    listed known all w i j h =
        let found = has_any (λ e. same_numbers e.0 (row n i w) && same_numbers e.1 (row n j w)) known h in
        let e = found.0 in
        let parts = and_parts (same_numbers e.0 (row n i w)) (same_numbers e.1 (row n j w)) found.2 in
        let from = numbers_equal e.0 (row n i w) parts.0 in
        let to = numbers_equal e.1 (row n j w) parts.1 in
        subst (λ a. sheet (row n j w) ≡ label a (row n j w) (sheet a)) from
        (subst (λ b. sheet b ≡ label e.0 b (sheet e.0)) to (of_has Known known e all found.1))

    abbrev IsPair : Places → Type 0
    IsPair e = (e.0 < n) × (e.1 < n)

    pairs_low : AllByRecursion IsPair (place_pairs n)
    pairs_low =
        each_flat IsPair (λ i. map (λ j. (i, j)) (filter (nat_lt i) (below n))) (below n)
        (from_each (λ i. AllByRecursion IsPair (map (λ j. (i, j)) (filter (nat_lt i) (below n)))) (below n)
        (λ i i_there. each_map IsPair (λ j. (i, j)) (filter (nat_lt i) (below n))
        (from_each (λ j. IsPair (i, j)) (filter (nat_lt i) (below n))
        (λ j there. (has_below n i i_there, has_below n j (filter_gives (nat_lt i) (below n) j there).0)))))

    -- a pair of places below n that are joined
    abbrev IsTied : Word → Places → Type 0
    IsTied w e = (e.0 < n) × (e.1 < n) × Joined w e.0 e.1

    tied : (known : List Edge) → AllByRecursion Known known → (w : Word) → Has w (words 1 n) → AllByRecursion (IsTied w) (ties n known w)
    tied known all w there =
        from_each (IsTied w) (ties n known w)
        (λ e e_there.
        let parts = filter_gives (is_tied n known w) (place_pairs n) e e_there in
        let low = of_has IsPair (place_pairs n) e pairs_low parts.0 in (
          low.0,
          low.1,
          elim (or_cases (is_listed known (row n e.0 w) (row n e.1 w)) (is_listed known (row n e.1 w) (row n e.0 w)) parts.1) [
            | inl forth ↦ listed known all w e.0 e.1 forth
            | inr other ↦ back w there e.1 e.0 low.1 low.0 (listed known all w e.1 e.0 other)
          ],
        ))

    abbrev IsReached : Word → ℕ → Type 0
    IsReached w j = (j < n) × Joined w 0 j

    spreads : (w : Word) → Has w (words 1 n) → 0 < n → (es : List Places) → AllByRecursion (IsTied w) es → (reached : List ℕ) → AllByRecursion (IsReached w) reached → AllByRecursion (IsReached w) (spread n es reached)
    spreads w there some es are reached so_far =
        from_each (IsReached w) (spread n es reached)
        (λ j j_there.
        let parts = filter_gives (is_next es reached) (below n) j j_there in
        let j_low = has_below n j parts.0 in
        elim (or_cases (has reached j) (list_any (λ e. ((e.1 == j) && has reached e.0) || ((e.0 == j) && has reached e.1)) es) parts.1) [
          | inl old ↦ of_has (IsReached w) reached j so_far (has_number j reached old)
          | inr new ↦
              let found = has_any (λ e. ((e.1 == j) && has reached e.0) || ((e.0 == j) && has reached e.1)) es new in
              let e = found.0 in
              let is_tied = of_has (IsTied w) es e are found.1 in
              elim (or_cases ((e.1 == j) && has reached e.0) ((e.0 == j) && has reached e.1) found.2) [
                | inl forth ↦
                    let p = and_parts (e.1 == j) (has reached e.0) forth in
                    let from = of_has (IsReached w) reached e.0 so_far (has_number e.0 reached p.1) in
                    subst (IsReached w) (eqb-true e.1 j p.0) (is_tied.1, onward w there 0 e.0 e.1 some is_tied.0 is_tied.1 from.1 is_tied.2)
                | inr other ↦
                    let p = and_parts (e.0 == j) (has reached e.1) other in
                    let from = of_has (IsReached w) reached e.1 so_far (has_number e.1 reached p.1) in
                    subst (IsReached w) (eqb-true e.0 j p.0) (is_tied.0, onward w there 0 e.1 e.0 some is_tied.1 is_tied.0 from.1 (back w there e.0 e.1 is_tied.0 is_tied.1 is_tied.2))
              ]
        ])

    abbrev AllJoined : Word → Type 0
    AllJoined w = (i j : ℕ) → i < n → j < n → Joined w i j

    joined_all : (w : Word) → Has w (words 1 n) → 0 < n → (es : List Places) → AllByRecursion (IsTied w) es → joins n es ≡ true → AllJoined w
    joined_all w there some es are h i j i_low j_low =
        let start : AllByRecursion (IsReached w) (0 ∷ []) = ((some, sym (is.own w there 0 (sheet (row n 0 w)) some)), tt) in
        let last = spread n es (spread n es (spread n es (0 ∷ []))) in
        let so_far = spreads w there some es are (spread n es (spread n es (0 ∷ []))) (spreads w there some es are (spread n es (0 ∷ [])) (spreads w there some es are (0 ∷ []) start)) in
        let from_0 = λ (k : ℕ) (low : k < n).
        (of_has (IsReached w) last k so_far (has_number k last (of_has (λ q. has last q ≡ true) (below n) k (each_passes (has last) (below n) h) (below_has n k low)))).1 in
        onward w there i 0 j i_low some j_low (back w there 0 i some i_low (from_0 i i_low)) (from_0 j j_low)

    more_known : (known : List Edge) → AllByRecursion Known known → (w : Word) → Has w (words 1 n) → 0 < n → AllByRecursion Known (added n known w (ties n known w))
    more_known known all w there some = by (joins n (ties n known w)) refl
      where
        by : (b : Bool) → joins n (ties n known w) ≡ b → AllByRecursion Known (cond b (map (λ e. (row n e.0 w, row n e.1 w)) (filter (λ e. not (is_tied n known w e)) (place_pairs n)) ++ known) known)
        by true h =
            let good = joined_all w there some (ties n known w) (tied known all w there) h in
            let fresh = filter (λ e. not (is_tied n known w e)) (place_pairs n) in
            each_append Known (map (λ e. (row n e.0 w, row n e.1 w)) fresh) known
            (each_map Known (λ e. (row n e.0 w, row n e.1 w)) fresh
            (from_each (λ e. Known (row n e.0 w, row n e.1 w)) fresh
            (λ e e_there. let low = of_has IsPair (place_pairs n) e pairs_low (filter_gives (λ k. not (is_tied n known w k)) (place_pairs n) e e_there).0 in good e.0 e.1 low.0 low.1)))
            all
        by false h = all

    follows : (ws : List Word) → AllByRecursion (λ w. Has w (words 1 n)) ws → 0 < n → (known : List Edge) → AllByRecursion Known known → AllByRecursion Known (following n ws known)
    follows [] there some known all = all
    follows (w ∷ ws) there some known all = follows ws there.1 some (added n known w (ties n known w)) (more_known known all w there.0 some)

    pub potential_follows : 2 ≤ n → n ≤ 4 → c < n → Follows n label sheet
    potential_follows some few low w there =
        let a = and_parts (passes n c) (passes_alone n c && list_all (passes_pair n c) (below n)) (corner n c some few low) in
        let positive : 0 < n = omega (arith, some) in
        let listed_words = from_each (λ u. Has u (words 1 n)) (words 1 n) (λ u h. h) in
        let once = following n (words 1 n) (tree n c) in
        let twice = all_pairs n c in
        let known = follows (words 1 n) listed_words positive once (follows (words 1 n) listed_words positive (tree n c) tree_known) in
        let good : joins n (ties n twice w) ≡ true = of_has (λ u. joins n (ties n twice u) ≡ true) (words 1 n) w (each_passes (λ u. joins n (ties n twice u)) (words 1 n) a.0) there in
        joined_all w there positive (ties n twice w) (tied twice known w there) good

-- ---- sheets that follow the labels are the same where they are the same at one row

another_place : (n i : ℕ) → 2 ≤ n → (p : ℕ) × (p < n) × (p ≡ i → ⊥)
another_place n i some =
    elim (cases_eq 0 i) [
      | inl first ↦ (1, (omega (arith, some)), (λ e. let none : ⊥ = omega (arith, e, first) in none))
      | inr apart ↦ (0, (omega (arith, some)), apart)
    ]

module _ (n : ℕ) (some : 2 ≤ n) (few : n ≤ 4) (label : Label) (a b : List ℕ → ℕ) (a_follows : Follows n label a) (b_follows : Follows n label b) where
  abbrev SameAt : Word → ℕ → Type 0
  SameAt w i = a (row n i w) ≡ b (row n i w)

  along_word : (w : Word) → Has w (words 1 n) → (i j : ℕ) → i < n → j < n → SameAt w i → SameAt w j
  along_word w there i j i_low j_low h =
      a_follows w there i j i_low j_low ∙ ap (label (row n i w) (row n j w)) h ∙ sym (b_follows w there i j i_low j_low)

  positive : 1 ≤ n
  positive = omega (arith, some)

  -- another word one view apart
  beside : (u w : Word) → Has u (words 1 n) → Has w (words 1 n) → (i : ℕ) → ((p : ℕ) → p < n → (p ≡ i → ⊥) → row n p u ≡ row n p w) → SameAt u 0 → SameAt w 0
  beside u w u_there w_there i same h =
      let p = another_place n i some in
      let rows_same = same p.0 p.1 p.2 in
      along_word w w_there p.0 0 p.1 positive
      (ap a (sym rows_same) ∙ along_word u u_there 0 p.0 positive p.1 h ∙ ap b rows_same)

  abbrev nobody : List ℕ
  nobody = chosen n (λ p. false)

  forth : (k : ℕ) (w : Word) → Has w (words 1 n) → SameAt w 0 → SameAt (hops k nobody w) 0
  forth zero w there h = h
  forth (suc k) w there h =
      let by = hopped n positive few (λ p. false) w there in
      forth k (hop nobody w) by.word (beside w (hop nobody w) there by.word by.close.0 by.close.2 h)

  back_again : (k : ℕ) (w : Word) → Has w (words 1 n) → SameAt (hops k nobody w) 0 → SameAt w 0
  back_again zero w there h = h
  back_again (suc k) w there h =
      let by = hopped n positive few (λ p. false) w there in
      beside (hop nobody w) w by.word there by.close.0 (λ p low apart. sym (by.close.2 p low apart)) (back_again k (hop nobody w) by.word h)

  one_goal : (u w : Word) → goal n nobody u ≡ goal n nobody w
  one_goal u w =
      ap (goal_of n)
      (map_same_on (λ p. seen_at n p u) (λ p. seen_at n p w) nobody
      (from_each (λ p. seen_at n p u ≡ seen_at n p w) nobody (λ p there. absurd (false≢true (has_chosen n (λ q. false) p there).1))))

  pub same_everywhere : (u w : Word) → Has u (words 1 n) → Has w (words 1 n) → (i j : ℕ) → i < n → j < n → SameAt u i → SameAt w j
  same_everywhere u w u_there w_there i j i_low j_low h =
      let ends : hops 5 nobody u ≡ hops 5 nobody w = at_goal n positive few (λ p. false) u u_there ∙ one_goal u w ∙ sym (at_goal n positive few (λ p. false) w w_there) in
      along_word w w_there 0 j positive j_low
      (back_again 5 w w_there (subst (λ v. SameAt v 0) ends (forth 5 u u_there (along_word u u_there i 0 i_low positive h))))
