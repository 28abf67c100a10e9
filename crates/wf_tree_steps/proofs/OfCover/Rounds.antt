-- Going round tuples, place by place.
use Rattle.std.proofs.Common.{◌≡◌, ℕ, zero, suc, ◌+◌, ◌==◌, ◌&&◌, ◌<◌, ◌≤◌, nat_lt, Bool, true, false, List, [], ◌∷◌, cond, drop, get_or, length, Some, refl, sym, ap, ◌∙◌, arith, add-one, drop-cons}
use Rattle.std.specs.List.{AllByRecursion, list_all}
use Rattle.std.proofs.lemmas.Bool.{false≢true, ltb-true, ne_eqb}
use Rattle.wf_model.specs.Lists.{below}
use Rattle.wf_model.specs.Task.{Tuple}
use Rattle.wf_tree_model.specs.Covers.{Covering, is_flat_on}
use Rattle.wf_tree_model.specs.Trees.{move_by}
use Rattle.wf_tree_model.specs.Tuples.{value_at}
use Rattle.wf_tree_steps.specs.declared.cover.cover.Covering as code_cover
use Rattle.wf_tree_steps.specs.declared.cover.cover.Move as code
use Rattle.wf_tree_steps.specs.declared.cover.cover.CoverFault.TheVariants.{NotFlat}
use Rattle.wf_tree_steps.specs.Cover.Faults.{flat_fault, moves_seen}
use Rattle.wf_tree_steps.specs.Cover.Turns.{IsGoing, is_flat_by, is_flat_tuple, moved_by}
use Rattle.wf_tree_refine.proofs.Lemmas.{each_place, from_each_place}

-- ---- all places

pub each_passes : (f : ℕ → Bool) (n m : ℕ) → n ≤ m → ((i : ℕ) → i < m → f i ≡ true) → true ≡ list_all f (below n)
each_passes f n m few h = sym (from_each_place f 0 n (λ i low. ap f (let e : 0 + i ≡ i = omega arith in e) ∙ h i (omega (arith, low, few))))

pub one_fails : (f : ℕ → Bool) (n i : ℕ) → i < n → f i ≡ false → false ≡ list_all f (below n)
one_fails f n i low fails = by (list_all f (below n)) refl
  where
    by : (b : Bool) → list_all f (below n) ≡ b → false ≡ b
    by false e = refl
    by true e = absurd (false≢true (sym fails ∙ ap f (let d : i ≡ 0 + i = omega arith in d) ∙ each_place f 0 n e i low))

-- ---- sheets

pub not_below : (m n : ℕ) → n ≤ m → nat_lt m n ≡ false
not_below m n high = by (nat_lt m n) refl
  where
    by : (b : Bool) → nat_lt m n ≡ b → b ≡ false
    by false e = refl
    by true e = let low = ltb-true m n e in absurd (let bad : ⊥ = omega (arith, low, high) in bad)

no_first : (a b : Bool) → a ≡ false → (a && b) ≡ false
no_first true b e = absurd (false≢true (sym e))
no_first false b e = refl

no_second : (a b : Bool) → b ≡ false → (a && b) ≡ false
no_second true b e = e
no_second false b e = refl

module _ (moves : List code.Move) (sheets : ℕ) (tuple : Tuple) (i j k s there : ℕ) (is : there ≡ moved_by moves tuple i j s) where
  pub outside : sheets ≤ there → is_flat_by moves sheets tuple i j k s ≡ false
  outside past = no_first (nat_lt (moved_by moves tuple i j s) sheets) (moved_by moves tuple j k (moved_by moves tuple i j s) == moved_by moves tuple i k s) (ap (λ n. nat_lt n sheets) (sym is) ∙ not_below there sheets past)

  pub elsewhere : (on other : ℕ) → on ≡ moved_by moves tuple j k there → other ≡ moved_by moves tuple i k s → (on ≡ other → ⊥) → is_flat_by moves sheets tuple i j k s ≡ false
  elsewhere on other oi ei ne =
      no_second (nat_lt (moved_by moves tuple i j s) sheets) (moved_by moves tuple j k (moved_by moves tuple i j s) == moved_by moves tuple i k s)
      (ne_eqb _ _ (λ e. ne (oi ∙ ap (moved_by moves tuple j k) is ∙ e ∙ sym ei)))

-- ---- tuples

abbrev all_round : Tuple → ℕ → ℕ → (ℕ → ℕ → ℕ → ℕ → ℕ → ℕ) → Bool
all_round tuple n sheets move =
    list_all (λ i. list_all (λ j. list_all (λ k. list_all (λ sheet.
    nat_lt (cond (i == j) sheet (move i (value_at tuple i) j (value_at tuple j) sheet)) sheets
    && (cond (j == k) (cond (i == j) sheet (move i (value_at tuple i) j (value_at tuple j) sheet)) (move j (value_at tuple j) k (value_at tuple k) (cond (i == j) sheet (move i (value_at tuple i) j (value_at tuple j) sheet)))
    == cond (i == k) sheet (move i (value_at tuple i) k (value_at tuple k) sheet))) (below sheets)) (below n)) (below n)) (below n)

flat_same : (c : Covering) (cover : code_cover.Covering) (tuple : Tuple) → c.move ≡ move_by (moves_seen cover.moves.items) → c.sheets ≡ cover.sheets → length tuple ≡ length c.rule.input → is_flat_on c tuple ≡ is_flat_tuple cover.moves.items cover.sheets tuple
flat_same c cover tuple move sheets long =
    let a : all_round tuple (length c.rule.input) c.sheets c.move ≡ all_round tuple (length tuple) c.sheets c.move = ap (λ n. all_round tuple n c.sheets c.move) (sym long) in
    let b : all_round tuple (length tuple) c.sheets c.move ≡ all_round tuple (length tuple) cover.sheets c.move = ap (λ s. all_round tuple (length tuple) s c.move) sheets in
    let d : all_round tuple (length tuple) cover.sheets c.move ≡ all_round tuple (length tuple) cover.sheets (move_by (moves_seen cover.moves.items)) = ap (λ g. all_round tuple (length tuple) cover.sheets g) move in
    a ∙ b ∙ d

long_at : (c : Covering) (tuples : List Tuple) (i : ℕ) (tuple : Tuple) → AllByRecursion (λ t. length t ≡ length c.rule.input) tuples → i < length tuples → tuple ≡ get_or tuples i tuple → length tuple ≡ length c.rule.input
long_at c [] i tuple h low is = absurd (let bad : ⊥ = omega (arith, low) in bad)
long_at c (t ∷ ts) zero tuple h low is = ap length is ∙ h.0
long_at c (t ∷ ts) (suc i) tuple h low is = long_at c ts i tuple h.1 (omega (arith, low)) is

pub tuple_next : (c : Covering) (cover : code_cover.Covering) (tuples : List Tuple) (i : ℕ) (tuple : Tuple) (flat : Bool) → IsGoing c cover tuples → i < length tuples → tuple ≡ get_or tuples i tuple → flat ≡ is_flat_tuple cover.moves.items cover.sheets tuple →
    flat_fault c i (drop i tuples) ≡ cond flat (flat_fault c (i + 1) (drop (i + 1) tuples)) (Some (NotFlat i))
tuple_next c cover tuples i tuple flat going low is same =
    ap (flat_fault c i) (drop-cons tuples i tuple low ∙ ap (λ y. y ∷ drop (suc i) tuples) (sym is))
    ∙ ap (λ b. cond b (flat_fault c (suc i) (drop (suc i) tuples)) (Some (NotFlat i))) (flat_same c cover tuple going.move going.sheets (long_at c tuples i tuple going.long low is) ∙ sym same)
    ∙ (rw (add-one) refl)
