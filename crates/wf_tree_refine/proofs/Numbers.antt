-- Numbers of parts, in the order in which they are met first.
use Rattle.std.proofs.Common.{◌≡◌, ℕ, zero, suc, ◌+◌, ◌==◌, ◌||◌, ◌&&◌, ◌<◌, ◌≤◌, true, false, not, List, [], ◌∷◌, All, IfOk, Result, Ok, Err, get_or, length, map, ◌⊎◌, inl, inr, refl, sym, ap, ◌∙◌, subst, arith}
use Rattle.std.specs.List.{range_with_len}
use Rattle.std.proofs.lemmas.Bool.{and_from, cases_Bool, cases_eq, cases_order, cond-true, cond-false, eq-eqb, eqb-true, not-true, not_from_false, both_ways, or_cases, or_left, or_right, and_parts}
use Rattle.std.proofs.lemmas.List.{get_or-map, length-map}
use Rattle.wf_model.specs.Lists.{below}
use Rattle.wf_model.specs.Task.{Tuple}
use Rattle.wf_simplex.proofs.Lemmas.{Has}
use Rattle.wf_tree_model.specs.Counting.Rules.{same_numbers}
use Rattle.wf_tree_model.specs.Parts.{parts}
use Rattle.wf_tree_model.specs.Tuples.{agree_elsewhere, are_adjacent, value_at}
use Rattle.wf_tree_refine.specs.declared.ways.Adjacency.{Adjacency}
use Rattle.wf_tree_refine.specs.declared.ways.Adjacency.TheVariants.{Steps, Star}
use Rattle.wf_tree_refine.specs.Forest.{rank}
use Rattle.wf_tree_refine.specs.Keys.{HaveBytes, IsEvenAt, IsJoined, key_without, row_at}
use Rattle.wf_tree_refine.specs.Near.{may_differ, near_by, part_of}
use Rattle.wf_tree_refine.proofs.KeyLemmas.{agree_key, key_agree, each_place, from_each_place}
use Rattle.wf_tree_refine.proofs.Membership.{Once, any_has, earlier_place, has_any, look, look_at, numbers_alike, place_of, row_has}
use Rattle.wf_tree_refine.proofs.PartLemmas.{apart, closed, covered, held, leads, met_earlier, same_number, shared}
use Rattle.wf_tree_refine.proofs.Ranks.{rank_met, same_rank}

-- ---- what is the same for tuples with one key at the first places

abbrev pub IsEven : Adjacency → ℕ → List Tuple → ℕ → (ℕ → ℕ) → Type 0
IsEven ways size rows count f = (place : ℕ) → place < count → may_differ ways size place ≡ true → IsEvenAt place rows f

-- tuples with one key at the first places have one root, and roots tell apart what some function
-- tells apart
pub record IsFinest (ways : Adjacency) (size : ℕ) (rows : List Tuple) (count : ℕ) (label : ℕ → ℕ) : Type 0 where
  pub even : IsEven ways size rows count label
  pub small : (place : ℕ) → place < count → may_differ ways size place ≡ true → HaveBytes rows (length rows)
  pub only : (f : ℕ → ℕ) → IsEven ways size rows size f → (i : ℕ) → i < length rows → f (label i) ≡ f i

pub finest_joined : (ways : Adjacency) (size : ℕ) (rows : List Tuple) (place next : ℕ) (old new : ℕ → ℕ) → next ≡ place + 1 → place < size → may_differ ways size place ≡ true → IsJoined place rows old new → HaveBytes rows (length rows) → IsFinest ways size rows place old → IsFinest ways size rows next new
finest_joined ways size rows place next old new step inside may joined small f = record {
  even = λ p low differ. elim (cases_eq p place) [
    | inl e ↦ subst (λ q. IsEvenAt q rows new) (sym e) joined.even
    | inr ne ↦ λ i j li lj e. joined.kept i j (f.even p (omega (arith, low, step, ne)) differ i j li lj e)
  ];
  small = λ p low differ. small;
  only = λ g even i low. joined.only g (even place inside may) (f.only g even) i low;
}

pub finest_passed : (ways : Adjacency) (size : ℕ) (rows : List Tuple) (place next : ℕ) (label : ℕ → ℕ) → next ≡ place + 1 → may_differ ways size place ≡ false → IsFinest ways size rows place label → IsFinest ways size rows next label
finest_passed ways size rows place next label step not_here f = record {
  even = λ p low differ. elim (cases_eq p place) [
    | inl e ↦ absurd (both_ways (may_differ ways size place) not_here (subst (λ q. may_differ ways size q ≡ true) e differ))
    | inr ne ↦ f.even p (omega (arith, low, step, ne)) differ
  ];
  small = λ p low differ. elim (cases_eq p place) [
    | inl e ↦ absurd (both_ways (may_differ ways size place) not_here (subst (λ q. may_differ ways size q ≡ true) e differ))
    | inr ne ↦ f.small p (omega (arith, low, step, ne)) differ
  ];
  only = f.only;
}

-- ---- near tuples

in_range : (x from count : ℕ) → Has x (range_with_len from count) → x < from + count
in_range x from zero h = absurd h
in_range x from (suc count) (inl e) = omega (arith, e)
in_range x from (suc count) (inr h) = let r = in_range x (from + 1) count h in omega (arith, r)

pub range_has : (x from count : ℕ) → from ≤ x → x < from + count → Has x (range_with_len from count)
range_has x from zero low high = absurd (let bad : ⊥ = omega (arith, low, high) in bad)
range_has x from (suc count) low high = elim (cases_eq from x) [
  | inl e ↦ inl e
  | inr ne ↦ inr (range_has x (from + 1) count (omega (arith, low, ne)) (omega (arith, high)))
]

agree_turn : (n p : ℕ) (a b : Tuple) → agree_elsewhere n p a b ≡ true → agree_elsewhere n p b a ≡ true
agree_turn n p a b h =
    from_each_place (λ other. (other == p) || (value_at b other == value_at a other)) 0 n
    (λ i low. elim (or_cases ((0 + i) == p) (value_at a (0 + i) == value_at b (0 + i)) (each_place (λ other. (other == p) || (value_at a other == value_at b other)) 0 n h i low)) [
      | inl e ↦ or_left ((0 + i) == p) (value_at b (0 + i) == value_at a (0 + i)) e
      | inr e ↦ or_right ((0 + i) == p) (value_at b (0 + i) == value_at a (0 + i)) (eq-eqb (value_at b (0 + i)) (value_at a (0 + i)) (sym (eqb-true (value_at a (0 + i)) (value_at b (0 + i)) e)))
    ])

abbrev AgreeAtOne : Adjacency → ℕ → Tuple → Tuple → Type 0
AgreeAtOne ways n a b = (p : ℕ) × (p < n) × (may_differ ways n p ≡ true) × (agree_elsewhere n p a b ≡ true)

near_split : (ways : Adjacency) (n : ℕ) (a b : Tuple) → near_by ways n a b ≡ true → (a ≡ b) ⊎ AgreeAtOne ways n a b
near_split Steps n a b h = elim (cases_Bool (n == 1)) [
  | inl one ↦ inl (numbers_alike a b (sym (cond-true (n == 1) (same_numbers a b) (are_adjacent n a b) one) ∙ h))
  | inr more ↦
      let r = any_has (λ p. agree_elsewhere n p a b) (below n) (sym (cond-false (n == 1) (same_numbers a b) (are_adjacent n a b) more) ∙ h) in
      let low = in_range r.0 0 n r.1 in
      inr (r.0, omega (arith, low), not_from_false (n == 1) more, r.2)
]
near_split (Star place) n a b h =
    let r = any_has (λ p. not (p == place) && agree_elsewhere n p a b) (below n) h in
    let low = in_range r.0 0 n r.1 in
    let both = and_parts (not (r.0 == place)) (agree_elsewhere n r.0 a b) r.2 in
    inr (r.0, omega (arith, low), both.0, both.1)

near_join : (ways : Adjacency) (n : ℕ) (a b : Tuple) → AgreeAtOne ways n a b → near_by ways n a b ≡ true
near_join Steps n a b h =
    cond-false (n == 1) (same_numbers a b) (are_adjacent n a b) (not-true (n == 1) h.2) ∙ has_any (λ p. agree_elsewhere n p a b) h.0 (below n) (range_has h.0 0 n (omega arith) (let l = h.1 in omega (arith, l))) h.3
near_join (Star place) n a b h =
    has_any (λ p. not (p == place) && agree_elsewhere n p a b) h.0 (below n) (range_has h.0 0 n (omega arith) (let l = h.1 in omega (arith, l))) (and_from (not (h.0 == place)) (agree_elsewhere n h.0 a b) h.2 h.3)

near_turn : (ways : Adjacency) (n : ℕ) (a b : Tuple) → near_by ways n a b ≡ true → near_by ways n b a ≡ true
near_turn ways n a b h = elim (near_split ways n a b h) [
  | inl e ↦ ap (λ t. near_by ways n t a) (sym e) ∙ ap (λ t. near_by ways n a t) e ∙ h
  | inr one ↦ near_join ways n b a (one.0, one.1, one.2, agree_turn n one.0 a b one.3)
]

-- ---- numbers in the order in which they are met are determined by which are the same

abbrev IsMetInOrder : ℕ → (ℕ → ℕ) → Type 0
IsMetInOrder count f = (i v : ℕ) → i < count → v < f i → (j : ℕ) × (j < i) × (f j ≡ v)

same_met : (count : ℕ) (f g : ℕ → ℕ) → ((i j : ℕ) → i < count → j < count → f i ≡ f j → g i ≡ g j) → ((i j : ℕ) → i < count → j < count → g i ≡ g j → f i ≡ f j) → IsMetInOrder count f → IsMetInOrder count g → (k : ℕ) → k ≤ count → (i : ℕ) → i < k → f i ≡ g i
same_met count f g forth back mf mg zero few i low = absurd (let bad : ⊥ = omega (arith, low) in bad)
same_met count f g forth back mf mg (suc k) few i low =
    let before = same_met count f g forth back mf mg k (omega (arith, few)) in
    elim (cases_eq i k) [
      | inr ne ↦ before i (omega (arith, low, ne))
      | inl e ↦ ap f e ∙ elim (cases_order (f k) (g k)) [
        | inl is ↦ is
        | inr other ↦ elim other [
          | inl less ↦
              let r = mg k (f k) (omega (arith, few)) less in
              let same : f r.0 ≡ f k = before r.0 r.1 ∙ r.2 in
              sym r.2 ∙ forth r.0 k (let l = r.1 in omega (arith, l, few)) (omega (arith, few)) same
          | inr less ↦
              let r = mf k (g k) (omega (arith, few)) less in
              let same : g r.0 ≡ g k = sym (before r.0 r.1) ∙ r.2 in
              sym (sym r.2 ∙ back r.0 k (let l = r.1 in omega (arith, l, few)) (omega (arith, few)) same)
        ]
      ] ∙ ap g (sym e)
    ]

same_lists : (xs ys : List ℕ) → length xs ≡ length ys → ((i : ℕ) → i < length xs → get_or xs i 0 ≡ get_or ys i 0) → xs ≡ ys
same_lists [] [] long h = refl
same_lists [] (y ∷ ys) long h = absurd (let bad : ⊥ = omega (arith, long) in bad)
same_lists (x ∷ xs) [] long h = absurd (let bad : ⊥ = omega (arith, long) in bad)
same_lists (x ∷ xs) (y ∷ ys) long h =
    let first : x ≡ y = h 0 (omega arith) in
    let rest : xs ≡ ys = same_lists xs ys (omega (arith, long)) (λ i low. h (suc i) (omega (arith, low))) in
    cc

-- ---- the numbers that roots give are those of parts

module _ (ways : Adjacency) (size : ℕ) (rows : List Tuple) (once : Once rows) (long : (i : ℕ) → i < length rows → length (row_at rows i) ≡ size) (label : ℕ → ℕ) (low : (i : ℕ) → i < length rows → label i ≤ i) (still : (i : ℕ) → i < length rows → label (label i) ≡ label i) (finest : IsFinest ways size rows size label) where
  numbered_part : ℕ → ℕ
  numbered_part i = part_of (parts (near_by ways size) rows) (row_at rows i)

  near_tuples : (a b : Tuple) → Has a rows → Has b rows → near_by ways size a b ≡ true → part_of (parts (near_by ways size) rows) a ≡ part_of (parts (near_by ways size) rows) b
  near_tuples a b ha hb n =
      same_number (parts (near_by ways size) rows) a b
      (λ p hp in_a. closed (near_by ways size) (near_turn ways size) rows p a b hp in_a hb n)
      (λ p hp in_b. closed (near_by ways size) (near_turn ways size) rows p b a hp in_b ha (near_turn ways size a b n))

  parts_even : IsEven ways size rows size numbered_part
  unfolding numbered_part
  parts_even place inside differ i j li lj e =
      near_tuples (row_at rows i) (row_at rows j) (row_has rows i li) (row_has rows j lj)
      (near_join ways size (row_at rows i) (row_at rows j) (place, inside, differ, key_agree size place (row_at rows i) (row_at rows j) (finest.small place inside differ i li) (finest.small place inside differ j lj) (long i li) (long j lj) e))

  root_part : (i j : ℕ) → i < length rows → j < length rows → rank label (label i) ≡ rank label (label j) → numbered_part i ≡ numbered_part j
  root_part i j li lj e =
      let same = same_rank label (label i) (label j) (still i li) (still j lj) e in
      sym (finest.only numbered_part parts_even i li) ∙ ap numbered_part same ∙ finest.only numbered_part parts_even j lj

  looked : (a b : Tuple) → Has a rows → Has b rows → near_by ways size a b ≡ true → look rows label a ≡ look rows label b
  looked a b ha hb n = elim (near_split ways size a b n) [
    | inl e ↦ ap (look rows label) e
    | inr one ↦
        let i = place_of rows a ha in
        let j = place_of rows b hb in
        let la : length a ≡ size = ap length (sym i.2) ∙ long i.0 i.1 in
        let lb : length b ≡ size = ap length (sym j.2) ∙ long j.0 j.1 in
        let key = ap (key_without one.0 0) i.2 ∙ agree_key size one.0 a b la lb one.3 ∙ ap (key_without one.0 0) (sym j.2) in
        ap (look rows label) (sym i.2) ∙ look_at rows label i.0 once i.1 ∙ finest.even one.0 one.1 one.2 i.0 j.0 i.1 j.1 key ∙ sym (look_at rows label j.0 once j.1) ∙ ap (look rows label) j.2
  ]

  part_root : (i j : ℕ) → i < length rows → j < length rows → numbered_part i ≡ numbered_part j → rank label (label i) ≡ rank label (label j)
  unfolding numbered_part
  part_root i j li lj e =
      let a = row_at rows i in
      let b = row_at rows j in
      let p = shared (parts (near_by ways size) rows) a b (covered (near_by ways size) rows a (row_has rows i li)) (covered (near_by ways size) rows b (row_has rows j lj)) e in
      ap (rank label) (sym (look_at rows label i once li) ∙ held (near_by ways size) (look rows label) rows looked p.0 a b p.1 p.2 p.3 ∙ look_at rows label j once lj)

  roots_met : IsMetInOrder (length rows) (λ i. rank label (label i))
  roots_met i v li less =
      let r = rank_met label (label i) v less in
      let below = low i li in
      (r.0, (let l = r.1 in omega (arith, l, below)), ap (rank label) r.2 ∙ r.3)

  parts_met : IsMetInOrder (length rows) numbered_part
  unfolding numbered_part
  parts_met i v li less =
      let t = row_at rows i in
      let r = met_earlier rows (parts (near_by ways size) rows) t v (apart (near_by ways size) rows once) (leads (near_by ways size) rows once t (row_has rows i li)) less in
      let j = earlier_place rows r.0 i once li r.2 in
      (j.0, j.1, ap (part_of (parts (near_by ways size) rows)) j.2 ∙ r.3)

  pub are_numbers : (numbers : List ℕ) → length numbers ≡ length rows → ((i : ℕ) → i < length rows → get_or numbers i 0 ≡ rank label (label i)) → numbers ≡ map (part_of (parts (near_by ways size) rows)) rows
  unfolding numbered_part
  are_numbers numbers each is =
      let f = part_of (parts (near_by ways size) rows) in
      same_lists numbers (map f rows) (each ∙ sym (length-map rows f))
      (λ i li.
      let inside : i < length rows = omega (arith, li, each) in
      is i inside ∙ same_met (length rows) (λ j. rank label (label j)) numbered_part root_part part_root roots_met parts_met (length rows) (omega arith) i inside ∙ sym (get_or-map f rows i [] 0 inside))

-- ---- what the call answers

pub long_rows : (size : ℕ) (rows : List Tuple) → All (λ row. length row ≡ size) rows → (i : ℕ) → i < length rows → length (row_at rows i) ≡ size
long_rows size rows all i low = all i [] low

pub both_ok : {T E : Type 0} (r : Result T E) (P Q R : T → Type 0) → ((x : T) → P x → Q x → R x) → IfOk r P → IfOk r Q → IfOk r R
both_ok (Ok x) P Q R f p q = f x p q
both_ok (Err e) P Q R f p q = tt
