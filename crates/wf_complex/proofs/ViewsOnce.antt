-- One number, one view: entries that differ stand for views that differ.
use Rattle.std.proofs.Common.{◌≡◌, ◌<◌, ◌≤◌, ℕ, zero, suc, ◌==◌, true, false, List, [], ◌∷◌, ◌++◌, map, length, get_or, sym, refl, ap, ◌∙◌, subst, inl, inr, arith, eqb-true}
use Rattle.std.specs.List.{AllByRecursion, list_any, IsDistinct}
use Rattle.std.proofs.lemmas.List.Elements.{recursion_from_All, All-from_recursion}
use Rattle.std.proofs.lemmas.Bool.{cases_Bool, cases_lt, or_cases, or_left, or_right, false≢true, both_ways, false_from_ne_true}
use Rattle.std.proofs.lemmas.Map.Keys.{apart_from_distinct}
use Rattle.wf_model.specs.View.{View, base, views_of, same_view}
use Rattle.wf_model.specs.Problem.{number_of}
use Rattle.wf_model.proofs.Lemmas.{Among, same_is, same_itself, number_below, weaker}
use Rattle.wf_complex.specs.declared.node.Node.{Node}
use Rattle.wf_complex.specs.Views.{view_at, view_seen}
use Rattle.wf_complex.specs.Table.{base_node, seen_node, same_node, node_view, shown, IsEntry, is_base, is_seen, AreEntriesFrom, StandsAt}
use Rattle.wf_complex.specs.Same.{same_node-itself}
use Rattle.wf_complex.proofs.ShownViews.{node_view-seen, view_at-shown, entry_at, length-shown}

-- ---- equal views have equal entries

pub entry_more : (n m : ℕ) (x : Node) → n ≤ m → IsEntry n x → IsEntry m x
entry_more n m x h (is_base p a low small) = is_base p a low small
entry_more n m x h (is_seen p ids low some few earlier) = is_seen p ids low some few (All-from_recursion _ ids (weaker (λ k. k < n) (λ k. k < m) (λ k below. omega (arith, below, h)) ids (recursion_from_All _ ids earlier)))

module _ (vs : List View) (n : ℕ) (apart : (i j : ℕ) → i < n → j < n → view_at vs i ≡ view_at vs j → i ≡ j) where
  same_ids : (xs ys : List ℕ) → AllByRecursion (λ k. k < n) xs → AllByRecursion (λ k. k < n) ys → views_of (map (view_at vs) xs) ≡ views_of (map (view_at vs) ys) → xs ≡ ys
  same_ids [] [] h k e = refl
  same_ids [] (y ∷ ys) h k e = cc
  same_ids (x ∷ xs) [] h k e = cc
  same_ids (x ∷ xs) (y ∷ ys) h k e =
      let first : view_at vs x ≡ view_at vs y = cc in
      let rest : views_of (map (view_at vs) xs) ≡ views_of (map (view_at vs) ys) = cc in
      λ i. apart x y h.0 k.0 first i ∷ same_ids xs ys h.1 k.1 rest i

  pub same_entries : (a b : Node) → IsEntry n a → IsEntry n b → node_view vs a ≡ node_view vs b → a ≡ b
  same_entries a b (is_base p x low small) (is_base q y low' small') e =
      let ps : p ≡ q = cc in
      let xs : x ≡ y = cc in
      λ i. base_node (ps i) (xs i)
  same_entries a b (is_base p x low small) (is_seen q ids low' some few earlier) e = (let f : base p x ≡ view_seen vs q ids = e ∙ node_view-seen vs q ids some few in cc)
  same_entries a b (is_seen p ids low some few earlier) (is_base q y low' small') e = (let f : view_seen vs p ids ≡ base q y = sym (node_view-seen vs p ids some few) ∙ e in cc)
  same_entries a b (is_seen p ids low some few earlier) (is_seen q ids' low' some' few' earlier') e =
      let f : view_seen vs p ids ≡ view_seen vs q ids' = sym (node_view-seen vs p ids some few) ∙ e ∙ node_view-seen vs q ids' some' few' in
      let ps : p ≡ q = cc in
      let inner : views_of (map (view_at vs) ids) ≡ views_of (map (view_at vs) ids') = cc in
      let same : ids ≡ ids' = same_ids ids ids' (recursion_from_All _ ids earlier) (recursion_from_All _ ids' earlier') inner in
      λ i. seen_node (ps i) (same i)

-- ---- places

-- an entry that stands somewhere is found
found_at : (xs : List Node) (n : ℕ) (k d : Node) → n < length xs → get_or xs n d ≡ k → list_any (same_node k) xs ≡ true
found_at [] n k d h e = absurd (let none : ⊥ = omega (arith, h) in none)
found_at (x ∷ xs) zero k d h e = or_left _ _ (subst (λ y. same_node k y ≡ true) (sym e) (same_node-itself k))
found_at (x ∷ xs) (suc n) k d h e = or_right _ _ (found_at xs n k d (omega (arith, h)) e)

-- ---- one number, one view

abbrev pub IsOnce : List Node → Type 0
IsOnce xs = IsDistinct same_node xs

differ : (xs : List Node) (i j : ℕ) (d : Node) → IsOnce xs → i < j → j < length xs → get_or xs i d ≡ get_or xs j d → ⊥
differ xs i j d once before within e =
    both_ways _ (apart_from_distinct same_node xs i j d once before within) (subst (λ x. same_node (get_or xs i d) x ≡ true) e (same_node-itself (get_or xs i d)))

-- places of the same entry are the same
pub same_places : (xs : List Node) (i j : ℕ) (d : Node) → IsOnce xs → i < length xs → j < length xs → get_or xs i d ≡ get_or xs j d → i ≡ j
same_places xs i j d once within within' e =
    elim (cases_Bool (i == j)) [
      | inl same ↦ eqb-true i j same
      | inr other ↦ elim (cases_lt i j) [
        | inl before ↦ absurd (differ xs i j d once before within' e)
        | inr from ↦ absurd (differ xs j i d once (grind (arith, other, from)) within (sym e))
      ]
    ]

module _ (xs : List Node) (entries : AreEntriesFrom 0 xs) (once : IsOnce xs) (d : Node) where
  -- numbers below n that have the same view are the same
  apart_below : (n : ℕ) → n ≤ length xs → (i j : ℕ) → i < n → j < n → view_at (shown xs) i ≡ view_at (shown xs) j → i ≡ j
  apart_below zero h i j below below' e = absurd (let none : ⊥ = omega (arith, below) in none)
  apart_below (suc n) h i j below below' e =
      let within : i < length xs = omega (arith, below, h) in
      let within' : j < length xs = omega (arith, below', h) in
      same_places xs i j d once within within'
      (same_entries (shown xs) n (apart_below n (omega (arith, h))) (get_or xs i d) (get_or xs j d)
      (entry_more i n (get_or xs i d) (omega (arith, below)) (entry_at xs entries i d within))
      (entry_more j n (get_or xs j d) (omega (arith, below')) (entry_at xs entries j d within'))
      (sym (view_at-shown xs entries i d within) ∙ e ∙ view_at-shown xs entries j d within'))

  pub apart : (i j : ℕ) → i < length xs → j < length xs → view_at (shown xs) i ≡ view_at (shown xs) j → i ≡ j
  apart = apart_below (length xs) (omega arith)

-- the view of a number that was found
pub view_at-number : (ws : List View) (v : View) → Among ws v → view_at ws (number_of ws v) ≡ v
view_at-number [] v h = absurd (false≢true h)
view_at-number (w ∷ ws) v h =
    elim (cases_Bool (same_view v w)) [
      | inl same ↦ rw same (sym (same_is v w same))
      | inr other ↦ rw other (view_at-number ws v (elim (or_cases (same_view v w) (list_any (same_view v) ws) h) [ inl same ↦ absurd (both_ways _ other same) | inr rest ↦ rest ]))
    ]

pub among-at : (ws : List View) (n : ℕ) → n < length ws → Among ws (view_at ws n)
among-at [] n h = absurd (let none : ⊥ = omega (arith, h) in none)
among-at (w ∷ ws) zero h = or_left _ _ (same_itself w)
among-at (w ∷ ws) (suc n) h = or_right _ _ (among-at ws n (omega (arith, h)))

-- a view that is new has the next number
pub number_of-push : (ws : List View) (v : View) → list_any (same_view v) ws ≡ false → number_of (ws ++ v ∷ []) v ≡ length ws
number_of-push [] v h = rw (same_itself v) refl
number_of-push (w ∷ ws) v h =
    elim (cases_Bool (same_view v w)) [
      | inl same ↦ absurd (both_ways _ h (or_left _ _ same))
      | inr other ↦ rw other (ap suc (number_of-push ws v (rw other at h)))
    ]

module _ (xs : List Node) (entries : AreEntriesFrom 0 xs) (once : IsOnce xs) (node : Node) where
  -- an entry that stands at n has the number n
  pub found_number : (n : ℕ) → StandsAt xs n node → Among (shown xs) (node_view (shown xs) node) × (number_of (shown xs) (node_view (shown xs) node) ≡ n)
  found_number n there =
      let long : length (shown xs) ≡ length xs = length-shown xs in
      let is : view_at (shown xs) n ≡ node_view (shown xs) node = view_at-shown xs entries n node there.0 ∙ ap (node_view (shown xs)) there.1 in
      let among : Among (shown xs) (node_view (shown xs) node) = subst (Among (shown xs)) is (among-at (shown xs) n (omega (arith, there.0, long))) in
      let number = number_of (shown xs) (node_view (shown xs) node) in
      let below : number_of (shown xs) (node_view (shown xs) node) < length xs = subst (λ k. number_of (shown xs) (node_view (shown xs) node) < k) long (number_below (shown xs) (node_view (shown xs) node) among) in
      (among, apart xs entries once node number n below there.0 (view_at-number (shown xs) (node_view (shown xs) node) among ∙ sym is))

  -- an entry that stands nowhere has a new view
  pub new_view : IsEntry (length xs) node → list_any (same_node node) xs ≡ false → list_any (same_view (node_view (shown xs) node)) (shown xs) ≡ false
  new_view entry h = false_from_ne_true _ (λ among. in_table among)
    where
      in_table : Among (shown xs) (node_view (shown xs) node) → ⊥
      in_table among =
          let v = node_view (shown xs) node in
          let number = number_of (shown xs) (node_view (shown xs) node) in
          let below : number_of (shown xs) (node_view (shown xs) node) < length xs = subst (λ k. number_of (shown xs) (node_view (shown xs) node) < k) (length-shown xs) (number_below (shown xs) v among) in
          let same : get_or xs number node ≡ node =
          same_entries (shown xs) (length xs) (apart xs entries once node) (get_or xs number node) node
          (entry_more number (length xs) (get_or xs number node) (omega (arith, below)) (entry_at xs entries number node below)) entry
          (sym (view_at-shown xs entries number node below) ∙ view_at-number (shown xs) v among) in
          both_ways _ h (found_at xs number node node below same)

-- one number, one view, in the list of a table's views
pub apart_in_table : (xs : List Node) → AreEntriesFrom 0 xs → IsOnce xs → (vs : List View) → shown xs ≡ vs → (i j : ℕ) → i < length vs → j < length vs → view_at vs i ≡ view_at vs j → i ≡ j
apart_in_table xs entries once vs is i j h k e =
    let long : length vs ≡ length xs = sym (ap length is) ∙ length-shown xs in
    apart xs entries once (base_node 0 0) i j (omega (arith, h, long)) (omega (arith, k, long)) (subst (λ ws. view_at ws i ≡ view_at ws j) (sym is) e)
