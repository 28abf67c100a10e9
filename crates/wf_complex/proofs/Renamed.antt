-- The entry of a renamed view.
use Rattle.std.proofs.Common.{◌≡◌, ◌<◌, ◌≤◌, ◌==◌, ℕ, true, List, [], ◌∷◌, map, length, take, slice_get, Some, All, sym, refl, ap, ◌∙◌, subst, inl, inr, arith, eqb-true, eq-eqb}
use Rattle.std.specs.List.{list_any, AllByRecursion}
use Rattle.std.proofs.lemmas.Bool.{cases_Bool, or_cases, or_left, or_right, both_ways, false≢true}
use Rattle.std.proofs.lemmas.List.{length-map}
use Rattle.std.proofs.lemmas.List.Elements.{recursion_from_All, All-from_recursion}
use Rattle.wf_model.specs.Lists.{has}
use Rattle.wf_model.specs.View.{View, seen, view, views_of, same_view, renamed, renamed_each}
use Rattle.wf_model.proofs.Lemmas.{Among, same_is, weaker, each_map, each_of_map, both}
use Rattle.wf_complex.specs.declared.node.Node.{Node}
use Rattle.wf_complex.specs.Views.{view_at, inner_views}
use Rattle.wf_complex.specs.Table.{seen_node, node_view, shown, IsEntry, is_base, is_seen, AreEntriesFrom}
use Rattle.wf_complex.specs.Renaming.{rank_in, SawAmong, number_beside, AreRenamed, renumbered_node}
use Rattle.wf_complex.proofs.ShownViews.{node_view-seen}
use Rattle.wf_complex.proofs.ViewsOnce.{IsOnce, apart_in_table}
use Rattle.wf_complex.proofs.Entries.{take-padded, entry_read, entry_earlier, parts_read}
use Rattle.wf_complex.proofs.Ranks.{rank_in-low}
use Rattle.wf_complex.proofs.NewNumbers.{each_take}

-- ---- one entry

renumbered-seen : (q p : ℕ) (f : ℕ → ℕ) (ids : List ℕ) → length ids ≤ 4 → renumbered_node q f (seen_node p ids) ≡ seen_node q (map f ids)
renumbered-seen q p f [] h = refl
renumbered-seen q p f (a ∷ []) h = refl
renumbered-seen q p f (a ∷ b ∷ []) h = refl
renumbered-seen q p f (a ∷ b ∷ c ∷ []) h = refl
renumbered-seen q p f (a ∷ b ∷ c ∷ d ∷ []) h = refl
renumbered-seen q p f (a ∷ b ∷ c ∷ d ∷ e ∷ more) h = absurd (let none : ⊥ = omega (arith, h) in none)

module _ (vs : List View) (g f : ℕ → ℕ) (low : (p : ℕ) → g p ≤ p) where
  abbrev IsNew : ℕ → Type 0
  IsNew k = (f k < length vs) × (view_at vs (f k) ≡ renamed g (view_at vs k))

  new_entry : (n : ℕ) (node : Node) → IsEntry n node → AllByRecursion IsNew (take node.count node.ids) → IsEntry (length vs) (renumbered_node (g node.process) f node)
  new_entry n node (is_base p x h small) known = is_base (g p) x (omega (arith, h, low p)) small
  new_entry n node (is_seen p ids h some few earlier) known =
      let there : AllByRecursion IsNew ids = subst (AllByRecursion IsNew) (take-padded ids few) known in
      let numbers : AllByRecursion (λ k. k < length vs) (map f ids) = each_map (λ k. k < length vs) f ids (weaker IsNew (λ k. f k < length vs) (λ k is. is.0) ids there) in
      subst (IsEntry (length vs)) (sym (renumbered-seen (g p) p f ids few))
      (is_seen (g p) (map f ids) (omega (arith, h, low p)) (omega (arith, some, length-map ids f)) (omega (arith, few, length-map ids f)) (All-from_recursion (λ k. k < length vs) (map f ids) numbers))

  views_renamed : (ids : List ℕ) → AllByRecursion IsNew ids → views_of (map (view_at vs) (map f ids)) ≡ renamed_each g (views_of (map (view_at vs) ids))
  views_renamed [] h = refl
  views_renamed (k ∷ ids) h = λ i. view (h.0.1 i) (views_renamed ids h.1 i)

  new_view : (n : ℕ) (node : Node) → IsEntry n node → AllByRecursion IsNew (take node.count node.ids) → node_view vs (renumbered_node (g node.process) f node) ≡ renamed g (node_view vs node)
  new_view n node (is_base p x h small) known = refl
  new_view n node (is_seen p ids h some few earlier) known =
      let there : AllByRecursion IsNew ids = subst (AllByRecursion IsNew) (take-padded ids few) known in
      ap (node_view vs) (renumbered-seen (g p) p f ids few)
      ∙ node_view-seen vs (g p) (map f ids) (omega (arith, some, length-map ids f)) (omega (arith, few, length-map ids f))
      ∙ ap (seen (g p)) (views_renamed ids there)
      ∙ sym (ap (renamed g) (node_view-seen vs p ids some few))

-- ---- numbers by their views

has_from_among : (vs : List View) → ((i j : ℕ) → i < length vs → j < length vs → view_at vs i ≡ view_at vs j → i ≡ j) → (ids : List ℕ) (k : ℕ) →
    AllByRecursion (λ j. j < length vs) ids → k < length vs → Among (map (view_at vs) ids) (view_at vs k) → has ids k ≡ true
has_from_among vs apart [] k h within a = absurd (false≢true a)
has_from_among vs apart (j ∷ ids) k h within a =
    elim (or_cases (same_view (view_at vs k) (view_at vs j)) (list_any (same_view (view_at vs k)) (map (view_at vs) ids)) a) [
      | inl here ↦ or_left (j == k) (has ids k) (eq-eqb j k (apart j k h.0 within (sym (same_is (view_at vs k) (view_at vs j) here))))
      | inr later ↦ or_right (j == k) (has ids k) (has_from_among vs apart ids k h.1 within later)
    ]

pub renamed_known : (vs : List View) (g : ℕ → ℕ) (old new : List ℕ) (k : ℕ) → AreRenamed vs g old new → has (take (length new) old) k ≡ true →
    (number_beside old new k < length vs) × (view_at vs (number_beside old new k) ≡ renamed g (view_at vs k))
renamed_known vs g [] [] k h known = absurd (false≢true known)
renamed_known vs g (j ∷ old) [] k h known = absurd (false≢true known)
renamed_known vs g [] (n ∷ new) k h known = absurd h
renamed_known vs g (j ∷ old) (n ∷ new) k h known =
    elim (cases_Bool (j == k)) [
      | inl same ↦ rw same (h.0.0, h.0.1 ∙ ap (λ x. renamed g (view_at vs x)) (eqb-true j k same))
      | inr other ↦ rw other (renamed_known vs g old new k h.1 (elim (or_cases (j == k) (has (take (length new) old) k) known) [ inl here ↦ absurd (both_ways _ other here) | inr later ↦ later ]))
    ]

-- ---- an entry that was read

module _ (xs : List Node) (entries : AreEntriesFrom 0 xs) (once : IsOnce xs) (vs : List View) (is : shown xs ≡ vs) (id : ℕ) (node : Node) (within : id < length vs) (read : slice_get xs id ≡ Some node)
    (processes : ℕ) (old new : List ℕ) (numbers : All (λ k. k < length vs) old) (parts : SawAmong vs id (take (length new) old)) where
  known_entry : IsEntry id node × (node_view vs node ≡ view_at vs id)
  known_entry = entry_read xs entries vs is id node within read

  front : AllByRecursion (λ k. k < length vs) (take (length new) old)
  front = each_take (λ k. k < length vs) (length new) old (recursion_from_All _ old numbers)

  known_each : AllByRecursion (λ k. has (take (length new) old) k ≡ true) (take node.count node.ids)
  known_each =
      let ids = take node.count node.ids in
      let among : AllByRecursion (Among (map (view_at vs) (take (length new) old))) (map (view_at vs) (take node.count node.ids)) =
      subst (AllByRecursion (Among (map (view_at vs) (take (length new) old)))) (sym (parts_read vs id node known_entry.0 known_entry.1)) (recursion_from_All _ (inner_views (view_at vs id)) parts) in
      both (λ k. k < id) (λ k. Among (map (view_at vs) (take (length new) old)) (view_at vs k)) (λ k. has (take (length new) old) k ≡ true)
      (λ k low there. has_from_among vs (apart_in_table xs entries once vs is) (take (length new) old) k front (omega (arith, low, within)) there) ids
      (recursion_from_All _ ids (entry_earlier id node known_entry.0))
      (each_of_map (Among (map (view_at vs) (take (length new) old))) (view_at vs) ids among)

  pub known : All (λ k. has (take (length new) old) k ≡ true) (take node.count node.ids)
  known = All-from_recursion _ (take node.count node.ids) known_each

  module _ (are : AreRenamed vs (rank_in processes) old new) (process : ℕ) (ranked : process ≡ rank_in processes node.process) (after : Node) (made : after ≡ renumbered_node process (number_beside old new) node) where
    is_new : AllByRecursion (IsNew vs (rank_in processes) (number_beside old new) (rank_in-low processes)) (take node.count node.ids)
    is_new = weaker (λ k. has (take (length new) old) k ≡ true) (IsNew vs (rank_in processes) (number_beside old new) (rank_in-low processes)) (λ k h. renamed_known vs (rank_in processes) old new k are h) (take node.count node.ids) known_each

    made_by_rank : after ≡ renumbered_node (rank_in processes node.process) (number_beside old new) node
    made_by_rank = made ∙ ap (λ p. renumbered_node p (number_beside old new) node) ranked

    pub renamed_entry : IsEntry (length vs) after
    renamed_entry =
        subst (IsEntry (length vs)) (sym made_by_rank)
        (new_entry vs (rank_in processes) (number_beside old new) (rank_in-low processes) id node known_entry.0 is_new)

    pub renamed_view : node_view vs after ≡ renamed (rank_in processes) (view_at vs id)
    renamed_view =
        ap (node_view vs) made_by_rank
        ∙ new_view vs (rank_in processes) (number_beside old new) (rank_in-low processes) id node known_entry.0 is_new
        ∙ ap (renamed (rank_in processes)) known_entry.1
