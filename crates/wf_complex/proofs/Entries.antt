-- What the entries of a table say of its views.
use Rattle.std.proofs.Common.{◌≡◌, ◌<◌, ◌≤◌, ◌^◌, ℕ, ◌+◌, true, List, [], ◌∷◌, map, length, take, get_or, slice_get, All, Some, None, nat_lt, sym, refl, ap, ◌∙◌, subst, arith, ltb-true}
use Rattle.std.specs.Int.Bits.{bit_or, or_zero_r}
use Rattle.std.specs.List.{AllByRecursion}
use Rattle.std.proofs.lemmas.Bool.{and_parts, false≢true}
use Rattle.std.proofs.lemmas.List.{get_or-map, length-map}
use Rattle.std.proofs.lemmas.Option.{get_or_from_slice_get}
use Rattle.std.proofs.lemmas.List.Elements.{recursion_from_All, All-from_recursion}
use Rattle.wf_model.specs.Lists.{has}
use Rattle.wf_model.specs.Simplex.{is_ascending}
use Rattle.wf_model.specs.View.{View, base, views_of, process_of}
use Rattle.wf_complex.specs.declared.node.Node.{Node}
use Rattle.wf_complex.specs.Views.{view_at, view_seen, list_of, input_of, inner_views, process_bits, process_bits_of_each}
use Rattle.wf_complex.specs.Table.{base_node, seen_node, padded, node_view, shown, IsEntry, is_base, is_seen, AreEntriesFrom, process_bits_at}
use Rattle.wf_complex.proofs.ShownViews.{node_view-seen, view_at-shown, entry_at, length-shown}

-- ---- one entry

entry_process : (n : ℕ) (vs : List View) (node : Node) → IsEntry n node → process_of (node_view vs node) ≡ node.process
entry_process n vs node (is_base p x low small) = refl
entry_process n vs node (is_seen p ids low some few earlier) = ap process_of (node_view-seen vs p ids some few)

pub entry_low : (n : ℕ) (node : Node) → IsEntry n node → node.process ≤ 3
entry_low n node (is_base p x low small) = low
entry_low n node (is_seen p ids low some few earlier) = low

pub entry_count : (n : ℕ) (node : Node) → IsEntry n node → node.count ≤ 4
entry_count n node (is_base p x low small) = omega arith
entry_count n node (is_seen p ids low some few earlier) = few

list_of-views_of : (vs : List View) → list_of (views_of vs) ≡ vs
list_of-views_of [] = refl
list_of-views_of (v ∷ vs) = ap (λ ws. v ∷ ws) (list_of-views_of vs)

pub take-padded : (ids : List ℕ) → length ids ≤ 4 → take (length ids) (padded ids) ≡ ids
take-padded [] h = refl
take-padded (a ∷ []) h = refl
take-padded (a ∷ b ∷ []) h = refl
take-padded (a ∷ b ∷ c ∷ []) h = refl
take-padded (a ∷ b ∷ c ∷ d ∷ []) h = refl
take-padded (a ∷ b ∷ c ∷ d ∷ e ∷ more) h = absurd (let none : ⊥ = omega (arith, h) in none)

entry_parts : (n : ℕ) (vs : List View) (node : Node) → IsEntry n node → map (view_at vs) (take node.count node.ids) ≡ inner_views (node_view vs node)
entry_parts n vs node (is_base p x low small) = refl
entry_parts n vs node (is_seen p ids low some few earlier) =
    ap (map (view_at vs)) (take-padded ids few) ∙ sym (list_of-views_of (map (view_at vs) ids)) ∙ sym (ap inner_views (node_view-seen vs p ids some few))

pub entry_earlier : (n : ℕ) (node : Node) → IsEntry n node → All (λ k. k < n) (take node.count node.ids)
entry_earlier n node (is_base p x low small) = All-from_recursion (λ k. k < n) [] tt
entry_earlier n node (is_seen p ids low some few earlier) = subst (All (λ k. k < n)) (sym (take-padded ids few)) earlier

entry_input : (n : ℕ) (vs : List View) (node : Node) → IsEntry n node → node.count ≡ 0 → input_of (node_view vs node) ≡ Some (get_or node.ids 0 0)
entry_input n vs node (is_base p x low small) none = refl
entry_input n vs node (is_seen p ids low some few earlier) none = absurd (omega (arith, some, none))

pub entry_small : (n : ℕ) (node : Node) → IsEntry n node → node.count ≡ 0 → get_or node.ids 0 0 ≤ 255
entry_small n node (is_base p x low small) none = small
entry_small n node (is_seen p ids low some few earlier) none = absurd (omega (arith, some, none))

entry_no_input : (n : ℕ) (vs : List View) (node : Node) → IsEntry n node → (node.count ≡ 0 → ⊥) → input_of (node_view vs node) ≡ None
entry_no_input n vs node (is_base p x low small) some = absurd (some refl)
entry_no_input n vs node (is_seen p ids low some few earlier) other = ap input_of (node_view-seen vs p ids some few)

-- ---- the entries of a table

process_at : (xs : List Node) → AreEntriesFrom 0 xs → (n : ℕ) (d : Node) → n < length xs → process_of (view_at (shown xs) n) ≡ (get_or xs n d).process
process_at xs entries n d within = ap process_of (view_at-shown xs entries n d within) ∙ entry_process n (shown xs) (get_or xs n d) (entry_at xs entries n d within)

process_low : (xs : List Node) → AreEntriesFrom 0 xs → (n : ℕ) (d : Node) → n < length xs → process_of (view_at (shown xs) n) ≤ 3
process_low xs entries n d within = subst (λ p. p ≤ 3) (sym (process_at xs entries n d within)) (entry_low n (get_or xs n d) (entry_at xs entries n d within))

-- ascending processes up to 3 are at most four
ascending_short : (p : ℕ) (ps : List ℕ) → is_ascending (p ∷ ps) ≡ true → AllByRecursion (λ q. q ≤ 3) (p ∷ ps) → length (p ∷ ps) + p ≤ 4
ascending_short p [] h low = omega (arith, low.0)
ascending_short p (q ∷ ps) h low =
    let parts = and_parts (nat_lt p q) (is_ascending (q ∷ ps)) h in
    omega (arith, ascending_short q ps parts.1 low.1, ltb-true p q parts.0)

each_low : (xs : List Node) → AreEntriesFrom 0 xs → (ids : List ℕ) → AllByRecursion (λ k. k < length (shown xs)) ids → AllByRecursion (λ p. p ≤ 3) (map (λ k. process_of (view_at (shown xs) k)) ids)
each_low xs entries [] h = tt
each_low xs entries (k ∷ ids) h = (process_low xs entries k (base_node 0 0) (subst (λ n. k < n) (length-shown xs) h.0), each_low xs entries ids h.1)

short : (ps : List ℕ) → is_ascending ps ≡ true → AllByRecursion (λ q. q ≤ 3) ps → length ps ≤ 4
short [] h low = omega arith
short (p ∷ ps) h low = omega (arith, ascending_short p ps h low)

few_parts : (xs : List Node) → AreEntriesFrom 0 xs → (ids : List ℕ) → All (λ k. k < length (shown xs)) ids → is_ascending (map (λ k. process_of (view_at (shown xs) k)) ids) ≡ true → length ids ≤ 4
few_parts xs entries ids within h =
    subst (λ n. n ≤ 4) (length-map ids (λ k. process_of (view_at (shown xs) k))) (short (map (λ k. process_of (view_at (shown xs) k)) ids) h (each_low xs entries ids (recursion_from_All _ ids within)))

some_parts : (f : ℕ → ℕ) (ids : List ℕ) (p : ℕ) → has (map f ids) p ≡ true → 0 < length ids
some_parts f [] p h = absurd (false≢true h)
some_parts f (k ∷ ids) p h = omega arith

-- ---- processes

process_bits_at-views : (vs : List View) (ids : List ℕ) → AllByRecursion (λ k. k < length vs) ids → process_bits_at (map process_bits vs) ids ≡ process_bits_of_each (views_of (map (view_at vs) ids))
process_bits_at-views vs [] h = refl
process_bits_at-views vs (k ∷ ids) h = λ i. bit_or (get_or-map process_bits vs k (base 0 0) 0 h.0 i) (process_bits_at-views vs ids h.1 i)

-- the processes in the view of one that saw these
process_bits-seen : (vs : List View) (p : ℕ) (ids : List ℕ) → All (λ k. k < length vs) ids → 0 < length ids → length ids ≤ 4 → bit_or (2 ^ p) (process_bits_at (map process_bits vs) ids) ≡ process_bits (node_view vs (seen_node p ids))
process_bits-seen vs p ids within some few = ap (bit_or (2 ^ p)) (process_bits_at-views vs ids (recursion_from_All _ ids within)) ∙ sym (ap process_bits (node_view-seen vs p ids some few))

-- the processes in the view of an entry
pub entry_process_bits : (vs : List View) (node : Node) → IsEntry (length vs) node → bit_or (2 ^ node.process) (process_bits_at (map process_bits vs) (take node.count node.ids)) ≡ process_bits (node_view vs node)
entry_process_bits vs node (is_base p x h small) = or_zero_r (2 ^ p)
entry_process_bits vs node (is_seen p ids h some few earlier) =
    ap (λ ks. bit_or (2 ^ p) (process_bits_at (map process_bits vs) ks)) (take-padded ids few) ∙ process_bits-seen vs p ids earlier some few

-- ---- an entry that was read

-- the entry at a place of a table
pub entry_read : (xs : List Node) → AreEntriesFrom 0 xs → (vs : List View) → shown xs ≡ vs → (n : ℕ) (node : Node) → n < length vs → slice_get xs n ≡ Some node → IsEntry n node × (node_view vs node ≡ view_at vs n)
entry_read xs entries vs is n node within read =
    let low : n < length xs = omega (arith, within, ap length is, length-shown xs) in
    let here : get_or xs n node ≡ node = get_or_from_slice_get xs n node node read in (
      subst (IsEntry n) here (entry_at xs entries n node low),
      subst (λ ws. node_view ws node ≡ view_at ws n) is (ap (node_view (shown xs)) (sym here) ∙ sym (view_at-shown xs entries n node low)),
    )

module _ (vs : List View) (n : ℕ) (node : Node) (entry : IsEntry n node) (is : node_view vs node ≡ view_at vs n) where
  pub parts_read : map (view_at vs) (take node.count node.ids) ≡ inner_views (view_at vs n)
  parts_read = entry_parts n vs node entry ∙ ap inner_views is

  pub input_read : node.count ≡ 0 → Some (get_or node.ids 0 0) ≡ input_of (view_at vs n)
  input_read none = sym (entry_input n vs node entry none) ∙ ap input_of is

  pub no_input_read : (node.count ≡ 0 → ⊥) → None ≡ input_of (view_at vs n)
  no_input_read some = sym (entry_no_input n vs node entry some) ∙ ap input_of is

  pub process_read : node.process ≡ process_of (view_at vs n)
  process_read = sym (entry_process n vs node entry) ∙ ap process_of is

-- ---- an entry of one that saw these

module _ (xs : List Node) (entries : AreEntriesFrom 0 xs) (vs : List View) (is : shown xs ≡ vs) (p : ℕ) (ids : List ℕ) (within : All (λ k. k < length vs) ids)
    (ascending : is_ascending (map (λ k. process_of (view_at vs k)) ids) ≡ true) (own : has (map (λ k. process_of (view_at vs k)) ids) p ≡ true) where
  pub few : length ids ≤ 4
  few =
      few_parts xs entries ids (subst (λ ws. All (λ k. k < length ws) ids) (sym is) within)
      (subst (λ ws. is_ascending (map (λ k. process_of (view_at ws k)) ids) ≡ true) (sym is) ascending)

  some : 0 < length ids
  some = some_parts (λ k. process_of (view_at vs k)) ids p own

  pub seen_view : (node : Node) → node ≡ seen_node p ids → node_view vs node ≡ view_seen vs p ids
  seen_view node e = ap (node_view vs) e ∙ node_view-seen vs p ids some few

  pub seen_entry : (node : Node) → node ≡ seen_node p ids → p ≤ 3 → IsEntry (length vs) node
  seen_entry node e low = subst (IsEntry (length vs)) (sym e) (is_seen p ids low some few within)
