-- What a table is after one view was asked for.
use Rattle.std.proofs.Common.{◌≡◌, ◌<◌, ℕ, zero, suc, ◌+◌, false, List, [], ◌∷◌, ◌++◌, length, slice_get, Some, sym, refl, ap, ◌∙◌, subst, arith, length-append, map, true, Bool, not}
use Rattle.std.specs.List.{list_any, IsDistinct}
use Rattle.std.proofs.lemmas.List.{get_or_push, map-append}
use Rattle.std.proofs.lemmas.Bool.{not-false, not-true}
use Rattle.std.proofs.lemmas.Option.{slice_get_within, get_or_from_slice_get}
use Rattle.indexmap.specs.IndexSet.{insert_key}
use Rattle.wf_model.specs.View.{View, base, same_view}
use Rattle.wf_model.specs.Problem.{number_of}
use Rattle.wf_model.proofs.Lemmas.{number_below}
use Rattle.wf_complex.specs.declared.node.Node.{Node}
use Rattle.wf_complex.specs.Views.{view_at, with_view, process_bits}
use Rattle.wf_complex.specs.Table.{same_node, node_view, shown, IsEntry, StandsAt, IsTable}
use Rattle.wf_complex.specs.Same.{same_node-is}
use Rattle.wf_complex.proofs.ShownViews.{shown-push, length-shown, AreEntriesFrom-push}
use Rattle.wf_complex.proofs.ViewsOnce.{same_places, found_number, new_view, number_of-push, view_at-number}

-- the number of a view, in the table that has it
pub record IsNumbered (old new : List View) (v : View) (n : ℕ) : Type 0 where
  pub table : new ≡ with_view old v
  pub number : n ≡ number_of new v
  pub stands : slice_get new n ≡ Some v

pub slice_get-at : (vs : List View) (n : ℕ) (v : View) → n < length vs → view_at vs n ≡ v → slice_get vs n ≡ Some v
slice_get-at [] n v h e = absurd (let none : ⊥ = omega (arith, h) in none)
slice_get-at (w ∷ vs) zero v h e = ap Some e
slice_get-at (w ∷ vs) (suc n) v h e = slice_get-at vs n v (omega (arith, h)) e

-- where a set says that it stored an entry
pub stored_at : (xs : List Node) (n : ℕ) (node k : Node) → slice_get xs n ≡ Some k → same_node node k ≡ true → StandsAt xs n node
stored_at xs n node k at same = (slice_get_within xs n k at, get_or_from_slice_get xs n k node at ∙ sym (same_node-is node k same))

module _ (xs : List Node) (bits : List ℕ) (is_table : IsTable xs bits) (node : Node) where
  pub found : (n : ℕ) → StandsAt xs n node → IsNumbered (shown xs) (shown xs) (node_view (shown xs) node) n
  found n h =
      let v = node_view (shown xs) node in
      let at = found_number xs is_table.entries is_table.once node n h in
      record {
        table = rw at.0 refl;
        number = sym at.1;
        stands = slice_get-at (shown xs) n v (subst (λ k. k < length (shown xs)) at.1 (number_below (shown xs) v at.0)) (subst (λ k. view_at (shown xs) k ≡ v) at.1 (view_at-number (shown xs) v at.0));
      }

  module _ (entry : IsEntry (length (shown xs)) node) (absent : list_any (same_node node) xs ≡ false) where
    here : IsEntry (length xs) node
    here = subst (λ n. IsEntry n node) (length-shown xs) entry

    is_new : list_any (same_view (node_view (shown xs) node)) (shown xs) ≡ false
    is_new = new_view xs is_table.entries is_table.once node here absent

    added_last : IsNumbered (shown xs) (shown (xs ++ node ∷ [])) (node_view (shown xs) node) (length xs)
    added_last =
        let v = node_view (shown xs) node in
        let long : length (shown xs) ≡ length xs = length-shown xs in
        let more : shown (xs ++ node ∷ []) ≡ shown xs ++ v ∷ [] = shown-push xs node in
        let within : length xs < length (shown xs ++ v ∷ []) = omega (arith, long, length-append (shown xs) (v ∷ [])) in
        record {
          table = more ∙ (rw is_new refl);
          number = sym (ap (λ vs. number_of vs v) more ∙ number_of-push (shown xs) v is_new ∙ long);
          stands = rw more (slice_get-at (shown xs ++ v ∷ []) (length xs) v within (get_or_push (shown xs) v (base 0 0) (length xs) long));
        }

    added : (n : ℕ) → IsDistinct same_node (xs ++ node ∷ []) → StandsAt (xs ++ node ∷ []) n node → IsNumbered (shown xs) (shown (xs ++ node ∷ [])) (node_view (shown xs) node) n
    added n once stands =
        let next : length xs < length (xs ++ node ∷ []) = omega (arith, length-append xs (node ∷ [])) in
        let last : length xs ≡ n = same_places (xs ++ node ∷ []) (length xs) n node once next stands.0 (get_or_push xs node node (length xs) refl ∙ sym stands.1) in
        subst (IsNumbered (shown xs) (shown (xs ++ node ∷ [])) (node_view (shown xs) node)) last added_last

    is_table_after : IsDistinct same_node (xs ++ node ∷ []) → length xs < 4294967295 → IsTable (xs ++ node ∷ []) (bits ++ process_bits (node_view (shown xs) node) ∷ [])
    is_table_after once room = record {
      entries = AreEntriesFrom-push 0 xs node is_table.entries (let e : 0 + length xs ≡ length xs = omega arith in subst (λ n. IsEntry n node) (sym e) here);
      once = once;
      bits_shown =
          ap (λ cs. cs ++ process_bits (node_view (shown xs) node) ∷ []) is_table.bits_shown
          ∙ sym (map-append process_bits (shown xs) (node_view (shown xs) node ∷ []))
          ∙ sym (ap (map process_bits) (shown-push xs node));
      few = omega (arith, length-append xs (node ∷ []), room);
    }

-- ---- a table after an entry was put in its set

module _ (xs ys : List Node) (bits : List ℕ) (vs : List View) (is : shown xs ≡ vs) (is_table : IsTable xs bits) (node : Node) (n : ℕ) (is_new : Bool)
    (new : is_new ≡ not (list_any (same_node node) xs)) (put : ys ≡ insert_key same_node xs node) (stands : StandsAt ys n node) where
  -- the entry stood there
  pub stood : is_new ≡ false → IsNumbered vs (shown ys) (node_view vs node) n
  stood h =
      let same : ys ≡ xs = put ∙ rw (not-false (list_any (same_node node) xs) (sym new ∙ h)) refl in
      subst (λ us. IsNumbered us (shown ys) (node_view us node) n) is
      (subst (λ zs. IsNumbered (shown xs) (shown zs) (node_view (shown xs) node) n) (sym same)
      (found xs bits is_table node n (subst (λ zs. StandsAt zs n node) same stands)))

  -- the entry is new
  module _ (h : is_new ≡ true) (once : IsDistinct same_node ys) (entry : IsEntry (length vs) node) where
    absent : list_any (same_node node) xs ≡ false
    absent = not-true (list_any (same_node node) xs) (sym new ∙ h)

    last : ys ≡ xs ++ node ∷ []
    last = put ∙ rw absent refl

    entry_shown : IsEntry (length (shown xs)) node
    entry_shown = subst (λ us. IsEntry (length us) node) (sym is) entry

    pub joined_last : IsNumbered vs (shown ys) (node_view vs node) n
    joined_last =
        subst (λ us. IsNumbered us (shown ys) (node_view us node) n) is
        (subst (λ zs. IsNumbered (shown xs) (shown zs) (node_view (shown xs) node) n) (sym last)
        (added xs bits is_table node entry_shown absent n (subst (IsDistinct same_node) last once) (subst (λ zs. StandsAt zs n node) last stands)))

    pub is_table_joined : (after : List ℕ) → after ≡ bits ++ process_bits (node_view vs node) ∷ [] → length vs < 4294967295 → IsTable ys after
    is_table_joined after bits_after room =
        let few : length xs < 4294967295 = omega (arith, room, ap length is, length-shown xs) in
        let bits_by_table : after ≡ bits ++ process_bits (node_view (shown xs) node) ∷ [] = bits_after ∙ ap (λ us. bits ++ process_bits (node_view us node) ∷ []) (sym is) in
        subst (λ zs. IsTable zs after) (sym last)
        (subst (IsTable (xs ++ node ∷ [])) (sym bits_by_table)
        (is_table_after xs bits is_table node entry_shown absent (subst (IsDistinct same_node) last once) few))
