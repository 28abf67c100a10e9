-- The views that a table's entries stand for.
use Rattle.std.proofs.Common.{◌≡◌, ◌<◌, ◌≤◌, ℕ, zero, suc, ◌+◌, List, [], ◌∷◌, ◌++◌, map, length, get_or, sym, refl, ap, ◌∙◌, subst, arith, append_assoc, append-nil, length-append}
use Rattle.std.specs.List.{AllByRecursion}
use Rattle.std.proofs.Math.ListN.{get_or-append}
use Rattle.std.proofs.lemmas.List.{get_or_push}
use Rattle.std.proofs.lemmas.List.Elements.{recursion_from_All}
use Rattle.wf_model.specs.View.{View, base, seen, views_of}
use Rattle.wf_complex.specs.declared.node.Node.{Node}
use Rattle.wf_complex.specs.Views.{view_at, view_seen}
use Rattle.wf_complex.specs.Table.{seen_node, node_view, shown_after, shown, IsEntry, is_base, is_seen, AreEntriesFrom}

-- the views that entries add to these
abbrev pub later : List View → List Node → List View
later vs [] = []
later vs (x ∷ xs) = node_view vs x ∷ later (vs ++ node_view vs x ∷ []) xs

pub shown_after-later : (vs : List View) (xs : List Node) → shown_after vs xs ≡ vs ++ later vs xs
shown_after-later vs [] = sym (append-nil vs)
shown_after-later vs (x ∷ xs) = shown_after-later (vs ++ node_view vs x ∷ []) xs ∙ append_assoc vs (node_view vs x ∷ []) (later (vs ++ node_view vs x ∷ []) xs)

pub shown_after-append : (vs : List View) (xs ys : List Node) → shown_after vs (xs ++ ys) ≡ shown_after (shown_after vs xs) ys
shown_after-append vs [] ys = refl
shown_after-append vs (x ∷ xs) ys = shown_after-append (vs ++ node_view vs x ∷ []) xs ys

-- a new entry adds its view at the end
pub shown-push : (xs : List Node) (x : Node) → shown (xs ++ x ∷ []) ≡ shown xs ++ node_view (shown xs) x ∷ []
shown-push xs x = shown_after-append [] xs (x ∷ [])

length-shown_after : (vs : List View) (xs : List Node) → length (shown_after vs xs) ≡ length vs + length xs
length-shown_after vs [] = omega arith
length-shown_after vs (x ∷ xs) =
    let longer : length (vs ++ node_view vs x ∷ []) ≡ length vs + 1 = length-append vs (node_view vs x ∷ []) in
    let all : length (shown_after (vs ++ node_view vs x ∷ []) xs) ≡ length (vs ++ node_view vs x ∷ []) + length xs = length-shown_after (vs ++ node_view vs x ∷ []) xs in
    omega (arith, longer, all)

pub length-shown : (xs : List Node) → length (shown xs) ≡ length xs
length-shown xs = length-shown_after [] xs ∙ (let e : 0 + length xs ≡ length xs = omega arith in e)

-- the view of an entry with one to four views
pub node_view-seen : (vs : List View) (p : ℕ) (ids : List ℕ) → 0 < length ids → length ids ≤ 4 → node_view vs (seen_node p ids) ≡ view_seen vs p ids
node_view-seen vs p [] h k = absurd (let none : ⊥ = omega (arith, h) in none)
node_view-seen vs p (a ∷ []) h k = refl
node_view-seen vs p (a ∷ b ∷ []) h k = refl
node_view-seen vs p (a ∷ b ∷ c ∷ []) h k = refl
node_view-seen vs p (a ∷ b ∷ c ∷ d ∷ []) h k = refl
node_view-seen vs p (a ∷ b ∷ c ∷ d ∷ e ∷ more) h k = absurd (let none : ⊥ = omega (arith, k) in none)

pub views_at_front : (vs more : List View) (ids : List ℕ) → AllByRecursion (λ k. k < length vs) ids → map (view_at (vs ++ more)) ids ≡ map (view_at vs) ids
views_at_front vs more [] h = refl
views_at_front vs more (k ∷ ids) h = λ i. get_or-append vs more (base 0 0) k h.0 i ∷ views_at_front vs more ids h.1 i

-- an entry's view is by the views before it alone
pub node_view-more : (vs more : List View) (node : Node) → IsEntry (length vs) node → node_view (vs ++ more) node ≡ node_view vs node
node_view-more vs more node (is_base p x low small) = refl
node_view-more vs more node (is_seen p ids low some few earlier) =
    node_view-seen (vs ++ more) p ids some few
    ∙ ap (λ xs. seen p (views_of xs)) (views_at_front vs more ids (recursion_from_All _ ids earlier))
    ∙ sym (node_view-seen vs p ids some few)

-- the views of a table, by its entries
pub view_at-shown_after : (vs : List View) (xs : List Node) → AreEntriesFrom (length vs) xs → (n : ℕ) (d : Node) → n < length xs →
    view_at (shown_after vs xs) (length vs + n) ≡ node_view (shown_after vs xs) (get_or xs n d)
view_at-shown_after vs [] h n d below = absurd (let none : ⊥ = omega (arith, below) in none)
view_at-shown_after vs (x ∷ xs) h zero d below =
    let now = vs ++ node_view vs x ∷ [] in
    let e : length vs + 0 ≡ length vs = omega arith in
    let here : view_at (now ++ later now xs) (length vs) ≡ node_view vs x = get_or-append now (later now xs) (base 0 0) (length vs) (omega (arith, length-append vs (node_view vs x ∷ []))) ∙ get_or_push vs (node_view vs x) (base 0 0) (length vs) refl in
    let all : shown_after now xs ≡ vs ++ (node_view vs x ∷ later now xs) = shown_after-later now xs ∙ append_assoc vs (node_view vs x ∷ []) (later now xs) in
    rw e (ap (λ ws. view_at ws (length vs)) (shown_after-later now xs) ∙ here ∙ sym (ap (λ ws. node_view ws x) all ∙ node_view-more vs (node_view vs x ∷ later now xs) x h.0))
view_at-shown_after vs (x ∷ xs) h (suc n) d below =
    let now = vs ++ node_view vs x ∷ [] in
    let longer : length (vs ++ node_view vs x ∷ []) ≡ suc (length vs) = (let e : length vs + 1 ≡ suc (length vs) = omega arith in length-append vs (node_view vs x ∷ []) ∙ e) in
    let e : length (vs ++ node_view vs x ∷ []) + n ≡ length vs + suc n = omega (arith, longer) in
    rw (← e) (view_at-shown_after (vs ++ node_view vs x ∷ []) xs (subst (λ k. AreEntriesFrom k xs) (sym longer) h.1) n d (omega (arith, below)))

pub view_at-shown : (xs : List Node) → AreEntriesFrom 0 xs → (n : ℕ) (d : Node) → n < length xs → view_at (shown xs) n ≡ node_view (shown xs) (get_or xs n d)
view_at-shown xs h n d below = let e : 0 + n ≡ n = omega arith in subst (λ k. view_at (shown xs) k ≡ node_view (shown xs) (get_or xs n d)) e (view_at-shown_after [] xs h n d below)

-- each is an entry at its place
entry_from : (k : ℕ) (xs : List Node) → AreEntriesFrom k xs → (n : ℕ) (d : Node) → n < length xs → IsEntry (k + n) (get_or xs n d)
entry_from k [] h n d below = absurd (let none : ⊥ = omega (arith, below) in none)
entry_from k (x ∷ xs) h zero d below = let e : k + 0 ≡ k = omega arith in rw e h.0
entry_from k (x ∷ xs) h (suc n) d below = let e : suc k + n ≡ k + suc n = omega arith in rw (← e) (entry_from (suc k) xs h.1 n d (omega (arith, below)))

pub entry_at : (xs : List Node) → AreEntriesFrom 0 xs → (n : ℕ) (d : Node) → n < length xs → IsEntry n (get_or xs n d)
entry_at xs h n d below = let e : 0 + n ≡ n = omega arith in subst (λ k. IsEntry k (get_or xs n d)) e (entry_from 0 xs h n d below)

-- one more entry
pub AreEntriesFrom-push : (k : ℕ) (xs : List Node) (x : Node) → AreEntriesFrom k xs → IsEntry (k + length xs) x → AreEntriesFrom k (xs ++ x ∷ [])
AreEntriesFrom-push k [] x h e = (let z : k + 0 ≡ k = omega arith in subst (λ n. IsEntry n x) z e, tt)
AreEntriesFrom-push k (y ∷ xs) x h e = (h.0, AreEntriesFrom-push (suc k) xs x h.1 (let z : k + suc (length xs) ≡ suc k + length xs = omega arith in subst (λ n. IsEntry n x) z e))
