-- Labels of pairs of last views that are flat in each execution come from a potential. The words
-- are taken from the last one back: labels after one word more give labels of the views before it.
use Rattle.std.proofs.Common.{◌≡◌, ℕ, zero, suc, ◌==◌, ◌<◌, ◌≤◌, nat_lt, Bool, true, false, cond, List, [], ◌∷◌, drop, length, get_or, refl, sym, ap, ◌∙◌, subst, inl, inr, arith}
use Rattle.std.specs.List.{AllByRecursion}
use Rattle.std.proofs.lemmas.Bool.{cases_eq, cases_order, eq-eqb, le-ltb, lt-ltb, ne_eqb}
use Rattle.wf_model.specs.Lists.{below, has}
use Rattle.wf_model.specs.Word.{Word, words}
use Rattle.wf_model.specs.View.{View, process_of}
use Rattle.wf_tree_model.specs.Counting.Rules.{same_numbers}
use Rattle.wf_tree_model.proofs.OfCounting.Lemmas.{view_of}
use Rattle.wf_tree_model.proofs.Members.{AreOf, Has, of_has}
use Rattle.wf_tree_model.proofs.WordTests.{has_number, headed, row, seen_at}
use Rattle.wf_tree_model.proofs.Places.{after, at, same_seen}
use Rattle.wf_tree_model.proofs.StarRuns as Star
use Rattle.wf_tree_model.proofs.OneRound.{Follows, IsFlat, Label, alone_row, from_same, in_turn, other, pair, pair_rows, potential, potential_follows, same_everywhere, starts, together}

-- what a label takes a sheet at the first place with its view to, at the second
abbrev pub Labels : Type 0
Labels = ℕ → View → ℕ → View → ℕ → ℕ

-- the labels of rows, over views
abbrev pub along : Labels → (ℕ → View) → Label
along g v a b x = g (get_or a 0 0) (view_of v a) (get_or b 0 0) (view_of v b) x

-- the first of the two places has this view, and the second that one
abbrev either : ℕ → View → View → ℕ → View
either i a b p = cond (p == i) a b

-- from the first alone to the second alone, by what both see together
abbrev path : Label → ℕ → ℕ → ℕ → ℕ
path label i j x = label (i ∷ pair i j) (j ∷ j ∷ []) (label (j ∷ pair i j) (i ∷ pair i j) (label (i ∷ i ∷ []) (j ∷ pair i j) x))

-- the labels of the views before the last word
abbrev pub before : Labels → Labels
before g i a j b x = cond (i == j) x (path (along g (either i a b)) i j x)

pair_swap : (i j : ℕ) → (i ≡ j → ⊥) → pair i j ≡ pair j i
pair_swap i j apart =
    elim (cases_order i j) [
      | inl same ↦ absurd (apart same)
      | inr (inl less) ↦ let l = lt-ltb i j less in let m = le-ltb j i (omega (arith, less)) in rw (l, m) refl
      | inr (inr more) ↦ let l = lt-ltb j i more in let m = le-ltb i j (omega (arith, more)) in rw (l, m) refl
    ]

pair_has : (P : ℕ → Type 0) (i j : ℕ) → P i → P j → AllByRecursion P (pair i j)
pair_has P i j h k = by (nat_lt i j)
  where
    by : (b : Bool) → AllByRecursion P (cond b (i ∷ j ∷ []) (j ∷ i ∷ []))
    by true = (h, (k, tt))
    by false = (k, (h, tt))

other_has : (P : ℕ → Type 0) (c : ℕ) (set : List ℕ) → P c → AllByRecursion P set → P (other c set)
other_has P c [] h all = h
other_has P c (q ∷ qs) h all = by (other_has P c qs h all.1) (q == c)
  where
    by : P (other c qs) → (b : Bool) → P (cond b (other c qs) q)
    by rest true = rest
    by rest false = all.0

-- views that are the same at the places of two rows give one label
along_same : (g : Labels) (u v : ℕ → View) (a b : List ℕ) (x : ℕ) → AllByRecursion (λ p. u p ≡ v p) a → AllByRecursion (λ p. u p ≡ v p) b → along g u a b x ≡ along g v a b x
along_same g u v a b x h k =
    let e = same_seen u v a h in
    let d = same_seen u v b k in
    λ t. g (get_or a 0 0) (e t) (get_or b 0 0) (d t) x

path_same : (g : Labels) (u v : ℕ → View) (i j x : ℕ) → u i ≡ v i → u j ≡ v j → path (along g u) i j x ≡ path (along g v) i j x
path_same g u v i j x h k =
    let Same = λ (p : ℕ). u p ≡ v p in
    let both = pair_has Same i j h k in
    let second = along g u (i ∷ i ∷ []) (j ∷ pair i j) x in
    let one = along g u (j ∷ pair i j) (i ∷ pair i j) second in
    along_same g u v (i ∷ pair i j) (j ∷ j ∷ []) one (h, both) (k, (k, tt))
    ∙ ap (along g v (i ∷ pair i j) (j ∷ j ∷ []))
    (along_same g u v (j ∷ pair i j) (i ∷ pair i j) second (k, both) (h, both)
    ∙ ap (along g v (j ∷ pair i j) (i ∷ pair i j)) (along_same g u v (i ∷ i ∷ []) (j ∷ pair i j) x (h, (h, tt)) (k, both)))

-- ---- sheets below d

abbrev pub KeepsBelow : ℕ → Labels → Type 0
KeepsBelow d g = (i : ℕ) (a : View) (j : ℕ) (b : View) (x : ℕ) → x < d → g i a j b x < d

before_below : (d : ℕ) (g : Labels) → KeepsBelow d g → KeepsBelow d (before g)
before_below d g keeps i a j b x low = by (i == j)
  where
    by : (e : Bool) → cond e x (path (along g (either i a b)) i j x) < d
    by true = low
    by false = keeps _ _ _ _ _ (keeps _ _ _ _ _ (keeps _ _ _ _ _ low))

potential_below : (d n c : ℕ) (g : Labels) (v : ℕ → View) (x : ℕ) (places : List ℕ) → KeepsBelow d g → x < d → potential n c (along g v) x places < d
potential_below d n c g v x places keeps low = by (get_or places 0 0) (drop 1 places) (get_or places 0 0 == c) (same_numbers (drop 1 places) (c ∷ [])) (has (drop 1 places) c)
  where
    by : (q : ℕ) (set : List ℕ) (e f h : Bool) →
        cond e (cond f x (from_same c (along g v) x set)) (cond h (along g v (c ∷ c ∷ []) (q ∷ set) x) (along g v (c ∷ below n) (q ∷ set) (from_same c (along g v) x (below n)))) < d
    by q set true true h = low
    by q set true false h = keeps _ _ _ _ _ (keeps _ _ _ _ _ low)
    by q set false f true = keeps _ _ _ _ _ low
    by q set false f false = keeps _ _ _ _ _ (keeps _ _ _ _ _ (keeps _ _ _ _ _ low))

-- ---- executions

module _ (n : ℕ) (some : 2 ≤ n) (few : n ≤ 4) (old : List View) (olds : length old ≡ n)
    (apart : (i j : ℕ) → i < n → j < n → process_of (at old i) ≡ process_of (at old j) → i ≡ j) where
  abbrev views : List Word → ℕ → View
  views us = at (after old us)

  abbrev IsRun : ℕ → List Word → Type 0
  IsRun r us = AreOf (words 1 n) r us

  positive : 1 ≤ n
  positive = omega (arith, some)

  -- round the places of each execution
  pub record IsFlatAfter (r : ℕ) (g : Labels) : Type 0 where
    pub own : (us : List Word) → IsRun r us → (i x : ℕ) → i < n → g i (views us i) i (views us i) x ≡ x
    pub flat : (us : List Word) → IsRun r us → (i j k x : ℕ) → i < n → j < n → k < n → g j (views us j) k (views us k) (g i (views us i) j (views us j) x) ≡ g i (views us i) k (views us k) x

  along_last : (g : Labels) (r : ℕ) (us : List Word) → IsRun r us → (w : Word) → Has w (words 1 n) → (i j x : ℕ) → i < n → j < n →
      along g (views us) (row n i w) (row n j w) x ≡ g i (views (w ∷ us) i) j (views (w ∷ us) j) x
  along_last g r us run w there i j x i_low j_low =
      let head = λ (p : ℕ) (low : p < n). ap (λ (places : List ℕ). get_or places 0 0) (headed n positive few w there p low).row in
      let first = head i i_low in
      let second = head j j_low in
      let a = sym (Star.next n positive few old olds apart w us r i there run i_low) in
      let b = sym (Star.next n positive few old olds apart w us r j there run j_low) in
      λ t. g (first t) (a t) (second t) (b t) x

  module _ (r : ℕ) (g : Labels) (is : IsFlatAfter (suc r) g) (us : List Word) (run : IsRun r us) where
    abbrev label : Label
    label = along g (views us)

    flat_rows : IsFlat n label
    flat_rows =
        record {
          own = λ w there i x low. along_last g r us run w there i i x low low ∙ is.own (w ∷ us) (Star.longer n positive few old olds apart r w us there run) i x low;
          flat = λ w there i j k x i_low j_low k_low.
              ap (label (row n j w) (row n k w)) (along_last g r us run w there i j x i_low j_low)
              ∙ along_last g r us run w there j k (g i (views (w ∷ us) i) j (views (w ∷ us) j) x) j_low k_low
              ∙ is.flat (w ∷ us) (Star.longer n positive few old olds apart r w us there run) i j k x i_low j_low k_low
              ∙ sym (along_last g r us run w there i k x i_low k_low);
        }

    follows : (c x : ℕ) → c < n → Follows n label (potential n c label x)
    follows c x low = potential_follows n c label x flat_rows some few low

    by_rows : (c x : ℕ) → c < n → (w : Word) → Has w (words 1 n) → (i j : ℕ) → i < n → j < n → (a b : List ℕ) → row n i w ≡ a → row n j w ≡ b → potential n c label x b ≡ label a b (potential n c label x a)
    by_rows c x low w there i j i_low j_low a b e d =
        let sheet = potential n c label x in
        subst (λ k. sheet k ≡ label a k (sheet a)) d (subst (λ h. sheet (row n j w) ≡ label h (row n j w) (sheet h)) e (follows c x low w there i j i_low j_low))

    -- the labels before the last word take a corner's sheet to another corner's
    corners : (i j x : ℕ) → i < n → j < n → before g i (views us i) j (views us j) x ≡ potential n i label x (j ∷ j ∷ [])
    corners i j x i_low j_low =
        elim (cases_eq i j) [
          | inl same ↦
              ap (λ b. cond b x (path (along g (either i (views us i) (views us j))) i j x)) (eq-eqb i j same)
              ∙ sym (starts n i label x)
              ∙ ap (λ k. potential n i label x (k ∷ k ∷ [])) same
          | inr off ↦
              let sheet = potential n i label x in
              let there = pair_rows n i j some few i_low j_low off in
              let back = pair_rows n j i some few j_low i_low (λ e. off (sym e)) in
              let first : either i (views us i) (views us j) i ≡ views us i = ap (λ b. cond b (views us i) (views us j)) (eq-eqb i i refl) in
              let second : either i (views us i) (views us j) j ≡ views us j = ap (λ b. cond b (views us i) (views us j)) (ne_eqb j i (λ e. off (sym e))) in
              let to_second = by_rows i x i_low (in_turn n i j) there.turn i j i_low j_low (i ∷ i ∷ []) (j ∷ pair i j) there.first there.second in
              let to_one = by_rows i x i_low (together n (i ∷ j ∷ [])) there.both j i j_low i_low (j ∷ pair i j) (i ∷ pair i j) there.other there.one in
              let to_last = by_rows i x i_low (in_turn n j i) back.turn i j i_low j_low (i ∷ pair i j) (j ∷ j ∷ []) (back.second ∙ ap (λ ps. i ∷ ps) (sym (pair_swap i j off))) back.first in
              ap (λ b. cond b x (path (along g (either i (views us i) (views us j))) i j x)) (ne_eqb i j off)
              ∙ path_same g (either i (views us i) (views us j)) (views us) i j x first second
              ∙ sym (to_last ∙ ap (label (i ∷ pair i j) (j ∷ j ∷ [])) (to_one ∙ ap (label (j ∷ pair i j) (i ∷ pair i j)) (to_second ∙ ap (label (i ∷ i ∷ []) (j ∷ pair i j)) (starts n i label x))))
        ]

    -- from another corner the potential is the same
    moved : (i j x : ℕ) → i < n → j < n → (w : Word) → Has w (words 1 n) → (k : ℕ) → k < n →
        potential n j label (potential n i label x (j ∷ j ∷ [])) (row n k w) ≡ potential n i label x (row n k w)
    moved i j x i_low j_low w there k k_low =
        let y = potential n i label x (j ∷ j ∷ []) in
        let lone = alone_row n j some few j_low in
        same_everywhere n some few label (potential n j label y) (potential n i label x) (follows j y j_low) (follows i x i_low)
        (together n (j ∷ [])) w lone.word there j k j_low k_low
        (subst (λ a. potential n j label y a ≡ potential n i label x a) (sym lone.row) (starts n j label y))

  flat_before : (r : ℕ) (g : Labels) → IsFlatAfter (suc r) g → IsFlatAfter r (before g)
  flat_before r g is =
      record {
        own = λ us run i x low. ap (λ b. cond b x (path (along g (either i (views us i) (views us i))) i i x)) (eq-eqb i i refl);
        flat = λ us run i j k x i_low j_low k_low.
            let lone = alone_row n k some few k_low in
            let label = along g (views us) in
            let y = before g i (views us i) j (views us j) x in
            corners r g is us run j k y j_low k_low
            ∙ ap (λ z. potential n j label z (k ∷ k ∷ [])) (corners r g is us run i j x i_low j_low)
            ∙ subst (λ a. potential n j label (potential n i label x (j ∷ j ∷ [])) a ≡ potential n i label x a) lone.row (moved r g is us run i j x i_low j_low (together n (k ∷ [])) lone.word k k_low)
            ∙ sym (corners r g is us run i k x i_low k_low);
      }

  -- ---- the potential, from the sheet x of the corner c where c always is alone

  module _ (c x : ℕ) (inside : c < n) where
    abbrev pub height : ℕ → Labels → List Word → ℕ → ℕ
    height zero g us i = g c (at old c) i (at old i) x
    height (suc r) g [] i = x
    height (suc r) g (w ∷ us) i = potential n i (along g (views us)) (height r (before g) us i) (row n i w)

    shorter : (r : ℕ) (w : Word) (us : List Word) → IsRun (suc r) (w ∷ us) → IsRun r us
    shorter r w us run = ((let l = run.0 in omega (arith, l)), run.1.1)

    pub height_follows : (r : ℕ) (g : Labels) → IsFlatAfter r g → (us : List Word) → IsRun r us → (i j : ℕ) → i < n → j < n →
        g i (views us i) j (views us j) (height r g us i) ≡ height r g us j
    height_follows zero g is [] run i j i_low j_low = is.flat [] run c i j x inside i_low j_low
    height_follows zero g is (w ∷ us) run i j i_low j_low = absurd (let none : ⊥ = (let l = run.0 in omega (arith, l)) in none)
    height_follows (suc r) g is [] run i j i_low j_low = absurd (let none : ⊥ = (let l = run.0 in omega (arith, l)) in none)
    height_follows (suc r) g is (w ∷ us) run i j i_low j_low =
        let us_run = shorter r w us run in
        let label = along g (views us) in
        let here = height r (before g) us i in
        let there = height r (before g) us j in
        let corner : potential n i label here (j ∷ j ∷ []) ≡ there =
        sym (corners r g is us us_run i j here i_low j_low) ∙ height_follows r (before g) (flat_before r g is) us us_run i j i_low j_low in
        sym (along_last g r us us_run w run.1.0 i j (potential n i label here (row n i w)) i_low j_low)
        ∙ sym (follows r g is us us_run i here i_low w run.1.0 i j i_low j_low)
        ∙ sym (moved r g is us us_run i j here i_low j_low w run.1.0 j j_low)
        ∙ ap (λ z. potential n j label z (row n j w)) corner

    -- at what c sees the potential from c is given by the views there
    own_part : (g : Labels) (u v : ℕ → View) (q y : ℕ) (set : List ℕ) → u q ≡ v q → AllByRecursion (λ p. u p ≡ v p) set → potential n q (along g u) y (q ∷ set) ≡ potential n q (along g v) y (q ∷ set)
    own_part g u v q y set h all =
        let Same = λ (p : ℕ). u p ≡ v p in
        let o = other q set in
        let o_same = other_has Same q set h all in
        let e : from_same q (along g u) y set ≡ from_same q (along g v) y set =
        along_same g u v (o ∷ set) (q ∷ set) (along g u (q ∷ q ∷ []) (o ∷ set) y) (o_same, all) (h, all)
        ∙ ap (along g v (o ∷ set) (q ∷ set)) (along_same g u v (q ∷ q ∷ []) (o ∷ set) y (h, (h, tt)) (o_same, all)) in
        let itself = eq-eqb q q refl in
        rw itself (ap (λ z. cond (same_numbers set (q ∷ [])) y z) e)

    pub height_settled : (r : ℕ) (g : Labels) → (us ws : List Word) → IsRun r us → IsRun r ws → (i : ℕ) → i < n → views us i ≡ views ws i → height r g us i ≡ height r g ws i
    height_settled zero g us ws us_run ws_run i low same = refl
    height_settled (suc r) g [] ws us_run ws_run i low same = absurd (let none : ⊥ = (let l = us_run.0 in omega (arith, l)) in none)
    height_settled (suc r) g (w ∷ us) [] us_run ws_run i low same = absurd (let none : ⊥ = (let l = ws_run.0 in omega (arith, l)) in none)
    height_settled (suc r) g (w ∷ us) (v ∷ ws) us_run ws_run i low same =
        let us_shorter = shorter r w us us_run in
        let ws_shorter = shorter r v ws ws_run in
        let like = Star.alike n positive few old olds apart r i low w v us ws us_run.1.0 ws_run.1.0 us_shorter ws_shorter same in
        let w_headed = headed n positive few w us_run.1.0 i low in
        let v_headed = headed n positive few v ws_run.1.0 i low in
        let set = seen_at n i w in
        let own : views us i ≡ views ws i = of_has (λ p. views us p ≡ views ws p) set i like.1 (has_number i set w_headed.itself) in
        let here = height r (before g) us i in
        let there = height r (before g) ws i in
        ap (potential n i (along g (views us)) here) w_headed.row
        ∙ own_part g (views us) (views ws) i here set own like.1
        ∙ ap (λ z. potential n i (along g (views ws)) z (i ∷ set)) (height_settled r (before g) us ws us_shorter ws_shorter i low own)
        ∙ ap (λ s. potential n i (along g (views ws)) there (i ∷ s)) like.0
        ∙ ap (potential n i (along g (views ws)) there) (sym v_headed.row)

    pub height_starts : (r : ℕ) (g : Labels) → IsFlatAfter r g → (us : List Word) → IsRun r us → AllByRecursion (λ w. row n c w ≡ c ∷ c ∷ []) us → height r g us c ≡ x
    height_starts zero g is [] run alone = is.own [] run c x inside
    height_starts zero g is (w ∷ us) run alone = absurd (let none : ⊥ = (let l = run.0 in omega (arith, l)) in none)
    height_starts (suc r) g is [] run alone = absurd (let none : ⊥ = (let l = run.0 in omega (arith, l)) in none)
    height_starts (suc r) g is (w ∷ us) run alone =
        let label = along g (views us) in
        let here = height r (before g) us c in
        ap (potential n c label here) alone.0
        ∙ starts n c label here
        ∙ height_starts r (before g) (flat_before r g is) us (shorter r w us run) alone.1

    pub height_below : (d r : ℕ) (g : Labels) → KeepsBelow d g → x < d → (us : List Word) (i : ℕ) → height r g us i < d
    height_below d zero g keeps low us i = keeps c (at old c) i (at old i) x low
    height_below d (suc r) g keeps low [] i = low
    height_below d (suc r) g keeps low (w ∷ us) i =
        potential_below d n i g (views us) (height r (before g) us i) (row n i w) keeps (height_below d r (before g) (before_below d g keeps) low us i)
