-- The rules of a task at hand, one after the other, and the tuples of a part.
use Rattle.std.proofs.Common.{◌≡◌, ℕ, zero, suc, ◌+◌, ◌==◌, ◌<◌, Bool, true, false, List, [], ◌∷◌, ◌++◌, All, cond, filter, get_or, length, map, take, inl, inr, refl, sym, ap, ◌∙◌, subst, arith, length-append, not, ◌≤◌}
use Rattle.std.specs.Cmp.Lexicographic.{pointwise, slice_cmp}
use Rattle.std.specs.Ordering.{nat_cmp}
use Rattle.std.proofs.Math.ListN.{get_or-append}
use Rattle.std.proofs.Math.Seq.{get_or-append_seam}
use Rattle.std.proofs.lemmas.Bool.{cases_Bool, cases_eq, cases_lt, both_ways, cond-true, cond-false, eq-eqb, eqb-true}
use Rattle.std.proofs.lemmas.List.{get_or-map, length-map}
use Rattle.std.proofs.lemmas.List.Elements.{All-filter, filter_more}
use Rattle.std.proofs.lemmas.List.Filters.{length-filter_both}
use Rattle.wf_model.specs.Lists.{in_order}
use Rattle.wf_model.specs.Simplex.{Simplex, same_vertex}
use Rattle.wf_model.specs.Task.{Rule, Task, Tuple, inputs}
use Rattle.wf_simplex.proofs.Lemmas.{Has, has-filter, filter-has}
use Rattle.wf_task.specs.TaskSeen.{rules_seen}
use Rattle.wf_tree_model.specs.Counting.Rules.{no_rule, rule_at}
use Rattle.wf_tree_model.specs.Alike.{are_alike}
use Rattle.wf_tree_model.specs.Cases.{tuples_in_case}
use Rattle.wf_tree_model.specs.Parts.{parts}
use Rattle.wf_tree_model.specs.Refined.{allowing, with_tuples}
use Rattle.wf_tree_model.specs.Tuples.{has_tuple}
use Rattle.wf_tree_refine.specs.AtHand.{IsAtHand, IsRuleAtHand, at_hand}
use Rattle.wf_tree_refine.specs.Near.{part_of}
use Rattle.wf_tree_refine.proofs.Membership.{Once, has-has_tuple, has_tuple-has}
use Rattle.wf_tree_refine.proofs.RowSearch.{filter_in_order}
use Rattle.wf_tree_refine.proofs.PartLemmas.{apart, covered, has_place, inside, number_of, part_place}

-- ---- rules

abbrev pub rule_with : Simplex → List Tuple → Rule
rule_with s rows = record { input = s; tuples = rows }

pub length-rules_seen : (ins : List Simplex) (rows : List (List Tuple)) → length rows ≡ length ins → length (rules_seen ins rows) ≡ length ins
length-rules_seen [] [] e = refl
length-rules_seen [] (r ∷ rows) e = refl
length-rules_seen (s ∷ ins) [] e = absurd (let bad : ⊥ = omega (arith, e) in bad)
length-rules_seen (s ∷ ins) (r ∷ rows) e = ap suc (length-rules_seen ins rows (omega (arith, e)))

pub rule_seen : (ins : List Simplex) (rows : List (List Tuple)) (i : ℕ) → length rows ≡ length ins → i < length ins → get_or (rules_seen ins rows) i no_rule ≡ rule_with (get_or ins i []) (get_or rows i [])
rule_seen [] rows i e low = absurd (let bad : ⊥ = omega (arith, low) in bad)
rule_seen (s ∷ ins) [] i e low = absurd (let bad : ⊥ = omega (arith, e) in bad)
rule_seen (s ∷ ins) (r ∷ rows) zero e low = refl
rule_seen (s ∷ ins) (r ∷ rows) (suc i) e low = rule_seen ins rows i (omega (arith, e)) (omega (arith, low))

pub rules_made : (f : Rule → List Tuple) (ins : List Simplex) (rows found : List (List Tuple)) → length rows ≡ length ins → length found ≡ length ins
    → ((i : ℕ) → i < length ins → get_or found i [] ≡ in_order (slice_cmp nat_cmp) (f (get_or (rules_seen ins rows) i no_rule))) → rules_seen ins found ≡ map (with_tuples f) (rules_seen ins rows)
rules_made f [] rows found e d h = refl
rules_made f (s ∷ ins) [] found e d h = absurd (let bad : ⊥ = omega (arith, e) in bad)
rules_made f (s ∷ ins) (r ∷ rows) [] e d h = absurd (let bad : ⊥ = omega (arith, d) in bad)
rules_made f (s ∷ ins) (r ∷ rows) (q ∷ found) e d h =
    let first : q ≡ in_order (slice_cmp nat_cmp) (f (rule_with s r)) = h 0 (omega arith) in
    let rest = rules_made f ins rows found (omega (arith, e)) (omega (arith, d)) (λ i low. h (suc i) (omega (arith, low))) in
    λ j. rule_with s (first j) ∷ rest j

-- ---- tuples

pub filter_step : (p : Tuple → Bool) (rows : List Tuple) (i : ℕ) (row : Tuple) (some more : List Tuple) → i < length rows → row ≡ get_or rows i row → some ≡ filter p (take i rows) → more ≡ some ++ cond (p row) (row ∷ []) [] → more ≡ filter p (take (i + 1) rows)
filter_step p rows i row some more low here so_far next =
    next ∙ ap (λ xs. xs ++ cond (p row) (row ∷ []) []) so_far ∙ ap (λ x. filter p (take i rows) ++ cond (p x) (x ∷ []) []) here ∙ sym (filter_more p rows i row low)

pub filter_same : (p q : Tuple → Bool) (xs : List Tuple) → ((x : Tuple) → p x ≡ q x) → filter p xs ≡ filter q xs
filter_same p q [] h = refl
filter_same p q (x ∷ xs) h = let rest = filter_same p q xs h in λ j. cond (h x j) (x ∷ rest j) (rest j)

same_has : (xs ys : List Tuple) (u : Tuple) → (Has u xs → Has u ys) → (Has u ys → Has u xs) → has_tuple xs u ≡ has_tuple ys u
same_has xs ys u f g = elim (cases_Bool (has_tuple xs u)) [
  | inl e ↦ e ∙ sym (has-has_tuple ys u (f (has_tuple-has xs u e)))
  | inr e ↦ elim (cases_Bool (has_tuple ys u)) [
    | inl d ↦ absurd (both_ways (has_tuple xs u) e (has-has_tuple xs u (g (has_tuple-has ys u d))))
    | inr d ↦ e ∙ sym d
  ]
]

past_end : {X : Type 0} (xs : List X) (k : ℕ) (d : X) → length xs ≤ k → get_or xs k d ≡ d
past_end [] zero d past = refl
past_end [] (suc k) d past = refl
past_end (x ∷ xs) zero d past = absurd (let bad : ⊥ = omega (arith, past) in bad)
past_end (x ∷ xs) (suc k) d past = past_end xs k d (omega (arith, past))

-- the tuples with the number of a part are those of the part; if there is no such part, none are
pub part_has : (near : Tuple → Tuple → Bool) (rows : List Tuple) (k : ℕ) → Once rows → (u : Tuple) → has_tuple (filter (λ t. part_of (parts near rows) t == k) rows) u ≡ has_tuple (get_or (parts near rows) k []) u
part_has near rows k once u =
    let ps = parts near rows in
    same_has (filter (λ t. part_of ps t == k) rows) (get_or ps k []) u
    (λ h.
    let r = has-filter (λ t. part_of ps t == k) u rows h in
    subst (λ n. Has u (get_or ps n [])) (eqb-true (part_of ps u) k r.1) (part_place ps u (covered near rows u r.0)).1)
    (λ h. elim (cases_lt k (length ps)) [
      | inl low ↦ filter-has (λ t. part_of ps t == k) u rows (inside near rows (get_or ps k []) u (has_place ps k low) h) (eq-eqb (part_of ps u) k (number_of ps k u (apart near rows once) low h))
      | inr past ↦ absurd (subst (Has u) (past_end ps k [] past) h)
    ])

pub alike_same : (b : Bool) (s u : Simplex) → cond b (pointwise (λ v w. v.1 == w.1) s u) (pointwise same_vertex s u) ≡ pointwise (λ v w. cond b (v.1 == w.1) (same_vertex v w)) s u
alike_same true s u = refl
alike_same false s u = refl

-- ---- elements one by one

pub any_default : {X : Type 0} (xs : List X) (i : ℕ) (d e : X) → i < length xs → get_or xs i d ≡ get_or xs i e
any_default [] i d e low = absurd (let bad : ⊥ = omega (arith, low) in bad)
any_default (x ∷ xs) zero d e low = refl
any_default (x ∷ xs) (suc i) d e low = any_default xs i d e (omega (arith, low))

pub simplex_here : (all ins : List Simplex) (i : ℕ) (s : Simplex) → all ≡ ins → i < length ins → s ≡ get_or all i s → get_or ins i [] ≡ s
simplex_here all ins i s same low here = any_default ins i [] s low ∙ ap (λ xs. get_or xs i s) (sym same) ∙ sym here

pub rows_here : {V X : Type 0} (f : V → List X) (vs : List V) (i : ℕ) (v : V) → i < length vs → v ≡ get_or vs i v → get_or (map f vs) i [] ≡ f v
rows_here f vs i v low here = get_or-map f vs i v [] low ∙ ap f (sym here)

pub rule_here : (t : Task) (rows : List (List Tuple)) (i : ℕ) (s : Simplex) (tuples : List Tuple) → length rows ≡ length (inputs t) → i < length rows → get_or (inputs t) i [] ≡ s → get_or rows i [] ≡ tuples → rule_at (at_hand t rows) i ≡ rule_with s tuples
rule_here t rows i s tuples each low is are = rule_seen (inputs t) rows i each (omega (arith, low, each)) ∙ ap (λ u. rule_with u (get_or rows i [])) is ∙ ap (rule_with s) are

pub good_rule : (t : Task) (rows : List (List Tuple)) (i : ℕ) → IsAtHand t rows → i < length rows → IsRuleAtHand (rule_at (at_hand t rows) i)
good_rule t rows i h low = let long = length-rules_seen (inputs t) rows h.each in let each = h.each in h.rules i no_rule (omega (arith, low, long, each))

pub rows_pushed : {V : Type 0} (f : V → List Tuple) (vs new : List V) (v : V) (n : ℕ) (g : ℕ → List Tuple) → length vs ≡ n → new ≡ vs ++ v ∷ [] → ((i : ℕ) → i < n → get_or (map f vs) i [] ≡ g i) → f v ≡ g n → (i : ℕ) → i < n + 1 → get_or (map f new) i [] ≡ g i
rows_pushed f vs new v n g long is before here i low =
    let size : length new ≡ n + 1 = ap length is ∙ simp length-append (omega (arith, long)) in
    get_or-map f new i v [] (omega (arith, low, size)) ∙ ap (λ xs. f (get_or xs i v)) is
    ∙ elim (cases_eq i n) [
      | inl e ↦ ap (λ k. f (get_or (vs ++ v ∷ []) k v)) (e ∙ sym long) ∙ ap f (get_or-append_seam vs v [] v) ∙ here ∙ ap g (sym e)
      | inr ne ↦ (let inside : i < length vs = omega (arith, low, ne, long) in ap f (get_or-append vs (v ∷ []) v i inside) ∙ sym (get_or-map f vs i v [] inside) ∙ before i (omega (arith, low, ne)))
    ]

-- what is kept of the tuples of a simplex
pub case_rows : (t : Task) (s u : Simplex) (all part same tuples kept : List Tuple) (b : Bool) → in_order (slice_cmp nat_cmp) tuples ≡ tuples → ((x : Tuple) → has_tuple part x ≡ has_tuple same x)
    → b ≡ cond t.symmetric (pointwise (λ v w. v.1 == w.1) s u) (pointwise same_vertex s u) → (b ≡ true → kept ≡ filter (has_tuple part) tuples) → (b ≡ false → kept ≡ tuples)
    → kept ≡ in_order (slice_cmp nat_cmp) (tuples_in_case t (rule_with s all) same (rule_with u tuples))
case_rows t s u all part same tuples kept b up has is some none =
    let alike : are_alike t s u ≡ b = sym (is ∙ alike_same t.symmetric s u) in
    elim (cases_Bool b) [
      | inl e ↦
          some e ∙ filter_same (has_tuple part) (has_tuple same) tuples has ∙ sym (filter_in_order (has_tuple same) tuples up)
          ∙ ap (in_order (slice_cmp nat_cmp)) (sym (cond-true (are_alike t s u) (filter (has_tuple same) tuples) tuples (alike ∙ e)))
      | inr e ↦ none e ∙ sym up ∙ ap (in_order (slice_cmp nat_cmp)) (sym (cond-false (are_alike t s u) (filter (has_tuple same) tuples) tuples (alike ∙ e)))
    ]

pub made_at_hand : (t : Task) (rows found : List (List Tuple)) (f : Rule → List Tuple) → length rows ≡ length (inputs t) → length found ≡ length (inputs t)
    → ((i : ℕ) → i < length (inputs t) → get_or found i [] ≡ in_order (slice_cmp nat_cmp) (f (rule_at (at_hand t rows) i))) → at_hand t found ≡ allowing f (at_hand t rows)
made_at_hand t rows found f each made h =
    let delta = rules_made f (inputs t) rows found each made h in
    λ j. record { processes = t.processes; symmetric = t.symmetric; least_block = t.least_block; delta = delta j; outputs = t.outputs }

-- the rule of a simplex, as the code reads its parts
pub rule_found : {V : Type 0} (t : Task) (f : V → List Tuple) (vs : List V) (n : ℕ) (all : List Simplex) (s : Simplex) (v : V) → IsAtHand t (map f vs) → n < length vs → all ≡ inputs t → s ≡ get_or all n s → v ≡ get_or vs n v
    → (rule_at (at_hand t (map f vs)) n ≡ rule_with s (f v)) × IsRuleAtHand (rule_with s (f v))
rule_found t f vs n all s v h low ins is here =
    let count = length-map vs f in
    let each = h.each in
    let small : n < length (map f vs) = omega (arith, low, count) in
    let rule = rule_here t (map f vs) n s (f v) each small (simplex_here all (inputs t) n s ins (omega (arith, small, each)) is) (rows_here f vs n v low here) in
    (rule, subst IsRuleAtHand rule (good_rule t (map f vs) n h small))

pub length_pushed : {V : Type 0} (vs : List V) (v : V) (n : ℕ) → length vs ≡ n → length (vs ++ v ∷ []) ≡ n + 1
length_pushed vs v n e = simp length-append (omega (arith, e))

-- ---- what is kept is at hand

fewer : (p : Tuple → Bool) (xs : List Tuple) → length (filter p xs) ≤ length xs
fewer p xs = let e = length-filter_both p (λ x. not (p x)) (λ x. refl) xs in omega (arith, e)

pub case_good : (t : Task) (of : Rule) (part : List Tuple) (rule : Rule) → IsRuleAtHand rule → IsRuleAtHand (rule_with rule.input (in_order (slice_cmp nat_cmp) (tuples_in_case t of part rule)))
case_good t of part rule good =
    elim (cases_Bool (are_alike t of.input rule.input)) [
      | inl e ↦ subst (λ xs. IsRuleAtHand (rule_with rule.input xs))
          (sym (ap (in_order (slice_cmp nat_cmp)) (cond-true (are_alike t of.input rule.input) (filter (has_tuple part) rule.tuples) rule.tuples e) ∙ filter_in_order (has_tuple part) rule.tuples good.ascending))
          (record {
            ascending = filter_in_order (has_tuple part) rule.tuples good.ascending;
            long = All-filter (has_tuple part) (λ tuple. length tuple ≡ length rule.input) rule.tuples good.long;
            few = (let less = fewer (has_tuple part) rule.tuples in let few = good.few in omega (arith, less, few));
          })
      | inr e ↦ subst (λ xs. IsRuleAtHand (rule_with rule.input xs))
          (sym (ap (in_order (slice_cmp nat_cmp)) (cond-false (are_alike t of.input rule.input) (filter (has_tuple part) rule.tuples) rule.tuples e) ∙ good.ascending))
          (record { ascending = good.ascending; long = good.long; few = good.few })
    ]

pub rules_good : (ins : List Simplex) (found : List (List Tuple)) → length found ≡ length ins → ((i : ℕ) → i < length ins → IsRuleAtHand (rule_with (get_or ins i []) (get_or found i []))) → All IsRuleAtHand (rules_seen ins found)
rules_good ins found e h = λ k d low.
    let long = length-rules_seen ins found e in
    let inside : k < length ins = omega (arith, low, long) in
    subst IsRuleAtHand (sym (rule_seen ins found k e inside) ∙ any_default (rules_seen ins found) k no_rule d low) (h k inside)

pub case_at_hand : (t : Task) (rows found : List (List Tuple)) (of : Rule) (part : List Tuple) → IsAtHand t rows → length found ≡ length (inputs t)
    → ((i : ℕ) → i < length (inputs t) → get_or found i [] ≡ in_order (slice_cmp nat_cmp) (tuples_in_case (at_hand t rows) of part (rule_at (at_hand t rows) i))) → IsAtHand t found
case_at_hand t rows found of part h made is = record {
  each = made;
  rules = rules_good (inputs t) found made (λ i low.
      let each = h.each in
      let small : i < length rows = omega (arith, low, each) in
      let rule = rule_at (at_hand t rows) i in
      let good = case_good (at_hand t rows) of part rule (good_rule t rows i h small) in
      let input : rule.input ≡ get_or (inputs t) i [] = ap (λ r. r.input) (rule_seen (inputs t) rows i each low) in
      subst (λ s. IsRuleAtHand (rule_with s (get_or found i []))) input (subst (λ xs. IsRuleAtHand (rule_with rule.input xs)) (sym (is i low)) good));
}
