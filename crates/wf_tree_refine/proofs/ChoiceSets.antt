-- Sets of what may be decided: what they have, one after the other.
use Rattle.std.proofs.Common.{◌≡◌, ℕ, ◌+◌, ◌*◌, ◌==◌, ◌<◌, ◌≤◌, ◌||◌, ◌&&◌, Bool, true, false, List, [], ◌∷◌, ◌++◌, cond, drop, filter, flat_map, get_or, length, map, inl, inr, refl, sym, take, ap, ◌∙◌, subst, arith, append-nil}
use Rattle.std.specs.List.{AllByRecursion}
use Rattle.std.specs.Ordering.{nat_cmp}
use Rattle.std.specs.Cmp.{both_ways, ranked}
use Rattle.std.specs.List.Sorted.{IsStrictlySortedBy}
use Rattle.std.specs.declared.cmp.Ordering.TheVariants.{Less}
use Rattle.std.proofs.Math.ListN.{set}
use Rattle.std.proofs.lemmas.Bool.{cases_eq, cond-true, cond-false, eq-eqb, ne_eqb}
use Rattle.std.proofs.lemmas.Cmp.{nat_cmp_total}
use Rattle.std.proofs.lemmas.Grind.{flat_map-append}
use Rattle.std.proofs.lemmas.List.{drop_more, take_more, get_or-set_other, get_or-set_same}
use Rattle.std.proofs.lemmas.List.Folds.{list_any-append}
use Rattle.std.proofs.lemmas.List.FromFn.{get_or-map-range_with_len}
use Rattle.std.proofs.lemmas.List.Concat.{flat_map-cons}
use Rattle.wf_model.specs.Lists.{below, has, in_order}
use Rattle.wf_model.specs.Simplex.{processes_of}
use Rattle.wf_model.specs.Task.{Tuple}
use Rattle.wf_model.proofs.Lemmas.{Ascends, has_in_order, below_next}
use Rattle.wf_simplex.proofs.Lemmas.{sorted-in_order}
use Rattle.wf_simplex.specs.Order.{nat_cmp-Equal}
use Rattle.wf_task.proofs.Lemmas.{has_from_order}
use Rattle.wf_base.specs.Set.Sets.{values_in}
use Rattle.wf_base.proofs.OfSet.Lemmas.{values_listed}
use Rattle.wf_tree_model.specs.Splits.{Splitting, names_at, with_names}
use Rattle.wf_tree_model.specs.Tuples.{choices_of, value_at}
use Rattle.wf_tree_refine.specs.Choices.{chosen_by, names_beside}

-- ---- sets and lists

weaker : (P Q : ℕ → Type 0) → ((y : ℕ) → P y → Q y) → (xs : List ℕ) → AllByRecursion P xs → AllByRecursion Q xs
weaker P Q f [] h = tt
weaker P Q f (x ∷ xs) h = (f x h.0, weaker P Q f xs h.1)

ascends : (xs : List ℕ) → IsStrictlySortedBy nat_cmp xs → Ascends xs
unfolding IsStrictlySortedBy
ascends [] h = tt
ascends (x ∷ xs) h = (weaker (λ y. nat_cmp x y ≡ Less) (λ y. x < y) (λ y e. ranked x y Less (sym e)) xs h.0, ascends xs h.1)

-- a set with what a list has, as a list in order
pub in_order_listed : (set xs : List ℕ) → ((z : ℕ) → has (values_in set) z ≡ has xs z) → values_in set ≡ in_order nat_cmp xs
in_order_listed set xs same =
    values_listed set (in_order nat_cmp xs) (ascends (in_order nat_cmp xs) (sorted-in_order nat_cmp nat_cmp_total nat_cmp-Equal xs))
    (λ z. same z ∙ both_ways (has xs z) (has (in_order nat_cmp xs) z) (has_in_order z xs) (has_from_order z xs))

-- ---- one name more

together : (a b d t : Bool) → t ≡ true → ((a || b) || (t && d)) ≡ (a || (t && (b || d)))
together a b d t e = ap (λ u. (a || b) || (u && d)) e ∙ by a b ∙ sym (ap (λ u. a || (u && (b || d))) e)
  where
    by : (x y : Bool) → ((x || y) || (true && d)) ≡ (x || (true && (y || d)))
    by true y = refl
    by false y = refl

aside : (a d e t : Bool) → t ≡ false → (a || (t && d)) ≡ (a || (t && e))
aside a d e t is = ap (λ u. a || (u && d)) is ∙ sym (ap (λ u. a || (u && e)) is)

beside_more : (place v i : ℕ) (rows named : List Tuple) (row name : Tuple) → i < length rows → i < length named → row ≡ get_or rows i row → name ≡ get_or named i name
    → names_beside place v (drop i rows) (drop i named)
    ≡ cond (value_at row place == v) (value_at name place ∷ names_beside place v (drop (i + 1) rows) (drop (i + 1) named)) (names_beside place v (drop (i + 1) rows) (drop (i + 1) named))
beside_more place v i rows named row name low inside here there =
    ap (λ xs. names_beside place v xs (drop i named)) (drop_more rows i row low ∙ ap (λ r. r ∷ drop (i + 1) rows) (sym here))
    ∙ ap (names_beside place v (row ∷ drop (i + 1) rows)) (drop_more named i name inside ∙ ap (λ r. r ∷ drop (i + 1) named) (sym there))

-- a set written with one name more
pub name_put : (process place : ℕ) (sets new : List (List ℕ)) (rows named : List Tuple) (i : ℕ) (row name : Tuple) (x y : ℕ) (mask : List ℕ)
    → process < 4 → length sets ≡ 1024 → i < length rows → i < length named → row ≡ get_or rows i row → name ≡ get_or named i name → value_at row place ≡ x → value_at name place ≡ y → x ≤ 255
    → new ≡ set sets (process * 256 + x) mask → ((z : ℕ) → has (values_in mask) z ≡ (has (chosen_by sets process x) z || y == z))
    → (p v z : ℕ) → p < 4 → v < 256
    → (has (chosen_by new p v) z || (process == p && has (names_beside place v (drop (i + 1) rows) (drop (i + 1) named)) z))
    ≡ (has (chosen_by sets p v) z || (process == p && has (names_beside place v (drop i rows) (drop i named)) z))
name_put process place sets new rows named i row name x y mask lp long low inside here there xs ys small written has_more p v z pp vv =
    let k = process * 256 + x in
    let rest = names_beside place v (drop (i + 1) rows) (drop (i + 1) named) in
    let more = beside_more place v i rows named row name low inside here there in
    let whole = has (chosen_by sets p v) z in
    elim (cases_eq process p) [
      | inl e ↦ elim (cases_eq x v) [
        | inl same ↦ (
            let at : p * 256 + v ≡ k = sym (ap (λ n. n * 256 + v) e) ∙ ap (λ n. process * 256 + n) (sym same) in
            let now : has (chosen_by new p v) z ≡ (whole || y == z) =
            ap (λ ss. has (values_in (get_or ss (p * 256 + v) [])) z) written ∙ ap (λ n. has (values_in (get_or (set sets k mask) n [])) z) at
            ∙ ap (λ s. has (values_in s) z) (get_or-set_same sets k mask [] (omega (arith, lp, small, long))) ∙ has_more z ∙ ap (λ n. has (values_in (get_or sets n [])) z || y == z) (sym at) in
            let listed : has (names_beside place v (drop i rows) (drop i named)) z ≡ (y == z || has rest z) =
            ap (λ ns. has ns z) (more ∙ cond-true (value_at row place == v) (value_at name place ∷ rest) rest (eq-eqb (value_at row place) v (xs ∙ same))) ∙ ap (λ n. has (n ∷ rest) z) ys in
            ap (λ b. b || (process == p && has rest z)) now ∙ together whole (y == z) (has rest z) (process == p) (eq-eqb process p e) ∙ sym (ap (λ b. whole || (process == p && b)) listed))
        | inr apart ↦ (
            let now : has (chosen_by new p v) z ≡ whole =
            ap (λ ss. has (values_in (get_or ss (p * 256 + v) [])) z) written ∙ ap (λ s. has (values_in s) z) (get_or-set_other sets k (p * 256 + v) mask [] (λ bad. apart (omega (arith, bad, e)))) in
            let listed = ap (λ ns. has ns z) (more ∙ cond-false (value_at row place == v) (value_at name place ∷ rest) rest (ne_eqb (value_at row place) v (λ bad. apart (sym xs ∙ bad)))) in
            ap (λ b. b || (process == p && has rest z)) now ∙ sym (ap (λ b. whole || (process == p && b)) listed))
      ]
      | inr other ↦ (
          let now : has (chosen_by new p v) z ≡ whole =
          ap (λ ss. has (values_in (get_or ss (p * 256 + v) [])) z) written ∙ ap (λ s. has (values_in s) z) (get_or-set_other sets k (p * 256 + v) mask [] (λ bad. other (omega (arith, bad, small, vv)))) in
          ap (λ b. b || (process == p && has rest z)) now ∙ aside whole (has rest z) (has (names_beside place v (drop i rows) (drop i named)) z) (process == p) (ne_eqb process p other))
    ]

-- ---- the names of a place

value_named : (s : Splitting) (tuple : Tuple) (k : ℕ) → k < length s.rule.input → value_at (with_names s tuple) k ≡ s.name k tuple
value_named s tuple k low = get_or-map-range_with_len (λ place. s.name place tuple) 0 (length s.rule.input) k k 0 low (omega arith)

beside_named : (s : Splitting) (k v : ℕ) (rows : List Tuple) → k < length s.rule.input → names_beside k v rows (map (with_names s) rows) ≡ map (s.name k) (filter (λ tuple. value_at tuple k == v) rows)
beside_named s k v [] low = refl
beside_named s k v (row ∷ rows) low = by (beside_named s k v rows low) (value_at row k == v)
  where
    by : names_beside k v rows (map (with_names s) rows) ≡ map (s.name k) (filter (λ tuple. value_at tuple k == v) rows) → (b : Bool)
        → cond b (value_at (with_names s row) k ∷ names_beside k v rows (map (with_names s) rows)) (names_beside k v rows (map (with_names s) rows))
        ≡ map (s.name k) (cond b (row ∷ filter (λ tuple. value_at tuple k == v) rows) (filter (λ tuple. value_at tuple k == v) rows))
    by rest true = let first = value_named s row k low in λ j. first j ∷ rest j
    by rest false = rest

has_if : (b : Bool) (xs : List ℕ) (z : ℕ) → has (cond b xs []) z ≡ (b && has xs z)
has_if true xs z = refl
has_if false xs z = refl

-- one place more
pub place_named : (s : Splitting) (rows named : List Tuple) (process k : ℕ) (sets new : List (List ℕ)) → s.rule.tuples ≡ rows → named ≡ map (with_names s) rows → k < length s.rule.input → get_or (processes_of s.rule.input) k 0 ≡ process
    → ((p v z : ℕ) → p < 4 → v < 256 → has (chosen_by new p v) z ≡ (has (chosen_by sets p v) z || (process == p && has (names_beside k v rows named) z)))
    → ((p v z : ℕ) → p < 4 → v < 256 → has (chosen_by sets p v) z ≡ has (v ∷ flat_map (names_at s p v) (below k)) z)
    → (p v z : ℕ) → p < 4 → v < 256 → has (chosen_by new p v) z ≡ has (v ∷ flat_map (names_at s p v) (below (k + 1))) z
place_named s rows named process k sets new own is low at more before p v z pp vv =
    let f = names_at s p v in
    let here : (process == p && has (names_beside k v rows named) z) ≡ has (f k) z =
    ap (λ ns. process == p && has ns z) (ap (names_beside k v rows) is ∙ beside_named s k v rows low ∙ ap (λ rs. map (s.name k) (filter (λ tuple. value_at tuple k == v) rs)) (sym own))
    ∙ ap (λ q. q == p && has (map (s.name k) (filter (λ tuple. value_at tuple k == v) s.rule.tuples)) z) (sym at)
    ∙ sym (has_if (get_or (processes_of s.rule.input) k 0 == p) (map (s.name k) (filter (λ tuple. value_at tuple k == v) s.rule.tuples)) z) in
    let next : flat_map f (below (k + 1)) ≡ flat_map f (below k) ++ f k = ap (flat_map f) (below_next k) ∙ flat_map-append f (below k) (k ∷ []) ∙ ap (λ ys. flat_map f (below k) ++ ys) (flat_map-cons f k [] ∙ append-nil (f k)) in
    more p v z pp vv ∙ ap (λ b. b || (process == p && has (names_beside k v rows named) z)) (before p v z pp vv) ∙ ap (λ b. has (v ∷ flat_map f (below k)) z || b) here
    ∙ sym (list_any-append (λ w. w == z) (v ∷ flat_map f (below k)) (f k)) ∙ ap (λ ns. has (v ∷ ns) z) (sym next)

-- ---- choices

-- choices that are the same at the values and processes of a tuple
pub choices_same : (f g : ℕ → ℕ → List ℕ) (limit : ℕ) → ((p v : ℕ) → p < 4 → v < limit → f p v ≡ g p v) → (ps : List ℕ) (row : Tuple) → AllByRecursion (λ p. p < 4) ps → AllByRecursion (λ x. x < limit) row
    → choices_of f ps row ≡ choices_of g ps row
choices_same f g limit same [] row hp hx = refl
choices_same f g limit same (p ∷ ps) [] hp hx = refl
choices_same f g limit same (p ∷ ps) (x ∷ xs) hp hx =
    ap (flat_map (λ z. map (λ rest. z ∷ rest) (choices_of f ps xs))) (same p x hp.0 hx.0) ∙ ap (λ rows. flat_map (λ z. map (λ rest. z ∷ rest) rows) (g p x)) (choices_same f g limit same ps xs hp.1 hx.1)

pub choices_alike : (f g : ℕ → ℕ → List ℕ) (limit : ℕ) → ((p v : ℕ) → p < 4 → v < limit → f p v ≡ g p v) → (ps : List ℕ) (rows : List Tuple) → AllByRecursion (λ p. p < 4) ps → AllByRecursion (AllByRecursion (λ x. x < limit)) rows
    → flat_map (choices_of f ps) rows ≡ flat_map (choices_of g ps) rows
choices_alike f g limit same ps [] hp hx = refl
choices_alike f g limit same ps (row ∷ rows) hp hx =
    flat_map-cons (choices_of f ps) row rows ∙ ap (λ xs. xs ++ flat_map (choices_of f ps) rows) (choices_same f g limit same ps row hp hx.0)
    ∙ ap (λ xs. choices_of g ps row ++ xs) (choices_alike f g limit same ps rows hp hx.1) ∙ sym (flat_map-cons (choices_of g ps) row rows)

-- ---- one by one

last_too : {X : Type 0} (P : X → Type 0) (ys : List X) (y : X) → AllByRecursion P ys → P y → AllByRecursion P (ys ++ y ∷ [])
last_too P [] y g q = (q, tt)
last_too P (z ∷ ys) y g q = (g.0, last_too P ys y g.1 q)

pub each_taken : {X : Type 0} (P : X → Type 0) (xs : List X) (i : ℕ) (x : X) → i < length xs → x ≡ get_or xs i x → AllByRecursion P (take i xs) → P x → AllByRecursion P (take (i + 1) xs)
each_taken P xs i x low here h p = subst (AllByRecursion P) (sym (take_more xs i x low ∙ ap (λ y. take i xs ++ y ∷ []) (sym here))) (last_too P (take i xs) x h p)
