-- What the words of a block say of its rows.
use Rattle.std.proofs.Common.{◌≡◌, ℕ, zero, suc, ◌+◌, ◌*◌, ◌/◌, ◌%◌, ◌<◌, ◌≤◌, ◌==◌, List, [], ◌∷◌, get_or, length, map, take, filter, Bool, true, false, not, ◌&&◌, refl, sym, ◌∙◌, ap, arith, ⊎_elim, eqb-true}
use Rattle.std.specs.Prelude.{bit_or, nat_lt, ◌||◌}
use Rattle.std.specs.List.{All, list_any}
use Rattle.std.specs.Cmp.Lexicographic.{pointwise}
use Rattle.std.proofs.Math.Bool.{and-true}
use Rattle.std.proofs.Math.ListN.{get_or-map}
use Rattle.std.proofs.lemmas.Bool.{cases_lt, eq-eqb, ne_eqb, lt-ltb, or_from}
use Rattle.std.proofs.lemmas.List.{get_or_past, length-map, take_all}
use Rattle.std.proofs.lemmas.List.Elements.{All-get_or}
use Rattle.std.proofs.lemmas.Map.Views.{any-filter_same}
use Rattle.wf_model.specs.Lists.{has}
use Rattle.wf_model.specs.Task.{Tuple}
use Rattle.wf_model.specs.Box.{has_at, is_alive, is_supported}
use Rattle.wf_base.specs.Set.Parts.{part_holds, part_values}
use Rattle.wf_base.specs.Set.Sets.{values_in}
use Rattle.wf_base.proofs.OfSet.Lemmas.{has-part_values, has_large, part_holds-or}
use Rattle.wf_report_check.specs.RowBlocks.{IsBlock, IsPlain, is_one_of}
use Rattle.wf_model.proofs.Lemmas.{has_at_place, equal_turned, and_turned}

-- ---- words as sets of rows

pub has-joined : (x y r : ℕ) → has (part_values (bit_or x y)) r ≡ (has (part_values x) r || has (part_values y) r)
has-joined x y r =
    ⊎_elim
    (λ (low : r < 64).
    has-part_values (bit_or x y) r low ∙ part_holds-or x y r
    ∙ sym (ap (λ b. b || has (part_values y) r) (has-part_values x r low) ∙ ap (λ b. part_holds x r || b) (has-part_values y r low)))
    (λ (high : 64 ≤ r).
    has_large (bit_or x y) r (λ low. absurd (omega (arith, low, high)))
    ∙ sym (ap (λ b. b || has (part_values y) r) (has_large x r (λ low. absurd (omega (arith, low, high)))) ∙ has_large y r (λ low. absurd (omega (arith, low, high)))))
    (cases_lt r 64)

-- a set of rows has one where one of the rows passes the test that it is about
any_at : (p : Tuple → Bool) (rows : List Tuple) (r : ℕ) → p [] ≡ false → p (get_or rows r []) ≡ true → list_any p rows ≡ true
any_at p [] r none h = absurd (let bad : ⊥ = cc in bad)
any_at p (x ∷ xs) zero none h = ap (λ b. b || list_any p xs) h
any_at p (x ∷ xs) (suc r) none h = ap (λ b. p x || b) (any_at p xs r none h) ∙ or_true (p x)
  where
    or_true : (b : Bool) → (b || true) ≡ true
    or_true true = refl
    or_true false = refl

none_at : (p : Tuple → Bool) (rows : List Tuple) → ((r : ℕ) → p (get_or rows r []) ≡ false) → list_any p rows ≡ false
none_at p [] h = refl
none_at p (x ∷ xs) h = or_from (p x) (list_any p xs) (h 0) (none_at p xs (λ r. h (suc r)))

pub some_row : (p : Tuple → Bool) (set : List ℕ) (rows : List Tuple) → p [] ≡ false → ((r : ℕ) → has set r ≡ p (get_or rows r [])) → not (length set == 0) ≡ list_any p rows
some_row p [] rows none same = sym (none_at p rows (λ r. sym (same r)))
some_row p (x ∷ xs) rows none same =
    ap not (ne_eqb (length (x ∷ xs)) 0 (λ e. absurd (omega (arith, e))))
    ∙ sym (any_at p rows x none (sym (same x) ∙ ap (λ b. b || has xs x) (eq-eqb x x refl)))

pub has_met : (rows others : List ℕ) (r : ℕ) → has (filter (has others) rows) r ≡ (has rows r && has others r)
has_met rows others r =
    any-filter_same (λ y. y == r) (has others) (has others r) (λ k e. ap (has others) (eqb-true k r e)) rows ∙ and_turned (has others r) (has rows r)

-- ---- values at a place

at_number : (row : Tuple) (value place : ℕ) → place < 4 → has_at row ((4 * value + place) % 4) ((4 * value + place) / 4) ≡ has_at row place value
at_number row value place small =
    ap (λ q. has_at row q ((4 * value + place) / 4)) (let first : (4 * value + place) % 4 ≡ place = omega (arith, small) in first)
    ∙ ap (has_at row place) (let second : (4 * value + place) / 4 ≡ value = omega (arith, small) in second)

pub word_is : (words : List ℕ) (rows : List Tuple) (value place r : ℕ) → place < 4 → IsBlock rows words → has (part_values (get_or words (4 * value + place) 0)) r ≡ has_at (get_or rows r []) place value
word_is words rows value place r small block = block (4 * value + place) r ∙ at_number (get_or rows r []) value place small

one_is : (words : List ℕ) (rows : List Tuple) (place r : ℕ) → place < 4 → IsBlock rows words → (values : List ℕ) → is_one_of words place values r ≡ list_any (λ v. has_at (get_or rows r []) place v) values
one_is words rows place r small block [] = refl
one_is words rows place r small block (v ∷ vs) =
    ap (λ b. b || is_one_of words place vs r) (word_is words rows v place r small block)
    ∙ ap (λ b. has_at (get_or rows r []) place v || b) (one_is words rows place r small block vs)

has_among : (row : Tuple) (place : ℕ) → place < length row → (values : List ℕ) → list_any (λ v. has_at row place v) values ≡ has values (get_or row place 0)
has_among row place inside [] = refl
has_among row place inside (v ∷ vs) =
    ap (λ b. b || list_any (λ u. has_at row place u) vs) (has_at_place row place v inside ∙ equal_turned (get_or row place 0) v)
    ∙ ap (λ b. (v == get_or row place 0) || b) (has_among row place inside vs)

has_narrow : (set : List ℕ) (x : ℕ) → x < 64 → has (filter (λ v. nat_lt v 64) set) x ≡ has set x
has_narrow set x small =
    any-filter_same (λ y. y == x) (λ v. nat_lt v 64) (nat_lt x 64) (λ k e. ap (λ v. nat_lt v 64) (eqb-true k x e)) set
    ∙ ap (λ b. b && has set x) (lt-ltb x 64 small)

-- ---- the places one after the other

and_assoc : (p q r : Bool) → ((p && q) && r) ≡ (p && (q && r))
and_assoc true q r = refl
and_assoc false q r = refl

place_more : (d : List ℕ) (box : List (List ℕ)) (row : Tuple) (k : ℕ) → k < length box → k < length row → pointwise has (take (suc k) box) (take (suc k) row) ≡ (pointwise has (take k box) (take k row) && has (get_or box k d) (get_or row k 0))
place_more d [] row k h g = absurd (omega (arith, h))
place_more d (s ∷ ss) [] k h g = absurd (omega (arith, g))
place_more d (s ∷ ss) (x ∷ xs) zero h g = and-true (has s x)
place_more d (s ∷ ss) (x ∷ xs) (suc k) h g =
    ap (λ b. has s x && b) (place_more d ss xs k (omega (arith, h)) (omega (arith, g)))
    ∙ sym (and_assoc (has s x) (pointwise has (take k ss) (take k xs)) (has (get_or ss k d) (get_or xs k 0)))

-- a row has the value at the place, and its first values in the sets of their places
abbrev pub passes : List (List ℕ) → ℕ → ℕ → ℕ → Tuple → Bool
passes box place value k row = has_at row place value && pointwise has (take k box) (take k row)

-- of the rows of every block with these words those are left that pass at the first places
abbrev pub AreLeft : List ℕ → List (List ℕ) → ℕ → ℕ → ℕ → ℕ → Type 0
AreLeft words sets place value k alive =
    (rows : List Tuple) → IsBlock rows words → All (IsPlain (length sets)) rows
    → (r : ℕ) → has (part_values alive) r ≡ passes (map values_in sets) place value k (get_or rows r [])

pub left_first : (words : List ℕ) (sets : List (List ℕ)) (place value alive : ℕ) → place < 4 → alive ≡ get_or words (4 * value + place) 0 → AreLeft words sets place value 0 alive
left_first words sets place value alive small is rows block plain r =
    ap (λ w. has (part_values w) r) is ∙ word_is words rows value place r small block ∙ sym (and-true (has_at (get_or rows r []) place value))

pub left_more : (words : List ℕ) (sets : List (List ℕ)) (place value k alive more : ℕ) → k < length sets → length sets ≤ 4
    → ((r : ℕ) → has (part_values more) r ≡ (has (part_values alive) r && is_one_of words k (filter (λ v. nat_lt v 64) (values_in (get_or sets k []))) r))
    → AreLeft words sets place value k alive → AreLeft words sets place value (k + 1) more
left_more words sets place value k alive more inside few step before rows block plain r =
    ⊎_elim here past (cases_lt r (length rows))
  where
    next : k + 1 ≡ suc k
    next = omega arith

    here : r < length rows → has (part_values more) r ≡ passes (map values_in sets) place value (k + 1) (get_or rows r [])
    here lt =
        let fits : IsPlain (length sets) (get_or rows r []) = All-get_or (IsPlain (length sets)) rows r [] lt plain in
        let there : k < length (get_or rows r []) = omega (arith, fits.sized, inside) in
        let known : get_or (map values_in sets) k (values_in []) ≡ values_in (get_or sets k []) = get_or-map values_in sets k [] in
        step r
        ∙ ap (λ b. b && is_one_of words k (filter (λ v. nat_lt v 64) (values_in (get_or sets k []))) r) (before rows block plain r)
        ∙ ap (λ b. passes (map values_in sets) place value k (get_or rows r []) && b)
        (one_is words rows k r (omega (arith, inside, few)) block (filter (λ v. nat_lt v 64) (values_in (get_or sets k [])))
        ∙ has_among (get_or rows r []) k there (filter (λ v. nat_lt v 64) (values_in (get_or sets k [])))
        ∙ has_narrow (values_in (get_or sets k [])) (get_or (get_or rows r []) k 0) (All-get_or (λ v. v < 64) (get_or rows r []) k 0 there fits.narrow)
        ∙ ap (λ s. has s (get_or (get_or rows r []) k 0)) (sym known))
        ∙ and_assoc (has_at (get_or rows r []) place value) (pointwise has (take k (map values_in sets)) (take k (get_or rows r []))) (has (get_or (map values_in sets) k (values_in [])) (get_or (get_or rows r []) k 0))
        ∙ ap (λ b. has_at (get_or rows r []) place value && b) (sym (place_more (values_in []) (map values_in sets) (get_or rows r []) k (omega (arith, inside, length-map sets values_in)) there))
        ∙ ap (λ n. passes (map values_in sets) place value n (get_or rows r [])) (sym next)

    past : length rows ≤ r → has (part_values more) r ≡ passes (map values_in sets) place value (k + 1) (get_or rows r [])
    past le =
        let none : (get_or rows r []) ≡ [] = get_or_past rows r [] le in
        step r
        ∙ ap (λ b. b && is_one_of words k (filter (λ v. nat_lt v 64) (values_in (get_or sets k []))) r) (before rows block plain r ∙ ap (passes (map values_in sets) place value k) none)
        ∙ sym (ap (passes (map values_in sets) place value (k + 1)) none)

pub left_last : (words : List ℕ) (sets : List (List ℕ)) (place value k alive : ℕ) → length sets ≤ k → AreLeft words sets place value k alive
    → (rows : List Tuple) → IsBlock rows words → All (IsPlain (length sets)) rows → not (length (part_values alive) == 0) ≡ is_supported rows (map values_in sets) place value
left_last words sets place value k alive all before rows block plain =
    some_row (λ row. has_at row place value && is_alive (map values_in sets) row) (part_values alive) rows refl (λ r. before rows block plain r ∙ ⊎_elim (here r) (past r) (cases_lt r (length rows)))
  where
    here : (r : ℕ) → r < length rows → passes (map values_in sets) place value k (get_or rows r []) ≡ (has_at (get_or rows r []) place value && is_alive (map values_in sets) (get_or rows r []))
    here r lt =
        let row = get_or rows r [] in
        let fits : IsPlain (length sets) row = All-get_or (IsPlain (length sets)) rows r [] lt plain in
        ap (λ b. has_at row place value && pointwise has b (take k row)) (take_all k (map values_in sets) (omega (arith, all, length-map sets values_in)))
        ∙ ap (λ l. has_at row place value && pointwise has (map values_in sets) l) (take_all k row (omega (arith, fits.sized, all)))

    past : (r : ℕ) → length rows ≤ r → passes (map values_in sets) place value k (get_or rows r []) ≡ (has_at (get_or rows r []) place value && is_alive (map values_in sets) (get_or rows r []))
    past r le =
        let none = get_or_past rows r [] le in
        ap (passes (map values_in sets) place value k) none ∙ sym (ap (λ row. has_at row place value && is_alive (map values_in sets) row) none)
