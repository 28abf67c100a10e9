-- Rows that are gone through one by one: what a step adds, and what is found in the end.
use Rattle.std.proofs.Common.{◌≡◌, ℕ, zero, suc, ◌+◌, ◌<◌, ◌≤◌, ◌^◌, List, [], ◌∷◌, length, get_or, cond, Bool, true, false, ◌&&◌, refl, sym, ◌∙◌, ap, arith, subst, ⊎_elim}
use Rattle.std.specs.Prelude.{◌||◌, count_by, slice_index_or}
use Rattle.std.specs.List.{All, list_any, list_all}
use Rattle.std.proofs.lemmas.Bool.{cases_lt, eq-eqb, ltb-true, and_parts}
use Rattle.std.proofs.lemmas.List.{get_or_past}
use Rattle.std.proofs.lemmas.List.Elements.{All-head, All-tail, All-nil, All-cons}
use Rattle.std.proofs.lemmas.List.Sums.{sum_by-cons}
use Rattle.wf_model.specs.Lists.{has}
use Rattle.wf_model.specs.Task.{Tuple}
use Rattle.wf_model.specs.Box.{has_at, is_alive, is_supported}
use Rattle.wf_base.specs.Set.Sets.{values_in}
use Rattle.wf_lane.specs.Table.{AreNarrow, HasSupported, Table, sets_of}
use Rattle.wf_lane.specs.Wide.{AreKept, AreSupported, HaveMore, is_below, lives}
use Rattle.wf_lane.proofs.RevisedRows.{both_ways, nothing_in}

-- ---- which table is narrow

narrow_row : (row : Tuple) → list_all is_below row ≡ true → All (λ x. x < 64) row
narrow_row [] h = All-nil (λ x. x < 64)
narrow_row (x ∷ row) h =
    let k = and_parts (is_below x) (list_all is_below row) h in
    All-cons (λ x. x < 64) x row (ltb-true x 64 k.0) (narrow_row row k.1)

pub narrow_rows : (rows : List Tuple) → list_all (list_all is_below) rows ≡ true → AreNarrow rows
narrow_rows [] h = All-nil (λ (row : List ℕ). All (λ x. x < 64) row)
narrow_rows (row ∷ rows) h =
    let k = and_parts (list_all is_below row) (list_all (list_all is_below) rows) h in
    All-cons (λ (row : List ℕ). All (λ x. x < 64) row) row rows (narrow_row row k.0) (narrow_rows rows k.1)

-- ---- one row more

pub no_value_past : (row : Tuple) (place v : ℕ) → length row ≤ place → has_at row place v ≡ false
no_value_past [] place v past = refl
no_value_past (x ∷ row) zero v past = absurd (omega (arith, past))
no_value_past (x ∷ row) (suc place) v past = no_value_past row place v (omega (arith, past))

-- a row that is dead, or has no value there, adds none
pub none_added : (had there alive : Bool) → (there && alive) ≡ false → had ≡ (had || (there && alive))
none_added true there alive e = refl
none_added false there alive e = sym e

pub each_set : (sets more : List (List ℕ)) (row : Tuple) (alive : Bool) → length sets ≡ 4 → length more ≡ 4 → length row ≤ 4
    → ((k : ℕ) → k < 4 → (v : ℕ) → has (values_in (get_or more k [])) v ≡ (has (values_in (get_or sets k [])) v || (has_at row k v && alive))) → HaveMore sets row alive more
each_set sets more row alive four four' narrow same place v =
    ⊎_elim (λ (lt : place < 4). same place lt v)
    (λ (past : 4 ≤ place).
    let none : has_at row place v ≡ false = no_value_past row place v (omega (arith, past, narrow)) in
    ap (λ s. has (values_in s) v) (get_or_past more place [] (omega (arith, four', past)) ∙ sym (get_or_past sets place [] (omega (arith, four, past))))
    ∙ none_added (has (values_in (get_or sets place [])) v) (has_at row place v) alive (ap (λ b. b && alive) none))
    (cases_lt place 4)

-- ---- all rows

lives_is : (width : ℕ) (sets : List (List ℕ)) (row : Tuple) → length row ≡ width → lives sets row ≡ is_alive (sets_of width sets) row
lives_is width sets row e = ap (λ n. is_alive (sets_of n sets) row) e

supported_is : (width : ℕ) (sets : List (List ℕ)) (rows : List Tuple) (place v : ℕ) → All (λ row. length row ≡ width) rows → list_any (λ row. has_at row place v && lives sets row) rows ≡ is_supported rows (sets_of width sets) place v
supported_is width sets [] place v long = refl
supported_is width sets (row ∷ rows) place v long =
    ap (λ b. (has_at row place v && b) || list_any (λ row. has_at row place v && lives sets row) rows) (lives_is width sets row (All-head (λ row. length row ≡ width) row rows long))
    ∙ ap (λ b. (has_at row place v && is_alive (sets_of width sets) row) || b) (supported_is width sets rows place v (All-tail (λ row. length row ≡ width) row rows long))

count_is : (width : ℕ) (sets : List (List ℕ)) (rows : List Tuple) → All (λ row. length row ≡ width) rows → count_by (lives sets) rows ≡ count_by (is_alive (sets_of width sets)) rows
count_is width sets [] long = refl
count_is width sets (row ∷ rows) long =
    sum_by-cons (λ r. cond (lives sets r) 1 0) row rows
    ∙ ap (λ b. cond b 1 0 + count_by (lives sets) rows) (lives_is width sets row (All-head (λ row. length row ≡ width) row rows long))
    ∙ ap (λ n. cond (is_alive (sets_of width sets) row) 1 0 + n) (count_is width sets rows (All-tail (λ row. length row ≡ width) row rows long))
    ∙ sym (sum_by-cons (λ r. cond (is_alive (sets_of width sets) r) 1 0) row rows)

none_past : (width : ℕ) (sets : List (List ℕ)) (rows : List Tuple) (place v : ℕ) → width ≤ place → All (λ row. length row ≡ width) rows → list_any (λ row. has_at row place v && lives sets row) rows ≡ false
none_past width sets [] place v past long = refl
none_past width sets (row ∷ rows) place v past long =
    let long_is : length row ≡ width = All-head (λ row. length row ≡ width) row rows long in
    ap (λ b. (b && lives sets row) || list_any (λ row. has_at row place v && lives sets row) rows) (no_value_past row place v (omega (arith, long_is, past)))
    ∙ none_past width sets rows place v past (All-tail (λ row. length row ≡ width) row rows long)

nothing_there : (xs : List ℕ) → ((v : ℕ) → has xs v ≡ false) → xs ≡ []
nothing_there [] h = refl
nothing_there (x ∷ xs) h = absurd (let no : true ≡ false = sym (ap (λ b. b || has xs x) (eq-eqb x x refl)) ∙ h x in cc)

-- what is found of all rows is what the table supports
module _ (width : ℕ) (rows : List Tuple) (candidates masks : List (List ℕ)) (kept : AreKept width rows) (found : AreSupported masks rows candidates) where
  pub wide_supported : HasSupported masks (record { width = width; rows = rows }) candidates
  wide_supported place v in_width = both_ways _ _ (found place v ∙ supported_is width candidates rows place v kept.long)

  pub wide_rest : (place : ℕ) → width ≤ place → values_in (slice_index_or masks place []) ≡ []
  wide_rest place past = nothing_there (values_in (slice_index_or masks place [])) (λ v. found place v ∙ none_past width candidates rows place v past kept.long)

pub wide_alive : (width : ℕ) (rows : List Tuple) (candidates : List (List ℕ)) (alive : ℕ) → AreKept width rows → alive ≡ count_by (lives candidates) rows → alive ≡ count_by (is_alive (sets_of width candidates)) rows
wide_alive width rows candidates alive kept e = e ∙ count_is width candidates rows kept.long

-- sets of no value have none at any place
pub none_in_four : (a b c d : List ℕ) → values_in a ≡ [] → values_in b ≡ [] → values_in c ≡ [] → values_in d ≡ [] → (place v : ℕ) → has (values_in (slice_index_or (a ∷ b ∷ c ∷ d ∷ []) place [])) v ≡ false
none_in_four a b c d e f g h zero v = ap (λ vs. has vs v) e
none_in_four a b c d e f g h (suc zero) v = ap (λ vs. has vs v) f
none_in_four a b c d e f g h (suc (suc zero)) v = ap (λ vs. has vs v) g
none_in_four a b c d e f g h (suc (suc (suc zero))) v = ap (λ vs. has vs v) h
none_in_four a b c d e f g h (suc (suc (suc (suc place)))) v = ap (λ vs. has vs v) nothing_in

-- ---- rows that are kept as they are
pub kept_wide : (width : ℕ) (rows kept : List Tuple) → kept ≡ rows → 1 ≤ width → width ≤ 4 → length rows < 2 ^ 32 → All (λ row. length row ≡ width) rows → AreKept width kept
kept_wide width rows kept same some narrow few long =
    subst (AreKept width) (sym same) (record { some = some; narrow = narrow; few = few; long = long })

pub wide_table : (width : ℕ) (rows kept : List Tuple) → kept ≡ rows → ◌≡◌ {A = Table} (record { width = width; rows = kept }) (record { width = width; rows = rows })
wide_table width rows kept same = ap (λ (rs : List Tuple). (let t : Table = record { width = width; rows = rs } in t)) same
