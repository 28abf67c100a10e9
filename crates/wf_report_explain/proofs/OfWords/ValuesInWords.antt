-- Values in words, item by item.
use Rattle.std.proofs.Common.{◌≡◌, ℕ, zero, suc, ◌+◌, ◌-◌, ◌<◌, ◌≤◌, ◌==◌, List, [], ◌∷◌, ◌++◌, length, get_or, take, drop, Bool, true, false, cond, nat_le, append_assoc, append-nil, refl, sym, ap, ◌∙◌, arith, length-drop, codes}
use Rattle.std.proofs.lemmas.List.{drop-drop, drop_all}
use Rattle.wf_report_explain.specs.declared.words.values.ValueRange.{ValueRange}
use Rattle.wf_report_explain.specs.Words.Text.{before_item, before_last, first_item, following, item_text, items_from, least_range, more_text, most_items, others_in, others_text, values_in_items}
use Rattle.wf_report_explain.proofs.OfWords.ListsInWords.{rest_of}

-- ---- values that follow each other

pub few_follow : (a : ℕ) (later : List ℕ) → following a later ≤ length later
few_follow a [] = omega arith
few_follow a (b ∷ bs) = by (suc a == b) (few_follow b bs)
  where
    by : (t : Bool) → following b bs ≤ length bs → cond t (suc (following b bs)) 0 ≤ suc (length bs)
    by true few = omega (arith, few)
    by false few = omega arith

-- ---- the first item

pub item_within : (a : ℕ) (later : List ℕ) → others_in (first_item a later) ≤ length later
item_within a later = by (nat_le least_range (suc (following a later)))
  where
    by : (t : Bool) → cond t (a + following a later) a - a ≤ length later
    by true = omega (arith, few_follow a later)
    by false = omega arith

-- ---- items

-- values that are told already
pub told_before : (told : ℕ) (values : List ℕ) → items_from told values ≡ items_from 0 (drop told values)
told_before zero values = refl
told_before (suc told) [] = refl
told_before (suc told) (a ∷ later) = told_before told later

-- the first item, and those behind it
pub next_item : (values : List ℕ) → 0 < length values → items_from 0 values ≡ first_item (get_or values 0 0) (drop 1 values) ∷ items_from 0 (drop (suc (others_in (first_item (get_or values 0 0) (drop 1 values)))) values)
next_item [] some = absurd (omega (arith, some))
next_item (a ∷ later) some = ap (λ items. first_item a later ∷ items) (told_before (others_in (first_item a later)) later)

-- items have all values that are not told
pub all_values : (told : ℕ) (values : List ℕ) → values_in_items (items_from told values) ≡ length values - told
all_values told [] = omega arith
all_values (suc told) (a ∷ later) = let rest = all_values told later in omega (arith, rest)
all_values zero (a ∷ later) =
    let rest = all_values (others_in (first_item a later)) later in
    omega (arith, rest, item_within a later)

-- ---- what is to come

-- what is to come of a list once the items before this place are told, where so many more are told
abbrev pub items_left : ℕ → ℕ → List ValueRange → List ℕ
items_left k place items = rest_of item_text (codes ", ") (before_last (values_in_items (drop k items))) place (take k items) ++ more_text (values_in_items (drop k items))

pub no_item : (k place : ℕ) → items_left k place [] ≡ []
no_item zero zero = refl
no_item zero (suc place) = refl
no_item (suc k) zero = refl
no_item (suc k) (suc place) = refl

pub no_more_items : (place : ℕ) (items : List ValueRange) → items_left 0 place items ≡ more_text (values_in_items items)
no_more_items zero items = refl
no_more_items (suc place) items = refl

-- one item, where these values are behind it
pub one_item : (k place : ℕ) (item : ValueRange) (behind : List ℕ) → items_left (suc k) place (item ∷ items_from 0 behind) ≡ before_item place (length behind) ++ (item_text item ++ items_left k (suc place) (items_from 0 behind))
one_item k zero item behind =
    let items = items_from 0 behind in let more = values_in_items (drop k items) in
    append_assoc (item_text item) (others_text item_text (codes ", ") (before_last more) (take k items)) (more_text more)
one_item zero (suc place) item [] = append_assoc (codes " or ") (item_text item) []
one_item (suc k) (suc place) item [] = append_assoc (codes " or ") (item_text item) []
one_item zero (suc place) item (b ∷ bs) = append_assoc (codes ", ") (item_text item) (more_text (values_in_items (items_from 0 (b ∷ bs))))
one_item (suc k) (suc place) item (b ∷ bs) =
    let rest = items_from (others_in (first_item b bs)) bs in let more = values_in_items (drop k rest) in
    let others = others_text item_text (codes ", ") (before_last more) (first_item b bs ∷ take k rest) in
    append_assoc (codes ", ") (item_text item ++ others) (more_text more)
    ∙ ap (λ xs. codes ", " ++ xs) (append_assoc (item_text item) others (more_text more))

-- ---- a list of values

-- how far it is told
pub record AreTold (values : List ℕ) (place told : ℕ) (text whole : List ℕ) : Type 0 where
  pub within : told ≤ length values
  pub said : text ++ items_left (most_items - place) place (items_from 0 (drop told values)) ≡ whole

pub one_more_item : (values : List ℕ) (place told told' : ℕ) (item : ValueRange) (text text' whole : List ℕ) → AreTold values place told text whole → place < most_items → told < length values
    → item ≡ first_item (get_or (drop told values) 0 0) (drop 1 (drop told values)) → told' ≡ told + suc (others_in item) → text' ≡ text ++ (before_item place (length values - told') ++ item_text item)
    → AreTold values (place + 1) told' text' whole
one_more_item values place told told' item text text' whole h low inside is next says =
    let ys = drop told values in let long = length-drop told values in
    let item' = first_item (get_or ys 0 0) (drop 1 ys) in
    let some : 0 < length ys = omega (arith, long, inside) in
    let behind = drop (suc (others_in item)) ys in
    let same : behind ≡ drop told' values = drop-drop (suc (others_in item)) told values ∙ ap (λ n. drop n values) (sym next) in
    let count : length behind ≡ length values - told' = ap length same ∙ length-drop told' values in
    let k = most_items - (place + 1) in
    let left : most_items - place ≡ suc k = omega (arith, low) in
    let later : suc place ≡ place + 1 = omega arith in
    let items : items_from 0 ys ≡ item ∷ items_from 0 behind = next_item ys some ∙ (λ i. sym is i ∷ items_from 0 (drop (suc (others_in (sym is i))) ys)) in
    record {
      within = by_within ys long some (ap others_in is);
      said =
          (λ i. says i ++ items_left k (place + 1) (items_from 0 (sym same i)))
          ∙ append_assoc text (before_item place (length values - told') ++ item_text item) (items_left k (place + 1) (items_from 0 behind))
          ∙ ap (λ xs. text ++ xs) (append_assoc (before_item place (length values - told')) (item_text item) (items_left k (place + 1) (items_from 0 behind)))
          ∙ (λ i. text ++ (before_item place (sym count i) ++ (item_text item ++ items_left k (sym later i) (items_from 0 behind))))
          ∙ ap (λ xs. text ++ xs) (sym (one_item k place item behind))
          ∙ (λ i. text ++ items_left (sym left i) place (sym items i))
          ∙ h.said;
    }
  where
    by_within : (ys : List ℕ) → length ys ≡ length values - told → 0 < length ys → others_in item ≡ others_in (first_item (get_or ys 0 0) (drop 1 ys)) → told' ≤ length values
    by_within ys long some same =
        let few = item_within (get_or ys 0 0) (drop 1 ys) in
        omega (arith, next, inside, long, same, few, length-drop 1 ys, some)

pub all_told : (values : List ℕ) (place told : ℕ) (text whole : List ℕ) → AreTold values place told text whole → length values ≤ told → text ≡ whole
all_told values place told text whole h past =
    sym (append-nil text)
    ∙ ap (λ xs. text ++ xs) (sym (no_item (most_items - place) place))
    ∙ ap (λ ys. text ++ items_left (most_items - place) place (items_from 0 ys)) (sym (drop_all told values past))
    ∙ h.said

pub some_told : (values : List ℕ) (place told : ℕ) (text text' whole : List ℕ) → AreTold values place told text whole → most_items ≤ place → text' ≡ text ++ more_text (length values - told) → text' ≡ whole
some_told values place told text text' whole h past says =
    let none : most_items - place ≡ 0 = omega (arith, past) in
    let items = items_from 0 (drop told values) in
    let count : values_in_items items ≡ length values - told = all_values 0 (drop told values) ∙ omega (arith, length-drop told values) in
    says
    ∙ ap (λ n. text ++ more_text n) (sym count)
    ∙ ap (λ xs. text ++ xs) (sym (no_more_items place items))
    ∙ ap (λ n. text ++ items_left n place items) (sym none)
    ∙ h.said
