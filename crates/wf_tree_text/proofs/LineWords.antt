-- A line by its name and its numbers: what is written is read, and what is read was written.
use Rattle.std.proofs.Common.{◌≡◌, ℕ, ◌<◌, ◌≤◌, ◌&&◌, nat_le, nat_lt, List, [], ◌∷◌, length, Bool, true, false, cond, Some, None, codes, refl, sym, ap, subst, arith, leb-true}
use Rattle.std.specs.List.{AllByRecursion, list_all}
use Rattle.std.specs.Cmp.Lexicographic as std
use Rattle.std.proofs.lemmas.Bool.{and_parts, le-leb, lt-ltb, ltb-true}
use Rattle.std.proofs.lemmas.List.Elements.{All-from_recursion, recursion_from_All}
use Rattle.wf_model.specs.Limits.{most_number}
use Rattle.wf_model.specs.Report.{line, same_text}
use Rattle.wf_tree_model.specs.Balance.{Multiplier}
use Rattle.wf_tree_model.specs.Trees.{Move}
use Rattle.wf_report.specs.Reading.{lacks}
use Rattle.wf_report.proofs.Lemmas.{when_true}
use Rattle.wf_tree_text.specs.Laws.{IsMoveWithin, IsMultiplierWithin}
use Rattle.wf_tree_text.specs.Text.{TextLine, are_others, are_sheets, balance_at, balance_of, case_at, case_of, cover_at, cover_of, goes_over, is_cover, line_of_numbers, line_text, move_at, move_of, multiplier_at, multiplier_of, name_of, numbers_of, split_at, split_of}

-- each number is one that the line may hold
abbrev pub IsLineWithin : TextLine → Type 0
IsLineWithin (case_at i) = i ≤ most_number
IsLineWithin (split_at i) = i ≤ most_number
IsLineWithin (cover_at i d c) = (i ≤ most_number) × (0 < d) × (d ≤ 255) × (c ≤ 255)
IsLineWithin (move_at x) = (length x.sheets ≤ 255) × IsMoveWithin (length x.sheets) x
IsLineWithin (balance_at m s) = (m ≤ most_number) × (s ≤ most_number)
IsLineWithin (multiplier_at x) = IsMultiplierWithin x

-- ---- tests

both : (a b : Bool) → a ≡ true → b ≡ true → (a && b) ≡ true
both true b h k = k
both false b h k = absurd (let bad : ⊥ = cc in bad)

all_small : (n : ℕ) (xs : List ℕ) → AllByRecursion (λ x. x < n) xs → list_all (λ x. nat_lt x n) xs ≡ true
all_small n [] h = refl
all_small n (x ∷ xs) h = both (nat_lt x n) (list_all (λ x. nat_lt x n) xs) (lt-ltb x n h.0) (all_small n xs h.1)

small_all : (n : ℕ) (xs : List ℕ) → list_all (λ x. nat_lt x n) xs ≡ true → AllByRecursion (λ x. x < n) xs
small_all n [] h = tt
small_all n (x ∷ xs) h =
    let parts = and_parts (nat_lt x n) (list_all (λ x. nat_lt x n) xs) h in
    (ltb-true x n parts.0, small_all n xs parts.1)

all_low : (n : ℕ) (xs : List ℕ) → AllByRecursion (λ x. x ≤ n) xs → list_all (λ x. nat_le x n) xs ≡ true
all_low n [] h = refl
all_low n (x ∷ xs) h = both (nat_le x n) (list_all (λ x. nat_le x n) xs) (le-leb x n h.0) (all_low n xs h.1)

low_all : (n : ℕ) (xs : List ℕ) → list_all (λ x. nat_le x n) xs ≡ true → AllByRecursion (λ x. x ≤ n) xs
low_all n [] h = tt
low_all n (x ∷ xs) h =
    let parts = and_parts (nat_le x n) (list_all (λ x. nat_le x n) xs) h in
    (leb-true x n parts.0, low_all n xs parts.1)

lower : (m n : ℕ) (xs : List ℕ) → m ≤ n → AllByRecursion (λ x. x ≤ m) xs → AllByRecursion (λ x. x ≤ n) xs
lower m n [] le h = tt
lower m n (x ∷ xs) le h = (omega (arith, le, h.0), lower m n xs le h.1)

below : (m n : ℕ) (xs : List ℕ) → m ≤ n → AllByRecursion (λ x. x < m) xs → AllByRecursion (λ x. x ≤ n) xs
below m n [] le h = tt
below m n (x ∷ xs) le h = (omega (arith, le, h.0), below m n xs le h.1)

-- ---- what is written

pub numbers_low : (x : TextLine) → IsLineWithin x → AllByRecursion (λ n. n ≤ most_number) (numbers_of x)
numbers_low (case_at i) h = (h, tt)
numbers_low (split_at i) h = (h, tt)
numbers_low (cover_at i d c) h = let few = h.2 in let corner = h.3 in (h.0, (omega (arith, few), (omega (arith, corner), tt)))
numbers_low (move_at x) h =
    let m = h.1 in
    let apart = m.apart in
    let places = m.places in
    let value = m.value in
    let other = m.other in
    let sheets = below (length x.sheets) most_number x.sheets (omega (arith, h.0)) (recursion_from_All (λ sheet. sheet < length x.sheets) x.sheets m.sheets) in
    (omega (arith, apart, places), (omega (arith, value), (omega (arith, places), (omega (arith, other), sheets))))
numbers_low (balance_at m s) h = (h.0, (h.1, tt))
numbers_low (multiplier_at x) h =
    let place = h.place in
    (h.weight, (h.simplex, (omega (arith, place), lower 255 most_number x.others (omega arith) (recursion_from_All (λ value. value ≤ 255) x.others h.values))))

pub plain_name : (x : TextLine) → (lacks 10 (name_of x) ≡ true) × (lacks 32 (name_of x) ≡ true)
plain_name (case_at i) = (refl, refl)
plain_name (split_at i) = (refl, refl)
plain_name (cover_at i d c) = (refl, refl)
plain_name (move_at x) = (refl, refl)
plain_name (balance_at m s) = (refl, refl)
plain_name (multiplier_at x) = (refl, refl)

pub not_end : (x : TextLine) → same_text (line_text x) (line (codes "end") []) ≡ false
not_end (case_at i) = refl
not_end (split_at i) = refl
not_end (cover_at i d c) = refl
not_end (move_at x) = refl
not_end (balance_at m s) = refl
not_end (multiplier_at x) = refl

pub line_read : (x : TextLine) → IsLineWithin x → line_of_numbers (name_of x) (numbers_of x) ≡ Some x
line_read (case_at i) h = refl
line_read (split_at i) h = refl
line_read (cover_at i d c) h =
    ap (λ t. cond t (Some (cover_at i d c)) None) (both (nat_lt 0 d) (nat_le d 255 && nat_le c 255) (lt-ltb 0 d h.1) (both (nat_le d 255) (nat_le c 255) (le-leb d 255 h.2) (le-leb c 255 h.3)))
line_read (move_at x) h =
    let m = h.1 in
    let places = both (nat_lt x.first x.second) (nat_lt x.second 4) (lt-ltb x.first x.second m.apart) (lt-ltb x.second 4 m.places) in
    let values = both (nat_le x.value 255) (nat_le x.other 255) (le-leb x.value 255 m.value) (le-leb x.other 255 m.other) in
    let over : goes_over x.first x.value x.second x.other ≡ true = both (nat_lt x.first x.second && nat_lt x.second 4) (nat_le x.value 255 && nat_le x.other 255) places values in
    let sheets : are_sheets x.sheets ≡ true = both (nat_le (length x.sheets) 255) (list_all (λ sheet. nat_lt sheet (length x.sheets)) x.sheets) (le-leb (length x.sheets) 255 h.0) (all_small (length x.sheets) x.sheets (recursion_from_All (λ sheet. sheet < length x.sheets) x.sheets m.sheets)) in
    ap (λ t. cond t (Some (move_at x)) None) (both (goes_over x.first x.value x.second x.other) (are_sheets x.sheets) over sheets)
line_read (balance_at m s) h = refl
line_read (multiplier_at x) h =
    let others : are_others x.others ≡ true = both (nat_lt (length x.others) 4) (list_all (λ value. nat_le value 255) x.others) (lt-ltb (length x.others) 4 h.few) (all_low 255 x.others (recursion_from_All (λ value. value ≤ 255) x.others h.values)) in
    ap (λ t. cond t (Some (multiplier_at x)) None) (both (nat_lt x.place 4) (are_others x.others) (lt-ltb x.place 4 h.place) others)

-- ---- what is read

abbrev pub IsSaid : List ℕ → List ℕ → TextLine → Type 0
IsSaid name ns x = (name ≡ name_of x) × (ns ≡ numbers_of x) × IsLineWithin x

abbrev AreLow : List ℕ → Type 0
AreLow ns = AllByRecursion (λ n. n ≤ most_number) ns

case_said : (name ns : List ℕ) (x : TextLine) → AreLow ns → same_text name (codes "case") ≡ true → case_of ns ≡ Some x → IsSaid name ns x
case_said name [] x low is h = absurd (let bad : ⊥ = cc in bad)
case_said name (i ∷ []) x low is h = let same : case_at i ≡ x = cc in subst (IsSaid name (i ∷ [])) same (std.same_text name (codes "case") (sym is), refl, low.0)
case_said name (i ∷ n ∷ ns) x low is h = absurd (let bad : ⊥ = cc in bad)

split_said : (name ns : List ℕ) (x : TextLine) → AreLow ns → same_text name (codes "split") ≡ true → split_of ns ≡ Some x → IsSaid name ns x
split_said name [] x low is h = absurd (let bad : ⊥ = cc in bad)
split_said name (i ∷ []) x low is h = let same : split_at i ≡ x = cc in subst (IsSaid name (i ∷ [])) same (std.same_text name (codes "split") (sym is), refl, low.0)
split_said name (i ∷ n ∷ ns) x low is h = absurd (let bad : ⊥ = cc in bad)

cover_said : (name ns : List ℕ) (x : TextLine) → AreLow ns → same_text name (codes "cover") ≡ true → cover_of ns ≡ Some x → IsSaid name ns x
cover_said name [] x low is h = absurd (let bad : ⊥ = cc in bad)
cover_said name (i ∷ []) x low is h = absurd (let bad : ⊥ = cc in bad)
cover_said name (i ∷ d ∷ []) x low is h = absurd (let bad : ⊥ = cc in bad)
cover_said name (i ∷ d ∷ c ∷ n ∷ ns) x low is h = absurd (let bad : ⊥ = cc in bad)
cover_said name (i ∷ d ∷ c ∷ []) x low is h =
    let parts = when_true (is_cover d c) (Some (cover_at i d c)) x h in
    let same : cover_at i d c ≡ x = let k = parts.1 in cc in
    let tests = and_parts (nat_lt 0 d) (nat_le d 255 && nat_le c 255) parts.0 in
    let most = and_parts (nat_le d 255) (nat_le c 255) tests.1 in
    subst (IsSaid name (i ∷ d ∷ c ∷ [])) same (std.same_text name (codes "cover") (sym is), refl, (low.0, ltb-true 0 d tests.0, leb-true d 255 most.0, leb-true c 255 most.1))

balance_said : (name ns : List ℕ) (x : TextLine) → AreLow ns → same_text name (codes "balance") ≡ true → balance_of ns ≡ Some x → IsSaid name ns x
balance_said name [] x low is h = absurd (let bad : ⊥ = cc in bad)
balance_said name (m ∷ []) x low is h = absurd (let bad : ⊥ = cc in bad)
balance_said name (m ∷ s ∷ []) x low is h =
    let same : balance_at m s ≡ x = cc in
    subst (IsSaid name (m ∷ s ∷ [])) same (std.same_text name (codes "balance") (sym is), refl, (low.0, low.1.0))
balance_said name (m ∷ s ∷ n ∷ ns) x low is h = absurd (let bad : ⊥ = cc in bad)

move_said : (name ns : List ℕ) (x : TextLine) → AreLow ns → same_text name (codes "p") ≡ true → move_of ns ≡ Some x → IsSaid name ns x
move_said name [] x low is h = absurd (let bad : ⊥ = cc in bad)
move_said name (i ∷ []) x low is h = absurd (let bad : ⊥ = cc in bad)
move_said name (i ∷ a ∷ []) x low is h = absurd (let bad : ⊥ = cc in bad)
move_said name (i ∷ a ∷ j ∷ []) x low is h = absurd (let bad : ⊥ = cc in bad)
move_said name (i ∷ a ∷ j ∷ b ∷ sheets) x low is h =
    let move : Move = record { first = i; value = a; second = j; other = b; sheets = sheets } in
    let parts = when_true (goes_over i a j b && are_sheets sheets) (Some (move_at move)) x h in
    let same : move_at move ≡ x = let k = parts.1 in cc in
    let tests = and_parts (goes_over i a j b) (are_sheets sheets) parts.0 in
    let over = and_parts (nat_lt i j && nat_lt j 4) (nat_le a 255 && nat_le b 255) tests.0 in
    let places = and_parts (nat_lt i j) (nat_lt j 4) over.0 in
    let values = and_parts (nat_le a 255) (nat_le b 255) over.1 in
    let long = and_parts (nat_le (length sheets) 255) (list_all (λ sheet. nat_lt sheet (length sheets)) sheets) tests.1 in
    let within : IsMoveWithin (length sheets) move =
    record {
      apart = ltb-true i j places.0;
      places = ltb-true j 4 places.1;
      value = leb-true a 255 values.0;
      other = leb-true b 255 values.1;
      long = refl;
      sheets = All-from_recursion (λ sheet. sheet < length sheets) sheets (small_all (length sheets) sheets long.1);
    } in
    subst (IsSaid name (i ∷ a ∷ j ∷ b ∷ sheets)) same (std.same_text name (codes "p") (sym is), refl, (leb-true (length sheets) 255 long.0, within))

multiplier_said : (name ns : List ℕ) (x : TextLine) → AreLow ns → same_text name (codes "m") ≡ true → multiplier_of ns ≡ Some x → IsSaid name ns x
multiplier_said name [] x low is h = absurd (let bad : ⊥ = cc in bad)
multiplier_said name (w ∷ []) x low is h = absurd (let bad : ⊥ = cc in bad)
multiplier_said name (w ∷ s ∷ []) x low is h = absurd (let bad : ⊥ = cc in bad)
multiplier_said name (w ∷ s ∷ p ∷ others) x low is h =
    let multiplier : Multiplier = record { simplex = s; place = p; others = others; weight = w } in
    let parts = when_true (nat_lt p 4 && are_others others) (Some (multiplier_at multiplier)) x h in
    let same : multiplier_at multiplier ≡ x = let k = parts.1 in cc in
    let tests = and_parts (nat_lt p 4) (are_others others) parts.0 in
    let few = and_parts (nat_lt (length others) 4) (list_all (λ value. nat_le value 255) others) tests.1 in
    let within : IsMultiplierWithin multiplier =
    record {
      weight = low.0;
      simplex = low.1.0;
      place = ltb-true p 4 tests.0;
      few = ltb-true (length others) 4 few.0;
      values = All-from_recursion (λ value. value ≤ 255) others (low_all 255 others few.1);
    } in
    subst (IsSaid name (w ∷ s ∷ p ∷ others)) same (std.same_text name (codes "m") (sym is), refl, within)

pub line_said : (name ns : List ℕ) (x : TextLine) → AllByRecursion (λ n. n ≤ most_number) ns → line_of_numbers name ns ≡ Some x → IsSaid name ns x
line_said name ns x low h =
    by_names (same_text name (codes "m")) (same_text name (codes "p")) (same_text name (codes "case")) (same_text name (codes "split")) (same_text name (codes "cover")) (same_text name (codes "balance")) refl refl refl refl refl refl h
  where
    by_names : (m p a b d e : Bool) → same_text name (codes "m") ≡ m → same_text name (codes "p") ≡ p → same_text name (codes "case") ≡ a → same_text name (codes "split") ≡ b
        → same_text name (codes "cover") ≡ d → same_text name (codes "balance") ≡ e
        → cond m (multiplier_of ns) (cond p (move_of ns) (cond a (case_of ns) (cond b (split_of ns) (cond d (cover_of ns) (cond e (balance_of ns) None))))) ≡ Some x → IsSaid name ns x
    by_names true p a b d e is_m is_p is_a is_b is_d is_e h = multiplier_said name ns x low is_m h
    by_names false true a b d e is_m is_p is_a is_b is_d is_e h = move_said name ns x low is_p h
    by_names false false true b d e is_m is_p is_a is_b is_d is_e h = case_said name ns x low is_a h
    by_names false false false true d e is_m is_p is_a is_b is_d is_e h = split_said name ns x low is_b h
    by_names false false false false true e is_m is_p is_a is_b is_d is_e h = cover_said name ns x low is_d h
    by_names false false false false false true is_m is_p is_a is_b is_d is_e h = balance_said name ns x low is_e h
    by_names false false false false false false is_m is_p is_a is_b is_d is_e h = absurd (let bad : ⊥ = cc in bad)
