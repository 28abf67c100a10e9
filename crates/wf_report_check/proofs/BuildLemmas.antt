-- Blocks as they are built, row by row and value by value.
use Rattle.std.proofs.Common.{◌≡◌, ℕ, ◌+◌, ◌/◌, ◌%◌, ◌<◌, ◌≤◌, ◌==◌, List, [], get_or, length, take, replicate, Bool, true, false, ◌&&◌, refl, sym, ◌∙◌, ap, arith, ⊎_elim}
use Rattle.std.specs.Prelude.{◌||◌}
use Rattle.std.proofs.lemmas.Bool.{cases_eq, cases_lt, eq-eqb, ne_eqb}
use Rattle.std.proofs.lemmas.List.{get_or-replicate, get_or-take, get_or_default, get_or_past, length-replicate, length-take}
use Rattle.wf_model.specs.Lists.{has}
use Rattle.wf_model.specs.Task.{Tuple}
use Rattle.wf_model.specs.Box.{has_at}
use Rattle.wf_base.specs.Set.Parts.{part_values}
use Rattle.wf_base.proofs.OfSet.Lemmas.{values_of_nothing}
use Rattle.wf_report_check.specs.RowBlocks.{IsBlock}
use Rattle.wf_model.proofs.Lemmas.{or_none}

-- ---- the first values of a row

-- ---- a row is added

-- the words have the row of this number for its first values, and what they had
abbrev pub AreAdded : Tuple → ℕ → List ℕ → List ℕ → ℕ → Type 0
AreAdded row number old now k = (i r : ℕ) → has (part_values (get_or now i 0)) r ≡ (has (part_values (get_or old i 0)) r || (number == r && has_at (take k row) (i % 4) (i / 4)))

no_more : (b c : Bool) → b ≡ (b || (c && false))
no_more true c = refl
no_more false true = refl
no_more false false = refl

pub none_added : (row : Tuple) (number : ℕ) (words : List ℕ) → AreAdded row number words words 0
none_added row number words i r = no_more (has (part_values (get_or words i 0)) r) (number == r)

once_more : (b c d : Bool) → ((b || (c && d)) || c) ≡ (b || (c && true))
once_more true c d = refl
once_more false true true = refl
once_more false true false = refl
once_more false false d = refl

-- ---- a block is built

pub no_rows : (n : ℕ) (words : List ℕ) (rows : List Tuple) → words ≡ replicate n 0 → IsBlock (take 0 rows) words
no_rows n words rows is i r =
    ap (λ ws. has (part_values (get_or ws i 0)) r) is
    ∙ ap (λ w. has (part_values w) r) (⊎_elim (λ (low : i < n). get_or-replicate n i 0 0 low) (λ (high : n ≤ i). get_or_past (replicate n 0) i 0 (omega (arith, length-replicate {A = ℕ} n 0, high))) (cases_lt i n))
    ∙ ap (λ vs. has vs r) values_of_nothing

pub row_added : (rows : List Tuple) (row : Tuple) (old now : List ℕ) (k : ℕ) → k < length rows → row ≡ get_or rows k row
    → ((i r : ℕ) → has (part_values (get_or now i 0)) r ≡ (has (part_values (get_or old i 0)) r || (k == r && has_at row (i % 4) (i / 4))))
    → IsBlock (take k rows) old → IsBlock (take (k + 1) rows) now
row_added rows row old now k lt is added before i r =
    ⊎_elim
    (λ (e : r ≡ k).
    let past : get_or (take k rows) r [] ≡ [] = get_or_past (take k rows) r [] (omega (arith, length-take k rows, e)) in
    let here : get_or (take (k + 1) rows) r [] ≡ row = get_or-take (k + 1) rows r [] (omega (arith, e)) ∙ ap (λ j. get_or rows j []) e ∙ get_or_default rows k [] row lt ∙ sym is in
    added i r
    ∙ ap (λ b. b || (k == r && has_at row (i % 4) (i / 4))) (before i r ∙ ap (λ l. has_at l (i % 4) (i / 4)) past)
    ∙ ap (λ b. b && has_at row (i % 4) (i / 4)) (eq-eqb k r (sym e))
    ∙ ap (λ l. has_at l (i % 4) (i / 4)) (sym here))
    (λ (ne : r ≡ k → ⊥).
    added i r
    ∙ ap (λ b. has (part_values (get_or old i 0)) r || (b && has_at row (i % 4) (i / 4))) (ne_eqb k r (λ e. ne (sym e)))
    ∙ or_none (has (part_values (get_or old i 0)) r)
    ∙ before i r
    ∙ ap (λ l. has_at l (i % 4) (i / 4)) (same ne))
    (cases_eq r k)
  where
    same : (r ≡ k → ⊥) → get_or (take k rows) r [] ≡ get_or (take (k + 1) rows) r []
    same ne =
        ⊎_elim
        (λ (low : r < k). get_or-take k rows r [] low ∙ sym (get_or-take (k + 1) rows r [] (omega (arith, low))))
        (λ (high : k ≤ r).
        get_or_past (take k rows) r [] (omega (arith, length-take k rows, high))
        ∙ sym (get_or_past (take (k + 1) rows) r [] (omega (arith, length-take (k + 1) rows, high, ne))))
        (cases_lt r k)
