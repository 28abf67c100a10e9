-- Laws of clauses that lie in one list.
use Rattle.std.proofs.Common.{◌≡◌, ℕ, ◌+◌, ◌-◌, ◌<◌, ◌≤◌, zero, suc, List, [], ◌∷◌, ◌++◌, refl, sym, ◌∙◌, ap, arith, length, take, drop, get_or, set, replicate, length-append, append_assoc}
use Rattle.std.specs.Prelude.{◌==◌, if◌then◌else◌, false, Some, None}
use Rattle.std.specs.List.{slice_range}
use Rattle.std.proofs.lemmas.List.{get_or_append_left, length-replicate, map-set, replicate_more, set_at, take_all}
use Rattle.std.proofs.Math.Seq.{drop-append_seam, take-length}
use Rattle.wf_sat_check.specs.Lrat.Ledger.{emptied}
use Rattle.wf_sat_check.specs.Lrat.Slots.{clause_of, codes_at, slot_at, slots_in}

other_test : (a b : ℕ) → (a ≡ b → ⊥) → (a == b) ≡ false
other_test a b h = grind (arith, h)

pub slot_at-some : (arena : List ℕ) (place : ℕ) → 0 < place → slot_at arena place ≡ Some (clause_of (codes_at arena place))
slot_at-some arena place h =
    ap (λ b. if b then None else Some (clause_of (codes_at arena place))) (other_test place 0 (λ e. let bad : ⊥ = omega (arith, h, e) in bad))

-- ---- no clause

pub slots_in-delete : (arena places : List ℕ) (id : ℕ) → 0 < id → slots_in arena (set places (id - 1) 0) ≡ emptied id (slots_in arena places)
slots_in-delete arena places id pos =
    map-set (slot_at arena) places (id - 1) 0
    ∙ sym (ap (λ b. if b then slots_in arena places else set (slots_in arena places) (id - 1) None) (other_test id 0 (λ e. let bad : ⊥ = omega (arith, pos, e) in bad)))

-- ---- a clause more

-- the words of a clause behind others
abbrev pub with_words : List ℕ → List ℕ → List ℕ
with_words arena clause = (arena ++ length clause ∷ []) ++ clause

seam : (xs : List ℕ) (x : ℕ) → get_or (xs ++ x ∷ []) (length xs) 0 ≡ x
seam [] x = refl
seam (y ∷ ys) x = seam ys x

pub length-one : (xs : List ℕ) (x : ℕ) → length (xs ++ x ∷ []) ≡ length xs + 1
length-one xs x = length-append xs (x ∷ [])

pub size-words : (arena clause : List ℕ) → get_or (with_words arena clause) (length arena) 0 ≡ length clause
size-words arena clause =
    let inside : length arena < length (arena ++ length clause ∷ []) = omega (arith, length-one arena (length clause)) in
    get_or_append_left (arena ++ length clause ∷ []) clause 0 (length arena) inside ∙ seam arena (length clause)

codes-words : (arena clause : List ℕ) → codes_at (with_words arena clause) (length arena + 1) ≡ clause
codes-words arena clause =
    let words = with_words arena clause in
    let head = arena ++ length clause ∷ [] in
    let here : length arena + 1 - 1 ≡ length arena = omega arith in
    let size : get_or words (length arena + 1 - 1) 0 ≡ length clause = ap (λ n. get_or words n 0) here ∙ size-words arena clause in
    let span : (length arena + 1 + length clause) - (length arena + 1) ≡ length clause = omega arith in
    ap (λ n. slice_range words (length arena + 1) (length arena + 1 + n)) size
    ∙ ap (λ n. take n (drop (length arena + 1) words)) span
    ∙ ap (λ n. take (length clause) (drop n words)) (sym (length-one arena (length clause)))
    ∙ ap (take (length clause)) (drop-append_seam head clause) ∙ take-length clause

pub slot-words : (arena clause : List ℕ) → slot_at (with_words arena clause) (length arena + 1) ≡ Some (clause_of clause)
slot-words arena clause =
    let pos : 0 < length arena + 1 = omega arith in
    slot_at-some (with_words arena clause) (length arena + 1) pos ∙ ap (λ codes. Some (clause_of codes)) (codes-words arena clause)

pub slots_in-nothing : (arena : List ℕ) (n : ℕ) → slots_in arena (replicate n 0) ≡ replicate n None
slots_in-nothing arena zero = refl
slots_in-nothing arena (suc n) = ap (λ slots. None ∷ slots) (slots_in-nothing arena n)

-- the places where a last one is written
abbrev pub with_place : List ℕ → ℕ → ℕ → List ℕ
with_place places gap place = places ++ (replicate gap 0 ++ place ∷ [])

pub set-place : (places : List ℕ) (id place : ℕ) → length places < id
    → set (take id places ++ replicate (id - length places) 0) (id - 1) place ≡ with_place places (id - 1 - length places) place
set-place places id place above =
    let gap = id - 1 - length places in
    let more : id - length places ≡ gap + 1 = omega (arith, above) in
    let short : length places ≤ id = omega (arith, above) in
    let long : length (places ++ replicate gap 0) ≡ id - 1 = omega (arith, above, length-append places (replicate gap 0), length-replicate {A = ℕ} gap 0) in
    ap (λ xs. set (xs ++ replicate (id - length places) 0) (id - 1) place) (take_all id places short)
    ∙ ap (λ n. set (places ++ replicate n 0) (id - 1) place) more
    ∙ ap (λ xs. set (places ++ xs) (id - 1) place) (sym (replicate_more gap 0))
    ∙ ap (λ xs. set xs (id - 1) place) (sym (append_assoc places (replicate gap 0) (0 ∷ [])))
    ∙ set_at (places ++ replicate gap 0) 0 [] place (id - 1) long
    ∙ append_assoc places (replicate gap 0) (place ∷ [])
