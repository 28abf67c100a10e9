-- What one more place does to the places of first appearance.
use Rattle.std.proofs.Common.{◌≡◌, ◌<◌, ◌≤◌, ◌||◌, ℕ, suc, ◌+◌, ◌==◌, Bool, true, false, not, List, [], ◌∷◌, ◌++◌, Option, Some, None, map, filter, take, drop, length, get_or, slice_index, set, All, sym, refl, ap, ◌∙◌, subst, inl, inr, arith, length-append}
use Rattle.std.specs.List.{list_any, AllByRecursion}
use Rattle.std.proofs.lemmas.Bool.{cases_Bool, both_ways, eqb-true, eq-eqb, or_cases, or_left, or_right, false≢true}
use Rattle.std.proofs.lemmas.List.{map-append, append-nil, get_or-set_same, get_or-set_other, length-set, get_or-map, get_or-drop, drop-set-lt, drop_more}
use Rattle.std.proofs.lemmas.Grind.{get_or_default_zero}
use Rattle.std.proofs.lemmas.List.Elements.{filter-append, recursion_from_All, All-push, All-weaker}
use Rattle.std.proofs.lemmas.List.Folds.{list_any-append}
use Rattle.std.proofs.Math.Seq.{get_or-append_seam, take-suc}
use Rattle.std.proofs.lemmas.List.{get_or_append_left}
use Rattle.wf_model.specs.Lists.{distinct, below}
use Rattle.wf_model.proofs.Lemmas.{below_next, weaker, map_same}
use Rattle.wf_complex.specs.Numbering.{same_at, first_places, stands, Knows, AllKnown, picked}

distinct_new : {X : Type 0} (same : X → X → Bool) (xs : List X) (x : X) → list_any (λ y. same y x) xs ≡ false → distinct same (xs ++ x ∷ []) ≡ distinct same xs ++ x ∷ []
distinct_new same [] x h = refl
distinct_new {X = X} same (y ∷ ys) x h =
    elim (cases_Bool (same y x)) [
      | inl here ↦ absurd (both_ways _ h (or_left _ _ here))
      | inr apart ↦ elim (cases_Bool (list_any (λ z. same z x) ys)) [
        | inl later ↦ absurd (both_ways _ h (or_right _ _ later))
        | inr none ↦
            let test : X → Bool = λ z. not (same y z) in
            let last : filter test (x ∷ []) ≡ x ∷ [] = rw apart refl in
            ap (λ zs. y ∷ zs) (ap (filter test) (distinct_new same ys x none) ∙ filter-append test (distinct same ys) (x ∷ []) ∙ ap (λ zs. filter test (distinct same ys) ++ zs) last)
      ]
    ]

distinct_met : {X : Type 0} (same : X → X → Bool) (xs : List X) (x : X) → list_any (λ y. same y x) xs ≡ true → distinct same (xs ++ x ∷ []) ≡ distinct same xs
distinct_met same [] x h = absurd (false≢true h)
distinct_met {X = X} same (y ∷ ys) x h =
    let test : X → Bool = λ z. not (same y z) in
    elim (cases_Bool (list_any (λ z. same z x) ys)) [
      | inl later ↦ ap (λ zs. y ∷ filter test zs) (distinct_met same ys x later)
      | inr none ↦ elim (or_cases (same y x) (list_any (λ z. same z x) ys) h) [
        | inl here ↦
            let last : filter test (x ∷ []) ≡ [] = rw here refl in
            ap (λ zs. y ∷ zs) (ap (filter test) (distinct_new same ys x none) ∙ filter-append test (distinct same ys) (x ∷ []) ∙ ap (λ zs. filter test (distinct same ys) ++ zs) last ∙ append-nil (filter test (distinct same ys)))
        | inr later ↦ absurd (both_ways _ none later)
      ]
    ]

-- ---- the places

pub places_met : (ids : List ℕ) (i : ℕ) → stands ids i (slice_index ids i) ≡ true → first_places ids (i + 1) ≡ first_places ids i
places_met ids i h = ap (distinct (same_at ids)) (below_next i) ∙ distinct_met (same_at ids) (below i) i h

pub places_new : (ids : List ℕ) (i : ℕ) → stands ids i (slice_index ids i) ≡ false → first_places ids (i + 1) ≡ first_places ids i ++ i ∷ []
places_new ids i h = ap (distinct (same_at ids)) (below_next i) ∙ distinct_new (same_at ids) (below i) i h

-- ---- what stands among one place more

stands_more : (ids : List ℕ) (i id : ℕ) → stands ids (i + 1) id ≡ (stands ids i id || (slice_index ids i == id || false))
stands_more ids i id = ap (list_any (λ j. slice_index ids j == id)) (below_next i) ∙ list_any-append (λ j. slice_index ids j == id) (below i) (i ∷ [])

still_stands : (ids : List ℕ) (i id : ℕ) → stands ids i id ≡ true → stands ids (i + 1) id ≡ true
still_stands ids i id h = stands_more ids i id ∙ or_left _ _ h

now_stands : (ids : List ℕ) (i : ℕ) → stands ids (i + 1) (slice_index ids i) ≡ true
now_stands ids i = stands_more ids i (slice_index ids i) ∙ or_right _ _ (or_left _ _ (eq-eqb (slice_index ids i) (slice_index ids i) refl))

still_unmet : (ids : List ℕ) (i id : ℕ) → stands ids i id ≡ false → (slice_index ids i == id) ≡ false → stands ids (i + 1) id ≡ false
still_unmet ids i id h apart = stands_more ids i id ∙ rw h (rw apart refl)

-- ---- what is known

met_entry : (ids : List ℕ) (i : ℕ) (firsts : List ℕ) (numbers : List (Option ℕ)) (k id : ℕ) (o : Option ℕ) → get_or numbers (slice_index ids i) None ≡ Some k → get_or numbers id None ≡ o → Knows ids i firsts id o → Knows ids (i + 1) firsts id o
met_entry ids i firsts numbers k id None here e h =
    elim (cases_Bool (slice_index ids i == id)) [
      | inl same ↦ absurd (let clash : Some k ≡ None = sym here ∙ ap (λ x. get_or numbers x None) (eqb-true _ _ same) ∙ e in let no : ⊥ = cc in no)
      | inr apart ↦ still_unmet ids i id h apart
    ]
met_entry ids i firsts numbers k id (Some other) here e h = (still_stands ids i id h.0, h.1, h.2)

pub known_met : (ids : List ℕ) (i : ℕ) (firsts : List ℕ) (numbers : List (Option ℕ)) (k : ℕ) → AllKnown ids i firsts numbers → get_or numbers (slice_index ids i) None ≡ Some k → AllKnown ids (i + 1) firsts numbers
known_met ids i firsts numbers k known here id low = met_entry ids i firsts numbers k id (get_or numbers id None) here refl (known id low)

-- a place more at the end leaves the earlier ones
earlier : (firsts : List ℕ) (i k : ℕ) → k < length firsts → slice_index (firsts ++ i ∷ []) k ≡ slice_index firsts k
earlier firsts i k low = get_or_append_left firsts (i ∷ []) 0 k low

grown : (firsts : List ℕ) (i k : ℕ) → k < length firsts → k < length (firsts ++ i ∷ [])
grown firsts i k low = omega (arith, low, length-append firsts (i ∷ []))

other_entry : (ids : List ℕ) (i : ℕ) (firsts : List ℕ) (id : ℕ) (o : Option ℕ) → (slice_index ids i == id) ≡ false → Knows ids i firsts id o → Knows ids (i + 1) (firsts ++ i ∷ []) id o
other_entry ids i firsts id None apart h = still_unmet ids i id h apart
other_entry ids i firsts id (Some k) apart h =
    (still_stands ids i id h.0, grown firsts i k h.1, ap (slice_index ids) (earlier firsts i k h.1) ∙ h.2)

new_entry : (ids : List ℕ) (i : ℕ) (firsts : List ℕ) → Knows ids (i + 1) (firsts ++ i ∷ []) (slice_index ids i) (Some (length firsts))
new_entry ids i firsts =
    (now_stands ids i, omega (arith, length-append firsts (i ∷ [])), ap (slice_index ids) (get_or-append_seam firsts i [] 0))

new_known : (ids : List ℕ) (i : ℕ) (firsts : List ℕ) (numbers : List (Option ℕ)) (id : ℕ) → slice_index ids i < length numbers → Knows ids i firsts id (get_or numbers id None) → Knows ids (i + 1) (firsts ++ i ∷ []) id (get_or (set numbers (slice_index ids i) (Some (length firsts))) id None)
new_known ids i firsts numbers id low h =
    elim (cases_Bool (slice_index ids i == id)) [
      | inl same ↦
          let here : slice_index ids i ≡ id = eqb-true _ _ same in
          let entry : get_or (set numbers (slice_index ids i) (Some (length firsts))) (slice_index ids i) None ≡ Some (length firsts) = get_or-set_same numbers (slice_index ids i) (Some (length firsts)) None low in
          subst (λ x. Knows ids (i + 1) (firsts ++ i ∷ []) x (get_or (set numbers (slice_index ids i) (Some (length firsts))) x None)) here
          (subst (Knows ids (i + 1) (firsts ++ i ∷ []) (slice_index ids i)) (sym entry) (new_entry ids i firsts))
      | inr apart ↦
          let entry : get_or (set numbers (slice_index ids i) (Some (length firsts))) id None ≡ get_or numbers id None = get_or-set_other numbers (slice_index ids i) id (Some (length firsts)) None (λ e. both_ways _ apart (eq-eqb _ _ (sym e))) in
          subst (Knows ids (i + 1) (firsts ++ i ∷ []) id) (sym entry) (other_entry ids i firsts id (get_or numbers id None) apart h)
    ]

pub known_new : (ids : List ℕ) (i : ℕ) (firsts : List ℕ) (numbers : List (Option ℕ)) → slice_index ids i < length numbers → AllKnown ids i firsts numbers → AllKnown ids (i + 1) (firsts ++ i ∷ []) (set numbers (slice_index ids i) (Some (length firsts)))
known_new ids i firsts numbers low known id below_bound =
    let small : id < length numbers = omega (arith, below_bound, length-set numbers (slice_index ids i) (Some (length firsts))) in
    new_known ids i firsts numbers id low (known id small)

-- ---- the numbers at the places

-- what is found at the place of each
abbrev pub found : List ℕ → List ℕ → ℕ → ℕ
found ids firsts p = slice_index ids (slice_index firsts p)

found_earlier : (ids firsts : List ℕ) (i : ℕ) (places : List ℕ) → AllByRecursion (λ p. p < length firsts) places → map (found ids (firsts ++ i ∷ [])) places ≡ map (found ids firsts) places
found_earlier ids firsts i [] h = refl
found_earlier ids firsts i (p ∷ ps) h = λ at. ap (slice_index ids) (earlier firsts i p h.0) at ∷ found_earlier ids firsts i ps h.1 at

plus_one : (i : ℕ) → i + 1 ≡ suc i
plus_one i = omega arith

pub found_met : (ids firsts places : List ℕ) (i k : ℕ) → i < length ids → found ids firsts k ≡ slice_index ids i → map (found ids firsts) places ≡ take i ids → map (found ids firsts) (places ++ k ∷ []) ≡ take (i + 1) ids
found_met ids firsts places i k low here all =
    map-append (found ids firsts) places (k ∷ []) ∙ (λ at. all at ++ here at ∷ []) ∙ sym (ap (λ n. take n ids) (plus_one i) ∙ take-suc ids i 0 low)

pub found_new : (ids firsts places : List ℕ) (i : ℕ) → i < length ids → All (λ p. p < length firsts) places → map (found ids firsts) places ≡ take i ids → map (found ids (firsts ++ i ∷ [])) (places ++ length firsts ∷ []) ≡ take (i + 1) ids
found_new ids firsts places i low within all =
    found_met ids (firsts ++ i ∷ []) places i (length firsts) low (ap (slice_index ids) (get_or-append_seam firsts i [] 0))
    (found_earlier ids firsts i places (recursion_from_All (λ p. p < length firsts) places within) ∙ all)

-- ---- one turn of the numbering

-- what holds after n places
pub record Kept (ids : List ℕ) (n : ℕ) (fs : List ℕ) (numbers : List (Option ℕ)) (ps : List ℕ) : Type 0 where
  pub known : AllKnown ids n fs numbers
  pub firsts : fs ≡ first_places ids n
  pub few : length fs ≤ n
  pub places : All (λ p. p < length fs) ps
  pub all_found : map (found ids fs) ps ≡ take n ids

met_turn : (ids : List ℕ) (i : ℕ) (firsts : List ℕ) (numbers : List (Option ℕ)) (places : List ℕ) (k : ℕ) → slice_index ids i < length numbers → i < length ids → get_or numbers (slice_index ids i) None ≡ Some k → Kept ids i firsts numbers places → Kept ids (i + 1) firsts numbers (places ++ k ∷ [])
met_turn ids i firsts numbers places k low inside here h =
    let at : Knows ids i firsts (slice_index ids i) (Some k) = subst (Knows ids i firsts (slice_index ids i)) here (h.known (slice_index ids i) low) in
    record {
      known = known_met ids i firsts numbers k h.known here;
      firsts = h.firsts ∙ sym (places_met ids i at.0);
      few = omega (arith, h.few);
      places = All-push (λ p. p < length firsts) places k h.places at.1;
      all_found = found_met ids firsts places i k inside at.2 h.all_found;
    }

new_turn : (ids : List ℕ) (i : ℕ) (firsts : List ℕ) (numbers : List (Option ℕ)) (places : List ℕ) → slice_index ids i < length numbers → i < length ids → get_or numbers (slice_index ids i) None ≡ None → Kept ids i firsts numbers places → Kept ids (i + 1) (firsts ++ i ∷ []) (set numbers (slice_index ids i) (Some (length firsts))) (places ++ length firsts ∷ [])
new_turn ids i firsts numbers places low inside here h =
    let unmet : Knows ids i firsts (slice_index ids i) None = subst (Knows ids i firsts (slice_index ids i)) here (h.known (slice_index ids i) low) in
    let longer : length (firsts ++ i ∷ []) ≡ length firsts + 1 = length-append firsts (i ∷ []) in
    record {
      known = known_new ids i firsts numbers low h.known;
      firsts = ap (λ xs. xs ++ i ∷ []) h.firsts ∙ sym (places_new ids i unmet);
      few = omega (arith, h.few, longer);
      places = All-push (λ p. p < length (firsts ++ i ∷ [])) places (length firsts) (All-weaker (λ p. p < length firsts) (λ p. p < length (firsts ++ i ∷ [])) (λ p k. omega (arith, k, longer)) places h.places) (omega (arith, longer));
      all_found = found_new ids firsts places i inside h.places h.all_found;
    }

-- either number_one met the number, or it is new
pub one_turn : (ids : List ℕ) (i : ℕ) (firsts firsts_new : List ℕ) (numbers numbers_new : List (Option ℕ)) (places places_new : List ℕ) (place : ℕ) (o : Option ℕ)
    → get_or numbers (slice_index ids i) None ≡ o → slice_index ids i < length numbers → i < length ids
    → ((k : ℕ) → get_or numbers (slice_index ids i) None ≡ Some k → (place ≡ k) × (numbers_new ≡ numbers) × (firsts_new ≡ firsts))
    → (get_or numbers (slice_index ids i) None ≡ None → (place ≡ length firsts) × (numbers_new ≡ set numbers (slice_index ids i) (Some (length firsts))) × (firsts_new ≡ firsts ++ i ∷ []))
    → places_new ≡ places ++ place ∷ [] → Kept ids i firsts numbers places → Kept ids (i + 1) firsts_new numbers_new places_new
one_turn ids i firsts firsts_new numbers numbers_new places places_new place (Some k) here low inside met first pushed h =
    let m = met k here in
    let at : places_new ≡ places ++ k ∷ [] = pushed ∙ ap (λ x. places ++ x ∷ []) m.0 in
    subst (λ fs. Kept ids (i + 1) fs numbers_new places_new) (sym m.2) (subst (λ ns. Kept ids (i + 1) firsts ns places_new) (sym m.1) (subst (Kept ids (i + 1) firsts numbers) (sym at) (met_turn ids i firsts numbers places k low inside here h)))
one_turn ids i firsts firsts_new numbers numbers_new places places_new place None here low inside met first pushed h =
    let m = first here in
    let at : places_new ≡ places ++ length firsts ∷ [] = pushed ∙ ap (λ x. places ++ x ∷ []) m.0 in
    subst (λ fs. Kept ids (i + 1) fs numbers_new places_new) (sym m.2) (subst (λ ns. Kept ids (i + 1) (firsts ++ i ∷ []) ns places_new) (sym m.1) (subst (Kept ids (i + 1) (firsts ++ i ∷ []) (set numbers (slice_index ids i) (Some (length firsts)))) (sym at) (new_turn ids i firsts numbers places low inside here h)))

-- the different numbers so far are those at the places of first appearance
pub different_turn : (ids : List ℕ) (i : ℕ) (firsts firsts_new different different_new : List ℕ) (numbers : List (Option ℕ)) (o : Option ℕ)
    → get_or numbers (slice_index ids i) None ≡ o
    → ((k : ℕ) → get_or numbers (slice_index ids i) None ≡ Some k → (firsts_new ≡ firsts) × (different_new ≡ different))
    → (get_or numbers (slice_index ids i) None ≡ None → (firsts_new ≡ firsts ++ i ∷ []) × (different_new ≡ different ++ slice_index ids i ∷ []))
    → different ≡ picked ids firsts → different_new ≡ picked ids firsts_new
different_turn ids i firsts firsts_new different different_new numbers (Some k) here met first is =
    let m = met k here in
    m.1 ∙ is ∙ ap (picked ids) (sym m.0)
different_turn ids i firsts firsts_new different different_new numbers None here met first is =
    let m = first here in
    m.1
    ∙ ap (λ xs. xs ++ slice_index ids i ∷ []) is
    ∙ sym (map-append (λ p. slice_index ids p) firsts (i ∷ []))
    ∙ ap (picked ids) (sym m.0)

-- what is picked at places of what was picked
pub picked_twice : (ids firsts places : List ℕ) → All (λ p. p < length firsts) places → picked (picked ids firsts) places ≡ map (found ids firsts) places
picked_twice ids firsts places low =
    map_same (λ p. slice_index (picked ids firsts) p) (found ids firsts) places
    (weaker (λ p. p < length firsts) (λ p. slice_index (picked ids firsts) p ≡ found ids firsts p) (λ p h. get_or-map (λ j. slice_index ids j) firsts p 0 0 h) places (recursion_from_All (λ p. p < length firsts) places low))

-- ---- a list that is overwritten from its start on

rest : List ℕ → List ℕ
rest [] = []
rest (x ∷ xs) = xs

-- what stands at the first place that is not overwritten
pub still_there : (now old : List ℕ) (i d : ℕ) → drop i now ≡ drop i old → i < length now → get_or now i d ≡ slice_index old i
still_there now old i d left low =
    let e : i + 0 ≡ i = omega arith in
    get_or_default_zero now i d low
    ∙ ap (λ k. get_or now k 0) (sym e)
    ∙ sym (get_or-drop i now 0 0)
    ∙ ap (λ xs. get_or xs 0 0) left
    ∙ get_or-drop i old 0 0
    ∙ ap (λ k. get_or old k 0) e

pub left_after : (now old : List ℕ) (i y : ℕ) → drop i now ≡ drop i old → i < length now → i < length old → drop (i + 1) (set now i y) ≡ drop (i + 1) old
unfolding rest
left_after now old i y left low inside =
    drop-set-lt (i + 1) now i y (omega arith)
    ∙ sym (ap rest (drop_more now i 0 low))
    ∙ ap rest left
    ∙ ap rest (drop_more old i 0 inside)
