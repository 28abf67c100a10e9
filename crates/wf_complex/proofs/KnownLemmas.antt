-- Places as bits, and numbers of views after one more round that are known.
use Rattle.std.proofs.Common.{◌≡◌, ◌<◌, ◌≤◌, ℕ, zero, suc, ◌+◌, ◌*◌, ◌^◌, ◌%◌, ◌/◌, ◌==◌, nat_le, Bool, true, false, List, [], ◌∷◌, ◌++◌, map, filter, length, zip, take, get_or, slice_get, slice_set, Option, Some, None, sym, refl, ap, ◌∙◌, subst, arith, inl, inr, eq-eqb, length-set, eqb-true, nat_lt, replicate, if◌then◌else◌}
use Rattle.std.proofs.lemmas.Bool.{cases_Bool, false≢true, ltb-true, ltb-false}
use Rattle.std.proofs.lemmas.List.{length-replicate, get_or_past, get_or-replicate, get_or-set_same, get_or-set_other}
use Rattle.wf_model.specs.View.{View, base, seen, views_of, process_of, round}
use Rattle.wf_model.specs.Word.{Word}
use Rattle.wf_complex.proofs.RoundLemmas.{get_or-round}
use Rattle.wf_complex.specs.declared.rounds.ImmediateSnapshot.{ImmediateSnapshot}
use Rattle.wf_complex.specs.Rounds.{picked, only_if, places_seen, visible_ids, view_by, IsSight, AreKnown, Extends}

-- ---- places as bits

odd : (n : ℕ) → ((1 + 2 * n) % 2 == 1) ≡ true
odd n = eq-eqb ((1 + 2 * n) % 2) 1 (omega arith)

even : (n : ℕ) → ((0 + 2 * n) % 2 == 1) ≡ false
even n = let e : (0 + 2 * n) % 2 ≡ 0 = omega arith in ap (λ k. k == 1) e

odd_half : (n : ℕ) → (1 + 2 * n) / 2 ≡ n
odd_half n = omega arith

even_half : (n : ℕ) → (0 + 2 * n) / 2 ≡ n
even_half n = omega arith

-- the entries at the places that a participant sees are those of its block and of the earlier ones
pub picked_seen : {X : Type 0} (block : ℕ) (w : Word) (xs : List X) → length xs ≡ length w → picked (places_seen block w) xs ≡ map (λ q. q.1) (filter (λ q. nat_le q.0 block) (zip w xs))
picked_seen block [] [] e = refl
picked_seen block (l ∷ w) [] e = absurd (let none : ⊥ = omega (arith, e) in none)
picked_seen block [] (x ∷ xs) e = absurd (let none : ⊥ = omega (arith, e) in none)
picked_seen block (l ∷ w) (x ∷ xs) e =
    let rest = picked_seen block w xs (omega (arith, e)) in
    elim (cases_Bool (nat_le l block)) [
      | inl sees ↦ rw sees ((λ i. only_if (odd (places_seen block w) i) x ++ picked (odd_half (places_seen block w) i) xs) ∙ ap (λ ys. x ∷ ys) rest)
      | inr not_sees ↦ rw not_sees ((λ i. only_if (even (places_seen block w) i) x ++ picked (even_half (places_seen block w) i) xs) ∙ rest)
    ]

bit_few : (b : Bool) → (if b then 1 else 0) ≤ 1
bit_few true = omega arith
bit_few false = omega arith

places_few : (block : ℕ) (w : Word) → places_seen block w < 2 ^ length w
places_few block [] = omega arith
places_few block (l ∷ w) = let twice : 2 ^ length (l ∷ w) ≡ 2 * 2 ^ length w = grind arith in omega (arith, twice, places_few block w, bit_few (nat_le l block))

sixteen : (n : ℕ) → n ≤ 4 → 2 ^ n ≤ 16
sixteen zero h = omega arith
sixteen (suc zero) h = omega arith
sixteen (suc (suc zero)) h = omega arith
sixteen (suc (suc (suc zero))) h = omega arith
sixteen (suc (suc (suc (suc zero)))) h = omega arith
sixteen (suc (suc (suc (suc (suc n))))) h = absurd (let none : ⊥ = omega (arith, h) in none)

pub places_below : (block : ℕ) (w : Word) → length w ≤ 4 → places_seen block w < 16
places_below block w few = omega (arith, places_few block w, sixteen (length w) few)

pub places_there : (f : ℕ → ℕ) (w found : List ℕ) (i : ℕ) → take (length w) found ≡ map f w → i < length w → get_or found i 0 ≡ f (get_or w i 0)
places_there f [] found i e h = absurd (let none : ⊥ = omega (arith, h) in none)
places_there f (l ∷ w) [] i e h = absurd (let none : ⊥ = cc in none)
places_there f (l ∷ w) (x ∷ found) zero e h = cc
places_there f (l ∷ w) (x ∷ found) (suc i) e h = let rest : take (length w) found ≡ map f w = cc in places_there f w found i rest (omega (arith, h))

-- ---- one participant's view after the round

is_view_by : (vs : List View) (w : Word) (i : ℕ) → i < length vs → length vs ≡ length w → get_or (round vs w) i (base 0 0) ≡ view_by vs i (places_seen (get_or w i 0) w)
is_view_by vs w i place long =
    get_or-round vs w w vs i place long ∙ (λ k. seen (process_of (get_or vs i (base 0 0))) (views_of (sym (picked_seen (get_or w i 0) w vs long) k)))

-- whom the participant at a place of a sight sees
module _ (s : ImmediateSnapshot) (is : IsSight s) (few : length s.word ≤ 4) (i : ℕ) (place : i < length s.word) where
  pub bits_there : get_or s.seen i 0 ≡ places_seen (get_or s.word i 0) s.word
  bits_there = places_there (λ block. places_seen block s.word) s.word s.seen i is place

  pub bits_below : get_or s.seen i 0 < 16
  bits_below = omega (arith, bits_there, places_below (get_or s.word i 0) s.word few)

  pub parts_are : (ids parts : List ℕ) → length ids ≡ length s.word → parts ≡ picked (get_or s.seen i 0) ids → parts ≡ visible_ids (get_or s.word i 0) s.word ids
  parts_are ids parts long e = e ∙ ap (λ places. picked places ids) bits_there ∙ picked_seen (get_or s.word i 0) s.word ids long

  pub round_there : (vs : List View) → length vs ≡ length s.word → get_or (round vs s.word) i (base 0 0) ≡ view_by vs i (get_or s.seen i 0)
  round_there vs long = is_view_by vs s.word i (omega (arith, place, long)) long ∙ ap (view_by vs i) (sym bits_there)

-- ---- numbers that are known

-- the answer of a place of which nothing is known
abbrev no_number : Option ℕ
no_number = None

all_none : (n k : ℕ) → get_or (replicate n no_number) k None ≡ None
all_none n k =
    elim (cases_Bool (nat_lt k n)) [
      | inl inside ↦ get_or-replicate n k None None (ltb-true k n inside)
      | inr outside ↦ get_or_past (replicate n None) k None (omega (arith, length-replicate n no_number, ltb-false k n outside))
    ]

pub none_known : (table vs : List View) → AreKnown table vs (replicate 64 None)
none_known table vs =
    record { whole = length-replicate 64 no_number; stand = λ i places n few h. let e : None ≡ Some n = sym (all_none 64 (16 * i + places)) ∙ h in absurd (let no : ⊥ = cc in no) }

slice_get-front : (xs ys : List View) (n : ℕ) (v : View) → slice_get xs n ≡ Some v → slice_get (xs ++ ys) n ≡ Some v
slice_get-front [] ys n v h = absurd (let none : ⊥ = cc in none)
slice_get-front (x ∷ xs) ys zero v h = h
slice_get-front (x ∷ xs) ys (suc n) v h = slice_get-front xs ys n v h

pub known_kept : (old now vs : List View) (known : List (Option ℕ)) → Extends old now → AreKnown old vs known → AreKnown now vs known
known_kept old now vs known grown k =
    record {
      whole = k.whole;
      stand = λ i places n few h. subst (λ t. slice_get t n ≡ Some (view_by vs i places)) (sym grown.1) (slice_get-front old grown.0 n (view_by vs i places) (k.stand i places n few h));
    }

pub known_more : (table vs : List View) (known : List (Option ℕ)) (i places id : ℕ) → AreKnown table vs known → places < 16 → 16 * i + places < length known → slice_get table id ≡ Some (view_by vs i places) →
    AreKnown table vs (slice_set known (16 * i + places) (Some id))
known_more table vs known i places id k few inside stands =
    record {
      whole = length-set known (16 * i + places) (Some id) ∙ k.whole;
      stand = λ j others n fewer h.
          elim (cases_Bool ((16 * j + others) == (16 * i + places))) [
            | inl same ↦ (
                let e : 16 * j + others ≡ 16 * i + places = eqb-true (16 * j + others) (16 * i + places) same in
                let place : j ≡ i = omega (arith, e, few, fewer) in
                let seen_there : others ≡ places = omega (arith, e, few, fewer) in
                let is : Some id ≡ Some n = sym (get_or-set_same known (16 * i + places) (Some id) None inside) ∙ sym (ap (λ m. get_or (slice_set known (16 * i + places) (Some id)) m None) e) ∙ h in
                let number : id ≡ n = cc in
                subst (λ m. slice_get table m ≡ Some (view_by vs j others)) number (stands ∙ (λ l. Some (view_by vs (sym place l) (sym seen_there l))))
                )
            | inr other ↦ k.stand j others n fewer (sym (get_or-set_other known (16 * i + places) (16 * j + others) (Some id) None (λ e. false≢true (sym other ∙ eq-eqb (16 * j + others) (16 * i + places) e))) ∙ h)
          ];
    }
