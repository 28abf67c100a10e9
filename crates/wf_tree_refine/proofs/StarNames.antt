-- The names of the tuples of a simplex, by the parts of a star.
use Rattle.std.proofs.Common.{◌≡◌, ℕ, zero, suc, ◌+◌, ◌==◌, ◌||◌, ◌&&◌, ◌<◌, nat_lt, true, not, List, [], ◌∷◌, get_or, length, map, inl, inr, refl, sym, ap, ◌∙◌, subst, arith}
use Rattle.std.specs.List.{list_any}
use Rattle.std.proofs.lemmas.Bool.{and_parts, cases_Bool, cond-true, cond-false, eq-eqb, eqb-true, lt-ltb, not-true, or_cases, both_ways}
use Rattle.std.proofs.lemmas.List.{get_or-map, length-map}
use Rattle.wf_model.specs.Lists.{below}
use Rattle.wf_model.specs.Task.{Tuple}
use Rattle.wf_simplex.proofs.Lemmas.{Has}
use Rattle.wf_tree_model.specs.Parts.{parts}
use Rattle.wf_tree_model.specs.Splits.{hang_together, name_beside, names_of, value_of_part}
use Rattle.wf_tree_model.specs.Tuples.{agree_elsewhere, has_tuple, value_at}
use Rattle.wf_tree_refine.specs.Keys.{row_at}
use Rattle.wf_tree_refine.specs.Names.{AreNumbered, HasLargeName, most_name}
use Rattle.wf_tree_refine.specs.Near.{part_of}
use Rattle.wf_tree_refine.proofs.KeyLemmas.{each_place}
use Rattle.wf_tree_refine.proofs.Membership.{Once, any_has, earlier_place, has_any, has-has_tuple, place_of, row_has}
use Rattle.wf_tree_refine.proofs.PartLemmas.{apart, covered, has_place, held, inside, leads, met_earlier, part_met, part_place, some_tuple}

-- what hangs together at a place has one value there
same_value : (n place : ℕ) (a b : Tuple) → place < n → hang_together n place a b ≡ true → value_at a place ≡ value_at b place
same_value n place a b low h =
    let r = any_has (λ p. not (p == place) && agree_elsewhere n p a b) (below n) h in
    let both = and_parts (not (r.0 == place)) (agree_elsewhere n r.0 a b) r.2 in
    elim (or_cases ((0 + place) == r.0) (value_at a (0 + place) == value_at b (0 + place)) (each_place (λ other. (other == r.0) || (value_at a other == value_at b other)) 0 n both.1 place low)) [
      | inl e ↦ (let is = eqb-true (0 + place) r.0 e in let ne = not-true (r.0 == place) both.0 in absurd (both_ways (r.0 == place) ne (eq-eqb r.0 place (omega (arith, is)))))
      | inr e ↦ (let z : 0 + place ≡ place = omega arith in subst (λ k. value_at a k ≡ value_at b k) z (eqb-true (value_at a (0 + place)) (value_at b (0 + place)) e))
    ]

-- the name beside a part is that of its number
beside : (ps : List (List Tuple)) (names : List ℕ) (t : Tuple) → ((q : List Tuple) × Has q ps × Has t q) → name_beside ps names t ≡ get_or names (part_of ps t) 0
beside [] names t h = absurd h.1
beside (p ∷ ps) [] t h = sym (none (part_of (p ∷ ps) t))
  where
    none : (k : ℕ) → get_or {A = ℕ} [] k 0 ≡ 0
    none zero = refl
    none (suc k) = refl
beside (p ∷ ps) (name ∷ names) t h =
    elim (cases_Bool (has_tuple p t)) [
      | inl is ↦ cond-true (has_tuple p t) name (name_beside ps names t) is ∙ ap (λ k. get_or (name ∷ names) k 0) (sym (cond-true (has_tuple p t) 0 (suc (part_of ps t)) is))
      | inr is ↦
          cond-false (has_tuple p t) name (name_beside ps names t) is
          ∙ beside ps names t (elim h.1 [
            | inl e ↦ absurd (both_ways (has_tuple p t) is (has-has_tuple p t (subst (Has t) (sym e) h.2)))
            | inr later ↦ (h.0, later, h.2)
          ])
          ∙ ap (λ k. get_or (name ∷ names) k 0) (sym (cond-false (has_tuple p t) 0 (suc (part_of ps t)) is))
    ]

module _ (n place : ℕ) (low : place < n) (rows : List Tuple) (once : Once rows) (numbers : List ℕ) (are : numbers ≡ map (part_of (parts (hang_together n place) rows)) rows) where
  number_is : (i : ℕ) → i < length rows → get_or numbers i 0 ≡ part_of (parts (hang_together n place) rows) (row_at rows i)
  number_is i li = ap (λ ns. get_or ns i 0) are ∙ get_or-map (part_of (parts (hang_together n place) rows)) rows i [] 0 li

  pub star_numbered : AreNumbered place rows numbers (parts (hang_together n place) rows)
  star_numbered =
      let ps = parts (hang_together n place) rows in
      record {
        known = λ i li. subst (λ k. k < length ps) (sym (number_is i li)) (part_place ps (row_at rows i) (covered (hang_together n place) rows (row_at rows i) (row_has rows i li))).0;
        value = λ i li.
            let t = row_at rows i in
            let at = part_place ps t (covered (hang_together n place) rows t (row_has rows i li)) in
            let p = get_or ps (part_of ps t) [] in
            let here = has_place ps (part_of ps t) at.0 in
            ap (λ k. value_of_part place (get_or ps k [])) (number_is i li)
            ∙ held (hang_together n place) (λ u. value_at u place) rows (λ a b ha hb h. same_value n place a b low h) p (get_or p 0 []) t here (first_has p (some_tuple (hang_together n place) rows p here)) at.1;
        met = λ i v li less.
            let t = row_at rows i in
            let r = met_earlier rows ps t v (apart (hang_together n place) rows once) (leads (hang_together n place) rows once t (row_has rows i li)) (subst (λ k. v < k) (number_is i li) less) in
            let j = earlier_place rows r.0 i once li r.2 in
            (j.0, j.1, number_is j.0 (let l = j.1 in omega (arith, l, li)) ∙ ap (part_of ps) j.2 ∙ r.3);
        all = λ k lk.
            let r = part_met ps k (apart (hang_together n place) rows once) (some_tuple (hang_together n place) rows) lk in
            let i = place_of rows r.0 (inside (hang_together n place) rows r.1.0 r.0 r.1.1 r.1.2) in
            (i.0, i.1, number_is i.0 i.1 ∙ ap (part_of ps) i.2 ∙ r.2);
      }
    where
      first_has : (p : List Tuple) → ((a : Tuple) × Has a p) → Has (get_or p 0 []) p
      first_has [] h = absurd h.1
      first_has (t ∷ p) h = inl refl

  -- the names that a call answers, and why it refuses
  pub star_named : (new : ℕ) (each : List ℕ) → each ≡ map (λ k. get_or (names_of place new [] (parts (hang_together n place) rows)) k 0) numbers
      → each ≡ map (name_beside (parts (hang_together n place) rows) (names_of place new [] (parts (hang_together n place) rows))) rows
  star_named new each is =
      let ps = parts (hang_together n place) rows in
      let names = names_of place new [] ps in
      is ∙ ap (map (λ k. get_or names k 0)) are ∙ all_beside rows (λ t h. h)
    where
      all_beside : (ts : List Tuple) → ((t : Tuple) → Has t ts → Has t rows) → map (λ k. get_or (names_of place new [] (parts (hang_together n place) rows)) k 0) (map (part_of (parts (hang_together n place) rows)) ts) ≡ map (name_beside (parts (hang_together n place) rows) (names_of place new [] (parts (hang_together n place) rows))) ts
      all_beside [] h = refl
      all_beside (t ∷ ts) h =
          let ps = parts (hang_together n place) rows in
          let names = names_of place new [] ps in
          let first : get_or names (part_of ps t) 0 ≡ name_beside ps names t = sym (beside ps names t (covered (hang_together n place) rows t (h t (inl refl)))) in
          let rest = all_beside ts (λ u hu. h u (inr hu)) in
          λ i. first i ∷ rest i

  pub star_refused : (new : ℕ) → HasLargeName (names_of place new [] (parts (hang_together n place) rows)) numbers
      → list_any (λ tuple. nat_lt most_name (name_beside (parts (hang_together n place) rows) (names_of place new [] (parts (hang_together n place) rows)) tuple)) rows ≡ true
  star_refused new h =
      let ps = parts (hang_together n place) rows in
      let names = names_of place new [] ps in
      let li : h.0 < length rows = (let l = h.1 in let e = ap length are ∙ length-map rows (part_of ps) in omega (arith, l, e)) in
      let t = row_at rows h.0 in
      let name : name_beside ps names t ≡ get_or names (get_or numbers h.0 0) 0 = beside ps names t (covered (hang_together n place) rows t (row_has rows h.0 li)) ∙ ap (λ k. get_or names k 0) (sym (number_is h.0 li)) in
      has_any (λ tuple. nat_lt most_name (name_beside ps names tuple)) t rows (row_has rows h.0 li) (lt-ltb most_name (name_beside ps names t) (subst (λ m. most_name < m) (sym name) h.2))
