-- How many parts a list of tuples has, by the numbers of the parts of its tuples.
use Rattle.std.proofs.Common.{◌≡◌, ℕ, zero, suc, ◌+◌, ◌<◌, ◌≤◌, Bool, not, List, [], ◌∷◌, get_or, length, map, refl, sym, ap, ◌∙◌, subst, arith}
use Rattle.std.specs.List.{list_any}
use Rattle.std.proofs.lemmas.List.{get_or-map, length-map}
use Rattle.wf_model.proofs.Lemmas.{length_filter}
use Rattle.wf_model.specs.Task.{Tuple}
use Rattle.wf_tree_model.specs.Parts.{parts}
use Rattle.wf_tree_refine.specs.Keys.{row_at}
use Rattle.wf_tree_refine.specs.Near.{part_of}
use Rattle.wf_tree_refine.proofs.Membership.{Once, place_of, row_has}
use Rattle.wf_tree_refine.proofs.PartLemmas.{apart, covered, inside, part_met, part_place, some_tuple}

-- there are no more parts than tuples
pub length-parts : (near : Tuple → Tuple → Bool) (rows : List Tuple) → length (parts near rows) ≤ length rows
length-parts near [] = omega arith
length-parts near (x ∷ rows) =
    let fewer = length_filter (λ part. not (list_any (near x) part)) (parts near rows) in
    let rest = length-parts near rows in
    omega (arith, fewer, rest)

module _ (near : Tuple → Tuple → Bool) (rows : List Tuple) (once : Once rows) (numbers : List ℕ) (are : numbers ≡ map (part_of (parts near rows)) rows) where
  number_is : (i : ℕ) → i < length rows → get_or numbers i 0 ≡ part_of (parts near rows) (row_at rows i)
  number_is i low = ap (λ ns. get_or ns i 0) are ∙ get_or-map (part_of (parts near rows)) rows i [] 0 low

  as_many : length numbers ≡ length rows
  as_many = ap length are ∙ length-map rows (part_of (parts near rows))

  -- each number is that of a part
  pub known : (i : ℕ) → i < length numbers → get_or numbers i 0 < length (parts near rows)
  known i low =
      let here : i < length rows = (let e = as_many in omega (arith, low, e)) in
      subst (λ k. k < length (parts near rows)) (sym (number_is i here)) (part_place (parts near rows) (row_at rows i) (covered near rows (row_at rows i) (row_has rows i here))).0

  -- and each part has its number
  met : (k : ℕ) → k < length (parts near rows) → (i : ℕ) × (i < length numbers) × (get_or numbers i 0 ≡ k)
  met k low =
      let r = part_met (parts near rows) k (apart near rows once) (some_tuple near rows) low in
      let i = place_of rows r.0 (inside near rows r.1.0 r.0 r.1.1 r.1.2) in
      (i.0, (let l = i.1 in let e = as_many in omega (arith, l, e)), number_is i.0 i.1 ∙ ap (part_of (parts near rows)) i.2 ∙ r.2)

  -- so the first number above all of them is how many parts there are
  pub above_all_is : (above : ℕ) → ((i : ℕ) → i < length numbers → get_or numbers i 0 < above)
      → (0 < above → (i : ℕ) × (i < length numbers) × (get_or numbers i 0 + 1 ≡ above)) → above ≡ length (parts near rows)
  above_all_is above all some =
      let up = no_more above some in
      let down = no_fewer (length (parts near rows)) refl in
      omega (arith, up, down)
    where
      no_more : (n : ℕ) → (0 < n → (i : ℕ) × (i < length numbers) × (get_or numbers i 0 + 1 ≡ n)) → n ≤ length (parts near rows)
      no_more zero h = omega arith
      no_more (suc n) h =
          let r = h (omega arith) in
          let is = r.2 in
          let low = known r.0 r.1 in
          omega (arith, is, low)

      no_fewer : (n : ℕ) → n ≡ length (parts near rows) → n ≤ above
      no_fewer zero e = omega arith
      no_fewer (suc k) e =
          let r = met k (omega (arith, e)) in
          let is = r.2 in
          let low = all r.0 r.1 in
          omega (arith, is, low)
