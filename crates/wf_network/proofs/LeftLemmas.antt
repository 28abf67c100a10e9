-- What is left of an execution's candidates, where that is what its rule supports.
use Rattle.std.proofs.Common.{◌≡◌, ℕ, zero, suc, ◌<◌, ◌≤◌, ◌&&◌, ◌↔◌, true, eq-eqb, eqb-true, List, [], ◌∷◌, take, length, get_or, refl, sym, ap, ◌∙◌, subst, inl, inr, arith}
use Rattle.std.specs.List.{AllByRecursion}
use Rattle.std.specs.Cmp.Lexicographic.{pointwise}
use Rattle.std.proofs.lemmas.List.{get_or-map, length-map}
use Rattle.std.proofs.lemmas.Bool.{and_from, and_parts, or_cases, or_left, or_right, false≢true}
use Rattle.wf_model.specs.Lists.{has}
use Rattle.wf_model.specs.Task.{Tuple}
use Rattle.wf_model.specs.Box.{has_at, is_alive, is_supported}
use Rattle.wf_lane.specs.Table.{HasSupported, Table, sets_of}
use Rattle.wf_base.specs.Set.Sets.{values_in}

-- ---- what is supported by some sets is supported by what they support

-- a tuple that is alive has values of the sets
at_alive : (sets : List (List ℕ)) (t : Tuple) (i a : ℕ) → has_at t i a ≡ true → pointwise has sets t ≡ true → has (get_or sets i []) a ≡ true
at_alive [] [] i a at h = absurd (false≢true at)
at_alive [] (x ∷ t) i a at h = absurd (false≢true h)
at_alive (s ∷ sets) [] i a at h = absurd (false≢true at)
at_alive (s ∷ sets) (x ∷ t) zero a at h = subst (λ b. has s b ≡ true) (eqb-true x a at) (and_parts _ _ h).0
at_alive (s ∷ sets) (x ∷ t) (suc i) a at h = at_alive sets t i a at (and_parts _ _ h).1

pub supported_there : (rows : List Tuple) (sets : List (List ℕ)) (i a : ℕ) → is_supported rows sets i a ≡ true → has (get_or sets i []) a ≡ true
supported_there [] sets i a h = absurd (false≢true h)
supported_there (t ∷ ts) sets i a h =
    elim (or_cases (has_at t i a && is_alive sets t) (is_supported ts sets i a) h) [
      | inl here ↦ (let parts = and_parts (has_at t i a) (is_alive sets t) here in at_alive sets t i a parts.0 parts.1)
      | inr later ↦ supported_there ts sets i a later
    ]

-- a tuple all of whose values are in other sets is alive there
alive_there : (fewer sets : List (List ℕ)) (t : Tuple) → length fewer ≡ length sets → ((i a : ℕ) → i < length fewer → has_at t i a ≡ true → has (get_or fewer i []) a ≡ true) → pointwise has sets t ≡ true → pointwise has fewer t ≡ true
alive_there [] [] t long f h = h
alive_there [] (c ∷ sets) t long f h = absurd (let none : ⊥ = omega (arith, long) in none)
alive_there (s ∷ fewer) [] t long f h = absurd (let none : ⊥ = omega (arith, long) in none)
alive_there (s ∷ fewer) (c ∷ sets) [] long f h = h
alive_there (s ∷ fewer) (c ∷ sets) (x ∷ t) long f h =
    and_from (has s x) (pointwise has fewer t) (f 0 x (omega arith) (eq-eqb x x refl))
    (alive_there fewer sets t (omega (arith, long)) (λ i a low at. f (suc i) a (omega (arith, low)) at) (and_parts (has c x) (pointwise has sets t) h).1)

abbrev Supports : List Tuple → List (List ℕ) → List (List ℕ) → Type 0
Supports rows sets fewer = (i a : ℕ) → i < length fewer → (has (get_or fewer i []) a ≡ true) ↔ (is_supported rows sets i a ≡ true)

each_kept : (all rows : List Tuple) (sets fewer : List (List ℕ)) → length fewer ≡ length sets → Supports all sets fewer → ((i a : ℕ) → is_supported rows sets i a ≡ true → is_supported all sets i a ≡ true)
    → AllByRecursion (λ t. is_alive sets t ≡ true → is_alive fewer t ≡ true) rows
each_kept all [] sets fewer long h f = tt
each_kept all (t ∷ ts) sets fewer long h f = (
  λ alive. alive_there fewer sets t long (λ i a low at. (h i a low).1 (f i a (or_left (has_at t i a && is_alive sets t) (is_supported ts sets i a) (and_from (has_at t i a) (is_alive sets t) at alive)))) alive,
  each_kept all ts sets fewer long h (λ i a later. f i a (or_right (has_at t i a && is_alive sets t) (is_supported ts sets i a) later)),
)

kept_in : (rows : List Tuple) (sets fewer : List (List ℕ)) (i a : ℕ) → AllByRecursion (λ t. is_alive sets t ≡ true → is_alive fewer t ≡ true) rows → is_supported rows sets i a ≡ true → is_supported rows fewer i a ≡ true
kept_in [] sets fewer i a each h = h
kept_in (t ∷ ts) sets fewer i a each h =
    elim (or_cases (has_at t i a && is_alive sets t) (is_supported ts sets i a) h) [
      | inl here ↦ (let parts = and_parts (has_at t i a) (is_alive sets t) here in
          or_left (has_at t i a && is_alive fewer t) (is_supported ts fewer i a) (and_from (has_at t i a) (is_alive fewer t) parts.0 (each.0 parts.1)))
      | inr later ↦ or_right (has_at t i a && is_alive fewer t) (is_supported ts fewer i a) (kept_in ts sets fewer i a each.1 later)
    ]

-- ---- the same of masks

taken_at : (n i : ℕ) (masks : List (List ℕ)) → i < n → get_or (take n masks) i [] ≡ get_or masks i []
taken_at zero i masks low = absurd (let none : ⊥ = omega (arith, low) in none)
taken_at (suc n) i [] low = refl
taken_at (suc n) zero (m ∷ masks) low = refl
taken_at (suc n) (suc i) (m ∷ masks) low = taken_at n i masks (omega (arith, low))

taken_length : (n : ℕ) (masks : List (List ℕ)) → n ≤ length masks → length (take n masks) ≡ n
taken_length zero masks low = refl
taken_length (suc n) [] low = absurd (let none : ⊥ = omega (arith, low) in none)
taken_length (suc n) (m ∷ masks) low = ap suc (taken_length n masks (omega (arith, low)))

sets_length : (n : ℕ) (masks : List (List ℕ)) → n ≤ length masks → length (sets_of n masks) ≡ n
sets_length n masks low = length-map (take n masks) values_in ∙ taken_length n masks low

pub sets_at : (n i : ℕ) (masks : List (List ℕ)) → n ≤ length masks → i < n → get_or (sets_of n masks) i [] ≡ values_in (get_or masks i [])
sets_at n i masks long low = get_or-map values_in (take n masks) i [] [] (omega (arith, low, taken_length n masks long)) ∙ ap values_in (taken_at n i masks low)

-- where each place has what was supported there, all of it is supported
pub left_supports : (table : Table) (masks found left : List (List ℕ)) → table.width ≤ length found → table.width ≤ length left → HasSupported masks table found → ((i : ℕ) → i < table.width → get_or left i [] ≡ get_or masks i []) → HasSupported left table left
left_supports table masks found left long many supported same =
    let w = table.width in
    let sets = sets_of w found in
    let fewer = sets_of w left in
    let equal : length fewer ≡ length sets = sets_length w left many ∙ sym (sets_length w found long) in
    let below : (i : ℕ) → i < length fewer → i < w = λ i low. omega (arith, low, sets_length w left many) in
    let h : Supports table.rows sets fewer = λ i a low.
    subst (λ s. (has s a ≡ true) ↔ (is_supported table.rows sets i a ≡ true)) (ap values_in (sym (same i (below i low))) ∙ sym (sets_at w i left many (below i low))) (supported i a (below i low)) in
    let each = each_kept table.rows table.rows sets fewer equal h (λ i a there. there) in
    λ place v low. (
      λ there. kept_in table.rows sets fewer place v each ((h place v (omega (arith, low, sets_length w left many))).0 (subst (λ s. has s v ≡ true) (sym (sets_at w place left many low)) there)),
      λ there. subst (λ s. has s v ≡ true) (sets_at w place left many low) (supported_there table.rows fewer place v there),
    )
