-- Tuples by their values.
use Rattle.std.proofs.Common.{◌≡◌, ℕ, zero, suc, ◌+◌, ◌<◌, ◌≤◌, ◌==◌, ◌&&◌, ◌||◌, true, false, List, [], ◌∷◌, ◌++◌, map, length, take, get_or, slice_index, slice_set, replicate, inl, inr, refl, sym, ap, ◌∙◌, arith, append-nil, eq-eqb, length-set}
use Rattle.std.proofs.lemmas.Bool.{cases_eq, ne_eqb}
use Rattle.std.proofs.lemmas.Grind.{get_or-set_at}
use Rattle.std.proofs.lemmas.List.{get_or-set_other, get_or-replicate, map-append, take_more}
use Rattle.std.proofs.lemmas.List.Elements.{filter-append}
use Rattle.std.proofs.lemmas.List.Folds.{list_any-append, list_all-append}
use Rattle.wf_model.specs.Lists.{has}
use Rattle.wf_model.specs.Task.{Tuple}
use Rattle.wf_model.specs.Box.{has_at}
use Rattle.wf_base.specs.Set.Sets.{value_limit}
use Rattle.wf_sat_cnf.specs.Found.{having, occurs, occurs_in_each}
use Rattle.wf_sat_cnf.specs.Groups.{AreGroups, AreFollowers, AreAllowed, group_of}
use Rattle.wf_model.proofs.Lemmas.{has_at_past}
use Rattle.wf_sat_cnf.proofs.TupleLemmas.{or_nothing, and_true, and_assoc}

has_at_value : (t : Tuple) (p a : ℕ) → p < length t → has_at t p a ≡ (slice_index t p == a)
has_at_value [] p a low = absurd (let none : ⊥ = omega (arith, low) in none)
has_at_value (x ∷ t) zero a low = refl
has_at_value (x ∷ t) (suc p) a low = has_at_value t p a (omega (arith, low))

-- one tuple more that has the value, or has another one
having_one : (place w : ℕ) (tuples : List Tuple) (t : Tuple) → has_at t place w ≡ true → having place w (tuples ++ t ∷ []) ≡ having place w tuples ++ t ∷ []
having_one place w tuples t known =
    let one : having place w (t ∷ []) ≡ t ∷ [] = rw known refl in
    filter-append (λ (u : Tuple). has_at u place w) tuples (t ∷ []) ∙ ap (λ ts. having place w tuples ++ ts) one

having_other : (place w : ℕ) (tuples : List Tuple) (t : Tuple) → has_at t place w ≡ false → having place w (tuples ++ t ∷ []) ≡ having place w tuples
having_other place w tuples t known =
    let one : having place w (t ∷ []) ≡ [] = rw known refl in
    filter-append (λ (u : Tuple). has_at u place w) tuples (t ∷ []) ∙ ap (λ ts. having place w tuples ++ ts) one ∙ append-nil (having place w tuples)

-- the tuple has v at the place
has_this : (t : Tuple) (place v w : ℕ) → place < length t → v ≡ slice_index t place → w ≡ v → has_at t place w ≡ true
has_this t place v w low is same = has_at_value t place w low ∙ eq-eqb (slice_index t place) w (sym (same ∙ is))

has_no_other : (t : Tuple) (place v w : ℕ) → place < length t → v ≡ slice_index t place → (w ≡ v → ⊥) → has_at t place w ≡ false
has_no_other t place v w low is other = has_at_value t place w low ∙ ne_eqb (slice_index t place) w (λ e. other (sym (is ∙ e)))

-- ---- groups

pub groups_past : (place : ℕ) (tuples : List Tuple) (t : Tuple) (groups : List (List Tuple)) → length t ≤ place → AreGroups place tuples groups → AreGroups place (tuples ++ t ∷ []) groups
groups_past place tuples t groups past so_far = λ w small. so_far w small ∙ sym (having_other place w tuples t (has_at_past t place w past))

pub groups_more : (place : ℕ) (tuples : List Tuple) (t : Tuple) (groups : List (List Tuple)) (v : ℕ) → place < length t → v ≡ slice_index t place → v < length groups
    → AreGroups place tuples groups → AreGroups place (tuples ++ t ∷ []) (slice_set groups v (group_of v groups ++ t ∷ []))
groups_more place tuples t groups v low is inside so_far = λ w small. elim (cases_eq w v) [
  | inl same ↦
      get_or-set_at groups v w (group_of v groups ++ t ∷ []) [] same inside
      ∙ ap (λ ts. ts ++ t ∷ []) (ap (λ u. group_of u groups) (sym same) ∙ so_far w small)
      ∙ sym (having_one place w tuples t (has_this t place v w low is same))
  | inr other ↦
      get_or-set_other groups v w (group_of v groups ++ t ∷ []) [] other
      ∙ so_far w small
      ∙ sym (having_other place w tuples t (has_no_other t place v w low is other))
]

-- ---- followers

occurs_more : (tuples : List Tuple) (t : Tuple) (place a : ℕ) → occurs (tuples ++ t ∷ []) place a ≡ (occurs tuples place a || has_at t place a)
occurs_more tuples t place a = list_any-append (λ (u : Tuple). has_at u place a) tuples (t ∷ []) ∙ ap (λ b. occurs tuples place a || b) (sym (or_nothing (has_at t place a)))

pub followers_past : (place next : ℕ) (tuples : List Tuple) (t : Tuple) (sets : List (List ℕ)) → length t ≤ place → AreFollowers place next tuples sets → AreFollowers place next (tuples ++ t ∷ []) sets
followers_past place next tuples t sets past so_far = λ w a small. so_far w a small ∙ ap (λ ts. occurs ts next a) (sym (having_other place w tuples t (has_at_past t place w past)))

pub followers_more : (place next : ℕ) (tuples : List Tuple) (t : Tuple) (sets : List (List ℕ)) (v : ℕ) (set : List ℕ) → place < length t → v ≡ slice_index t place → v < length sets
    → ((a : ℕ) → has set a ≡ (has (get_or sets v []) a || has_at t next a))
    → AreFollowers place next tuples sets → AreFollowers place next (tuples ++ t ∷ []) (slice_set sets v set)
followers_more place next tuples t sets v set low is inside says so_far = λ w a small. elim (cases_eq w v) [
  | inl same ↦
      ap (λ s. has s a) (get_or-set_at sets v w set [] same inside)
      ∙ says a
      ∙ ap (λ b. b || has_at t next a) (ap (λ u. has (get_or sets u []) a) (sym same) ∙ so_far w a small)
      ∙ sym (ap (λ ts. occurs ts next a) (having_one place w tuples t (has_this t place v w low is same)) ∙ occurs_more (having place w tuples) t next a)
  | inr other ↦
      ap (λ s. has s a) (get_or-set_other sets v w set [] other)
      ∙ so_far w a small
      ∙ ap (λ ts. occurs ts next a) (sym (having_other place w tuples t (has_no_other t place v w low is other)))
]

-- each set is the same
pub each_set : (sets : List (List ℕ)) (set : List ℕ) (v : ℕ) → sets ≡ replicate value_limit set → v < value_limit → get_or sets v [] ≡ set
each_set sets set v is small = ap (λ ss. get_or ss v []) is ∙ get_or-replicate value_limit v set [] small

-- ---- one list of tuples more

pub each_last : (lists : List (List Tuple)) (tuples : List Tuple) (place a : ℕ) → occurs_in_each (lists ++ tuples ∷ []) place a ≡ (occurs_in_each lists place a && occurs tuples place a)
each_last lists tuples place a = list_all-append (λ ts. occurs ts place a) lists (tuples ∷ []) ∙ ap (λ b. occurs_in_each lists place a && b) (and_true (occurs tuples place a))

pub allowed_more : (place next : ℕ) (values : List ℕ) (lists : List (List Tuple)) (tuples : List Tuple) (before more after : List (List ℕ))
    → ((v a : ℕ) → v < value_limit → has (get_or after v []) a ≡ (has (get_or before v []) a && has (get_or more v []) a))
    → AreFollowers place next tuples more → AreAllowed place next values lists before → AreAllowed place next values (lists ++ tuples ∷ []) after
allowed_more place next values lists tuples before more after kept follow so_far = λ v a small.
    let each = occurs_in_each (map (having place v) lists) next a in
    let here = occurs (having place v tuples) next a in
    kept v a small
    ∙ (λ i. so_far v a small i && follow v a small i)
    ∙ and_assoc (has values a) each here
    ∙ ap (λ b. has values a && b) (sym (ap (λ ls. occurs_in_each ls next a) (map-append (having place v) lists (tuples ∷ [])) ∙ each_last (map (having place v) lists) (having place v tuples) next a))

-- ---- what loops go through

pub taken_more : {X : Type 0} (xs : List X) (n : ℕ) (x : X) → n < length xs → x ≡ get_or xs n x → take (n + 1) xs ≡ take n xs ++ x ∷ []
taken_more xs n x low is = take_more xs n x low ∙ ap (λ y. take n xs ++ y ∷ []) (sym is)

take_front : {X : Type 0} (xs rest : List X) → take (length xs) (xs ++ rest) ≡ xs
take_front [] rest = refl
take_front (x ∷ xs) rest = ap (λ ys. x ∷ ys) (take_front xs rest)

-- a slice of all that was there, written back
pub written_back : {X : Type 0} (n : ℕ) (xs rest : List X) → length xs ≡ n → take n (xs ++ rest) ≡ xs
written_back n xs rest long = ap (λ m. take m (xs ++ rest)) (sym long) ∙ take_front xs rest

-- ---- sets that are narrowed

-- the first n sets have what the others' have too, and the rest are as they were
pub record AreNarrowed (n : ℕ) (before others sets : List (List ℕ)) : Type 0 where
  pub long : length sets ≡ value_limit
  pub done : (v a : ℕ) → v < n → has (get_or sets v []) a ≡ (has (get_or before v []) a && has (get_or others v []) a)
  pub rest : (v : ℕ) → n ≤ v → get_or sets v [] ≡ get_or before v []

pub narrowed_more : (n : ℕ) (before others sets : List (List ℕ)) (set : List ℕ) → n < value_limit
    → ((a : ℕ) → has set a ≡ (has (get_or sets n []) a && has (get_or others n []) a))
    → AreNarrowed n before others sets → AreNarrowed (n + 1) before others (slice_set sets n set)
narrowed_more n before others sets set low says so_far = record {
  long = length-set sets n set ∙ so_far.long;
  done = λ v a small. elim (cases_eq v n) [
    | inl same ↦
        ap (λ s. has s a) (get_or-set_at sets n v set [] same (omega (arith, low, so_far.long)))
        ∙ says a
        ∙ (λ i. has (so_far.rest n (omega arith) i) a && has (get_or others n []) a)
        ∙ ap (λ u. has (get_or before u []) a && has (get_or others u []) a) (sym same)
    | inr other ↦ ap (λ s. has s a) (get_or-set_other sets n v set [] other) ∙ so_far.done v a (omega (arith, small, other))
  ];
  rest = λ v high. get_or-set_other sets n v set [] (λ e. let none : ⊥ = omega (arith, high, e) in none) ∙ so_far.rest v (omega (arith, high));
}
