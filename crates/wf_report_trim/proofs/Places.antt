-- The places of elements in joined lists.
use Rattle.std.proofs.Common.{◌≡◌, ℕ, zero, suc, ◌+◌, ◌*◌, ◌<◌, ◌⊎◌, List, [], ◌∷◌, ◌++◌, map, flat_map, take, length, inl, inr, Some, option_map, slice_get, refl, sym, ap, ◌∙◌, subst, arith, length-append}
use Rattle.std.specs.List.{AllByRecursion, enumerate_from}
use Rattle.std.proofs.lemmas.List.{length-map}
use Rattle.std.proofs.lemmas.Option.{slice_get-map, slice_get_within}
use Rattle.wf_model.proofs.Lemmas.{weaker}
use Rattle.wf_complex.proofs.Lemmas.{suc_times}

module _ {X : Type 0} where
  pub get_left : (xs ys : List X) (i : ℕ) → i < length xs → slice_get (xs ++ ys) i ≡ slice_get xs i
  get_left [] ys i h = absurd (let none : ⊥ = omega (arith, h) in none)
  get_left (x ∷ xs) ys zero h = refl
  get_left (x ∷ xs) ys (suc i) h = get_left xs ys i (omega (arith, h))

  pub get_right : (xs ys : List X) (i : ℕ) → slice_get (xs ++ ys) (length xs + i) ≡ slice_get ys i
  get_right [] ys i = let e : 0 + i ≡ i = omega arith in ap (slice_get ys) e
  get_right (x ∷ xs) ys i =
      let e : suc (length xs) + i ≡ suc (length xs + i) = omega arith in
      ap (slice_get (x ∷ (xs ++ ys))) e ∙ get_right xs ys i

  -- what stands in joined lists stands in the first, or in the second
  pub which_side : (xs ys : List X) (i : ℕ) (z : X) → slice_get (xs ++ ys) i ≡ Some z →
      ((i < length xs) × (slice_get xs i ≡ Some z)) ⊎ ((j : ℕ) × (i ≡ length xs + j) × (slice_get ys j ≡ Some z))
  which_side [] ys i z h = inr (i, omega arith, h)
  which_side (x ∷ xs) ys zero z h = inl (omega arith, h)
  which_side (x ∷ xs) ys (suc i) z h =
      elim (which_side xs ys i z h) [
        | inl (low, there) ↦ inl (omega (arith, low), there)
        | inr (j, is, there) ↦ inr (j, omega (arith, is), there)
      ]

  -- each element has a place
  pub each_placed : (xs : List X) → AllByRecursion (λ x. (i : ℕ) × (slice_get xs i ≡ Some x)) xs
  each_placed [] = tt
  each_placed (x ∷ xs) =
      ((0, refl), weaker (λ z. (i : ℕ) × (slice_get xs i ≡ Some z)) (λ z. (i : ℕ) × (slice_get (x ∷ xs) i ≡ Some z)) (λ z h. (suc h.0, h.1)) xs (each_placed xs))

  pub there_within : (xs : List X) (i : ℕ) → i < length xs → (x : X) × (slice_get xs i ≡ Some x)
  there_within [] i h = absurd (let none : ⊥ = omega (arith, h) in none)
  there_within (x ∷ xs) zero h = (x, refl)
  there_within (x ∷ xs) (suc i) h = there_within xs i (omega (arith, h))

  at_front : (front : List X) (x : X) (back : List X) → slice_get (front ++ x ∷ back) (length front) ≡ Some x
  at_front [] x back = refl
  at_front (f ∷ front) x back = at_front front x back

  -- each element of a list stands at its number
  pub each_numbered : (all front back : List X) (n : ℕ) → n ≡ length front → all ≡ front ++ back → AllByRecursion (λ at. slice_get all at.0 ≡ Some at.1) (enumerate_from n back)
  each_numbered all front [] n long is = tt
  each_numbered all front (x ∷ back) n long is = (
    (λ i. slice_get (is i) (long i)) ∙ at_front front x back,
    each_numbered all (front ++ x ∷ []) back (n + 1) (omega (arith, long, length-append front (x ∷ []))) (is ∙ sym (joined front back x)),
  )
    where
      joined : (front back : List X) (x : X) → (front ++ x ∷ []) ++ back ≡ front ++ x ∷ back
      joined [] back x = refl
      joined (f ∷ front) back x = ap (λ xs. f ∷ xs) (joined front back x)

-- what stands in a mapped list
pub of_mapped : {X Y : Type 0} (f : X → Y) (xs : List X) (i : ℕ) (y : Y) → slice_get (map f xs) i ≡ Some y → (x : X) × (slice_get xs i ≡ Some x) × (f x ≡ y)
of_mapped f [] i y h = absurd (let none : ⊥ = cc in none)
of_mapped f (x ∷ xs) zero y h = (x, refl, cc)
of_mapped f (x ∷ xs) (suc i) y h = of_mapped f xs i y h

pub in_mapped : {X Y : Type 0} (f : X → Y) (xs : List X) (i : ℕ) (x : X) → slice_get xs i ≡ Some x → slice_get (map f xs) i ≡ Some (f x)
in_mapped f xs i x h = slice_get-map f xs i ∙ ap (option_map f) h

-- ---- lists that begin with one of some elements and go on as one of some lists

module _ {X : Type 0} (ys : List (List X)) where
  abbrev pub begun_by : X → List (List X)
  begun_by x = map (λ rest. x ∷ rest) ys

  -- such a list, at its place
  pub record Begun (all : List X) (o : ℕ) (ws : List X) : Type 0 where
    pub first : X
    pub rest : List X
    pub first_place : ℕ
    pub rest_place : ℕ
    pub is : ws ≡ first ∷ rest
    pub place : o ≡ first_place * length ys + rest_place
    pub first_there : slice_get all first_place ≡ Some first
    pub rest_there : slice_get ys rest_place ≡ Some rest

  pub begun : (all : List X) (o : ℕ) (ws : List X) → slice_get (flat_map begun_by all) o ≡ Some ws → Begun all o ws
  begun [] o ws h = absurd (let none : ⊥ = cc in none)
  begun (x ∷ all) o ws h =
      elim (which_side (begun_by x) (flat_map begun_by all) o ws h) [
        | inl (low, there) ↦
            let (rest, rest_there, same) = of_mapped (λ rest. x ∷ rest) ys o ws there in
            record {
              first = x;
              rest = rest;
              first_place = 0;
              rest_place = o;
              is = sym same;
              place = omega arith;
              first_there = refl;
              rest_there = rest_there;
            }
        | inr (j, is, there) ↦
            let later = begun all j ws there in
            let long : length (begun_by x) ≡ length ys = length-map ys (λ rest. x ∷ rest) in
            record {
              first = later.first;
              rest = later.rest;
              first_place = suc later.first_place;
              rest_place = later.rest_place;
              is = later.is;
              place = omega (arith, is, long, later.place, suc_times later.first_place (length ys));
              first_there = later.first_there;
              rest_there = later.rest_there;
            }
      ]

  pub begins : (all : List X) (first_place rest_place : ℕ) (x : X) (rest : List X) → slice_get all first_place ≡ Some x → slice_get ys rest_place ≡ Some rest →
      slice_get (flat_map begun_by all) (first_place * length ys + rest_place) ≡ Some (x ∷ rest)
  begins [] p q x rest h k = absurd (let none : ⊥ = cc in none)
  begins (a ∷ all) zero q x rest h k =
      let long : length (begun_by a) ≡ length ys = length-map ys (λ rest. a ∷ rest) in
      let low : q < length (begun_by a) = omega (arith, long, slice_get_within ys q rest k) in
      let at : 0 * length ys + q ≡ q = omega arith in
      let same : a ≡ x = cc in
      ap (slice_get (flat_map begun_by (a ∷ all))) at ∙ get_left (begun_by a) (flat_map begun_by all) q low ∙ in_mapped (λ rest. a ∷ rest) ys q rest k ∙ ap (λ z. Some (z ∷ rest)) same
  begins (a ∷ all) (suc p) q x rest h k =
      let long : length (begun_by a) ≡ length ys = length-map ys (λ rest. a ∷ rest) in
      let at : suc p * length ys + q ≡ length (begun_by a) + (p * length ys + q) = omega (arith, long, suc_times p (length ys)) in
      ap (slice_get (flat_map begun_by (a ∷ all))) at ∙ get_right (begun_by a) (flat_map begun_by all) (p * length ys + q) ∙ begins all p q x rest h k

-- ---- lists that are made of the elements of another, one after another

module _ {X Y : Type 0} (f : X → List Y) where
  -- the element of a number, and the place among the list that is made of it
  pub record MadeOf (xs : List X) (n e s : ℕ) : Type 0 where
    pub number : ℕ
    pub element : X
    pub place : ℕ
    pub numbered : s ≡ n + number
    pub there : slice_get xs number ≡ Some element
    pub at : e ≡ length (flat_map f (take number xs)) + place
    pub within : place < length (f element)

  pub made_of : (xs : List X) (n e s : ℕ) → slice_get (flat_map (λ at. map (λ y. at.0) (f at.1)) (enumerate_from n xs)) e ≡ Some s → MadeOf xs n e s
  made_of [] n e s h = absurd (let none : ⊥ = cc in none)
  made_of (x ∷ xs) n e s h =
      let long : length (map (λ (y : Y). n) (f x)) ≡ length (f x) = length-map (f x) (λ y. n) in
      elim (which_side (map (λ y. n) (f x)) (flat_map (λ at. map (λ y. at.0) (f at.1)) (enumerate_from (n + 1) xs)) e s h) [
        | inl (low, there) ↦
            let (y, y_there, same) = of_mapped (λ y. n) (f x) e s there in
            record {
              number = 0;
              element = x;
              place = e;
              numbered = omega (arith, same);
              there = refl;
              at = omega arith;
              within = omega (arith, low, long);
            }
        | inr (j, is, there) ↦
            let later = made_of xs (n + 1) j s there in
            record {
              number = suc later.number;
              element = later.element;
              place = later.place;
              numbered = omega (arith, later.numbered);
              there = later.there;
              at = omega (arith, is, long, later.at, length-append (f x) (flat_map f (take later.number xs)));
              within = later.within;
            }
      ]

  pub as_many_numbers : (xs : List X) (n : ℕ) → length (flat_map (λ at. map (λ y. at.0) (f at.1)) (enumerate_from n xs)) ≡ length (flat_map f xs)
  as_many_numbers [] n = refl
  as_many_numbers (x ∷ xs) n =
      length-append (map (λ y. n) (f x)) (flat_map (λ at. map (λ y. at.0) (f at.1)) (enumerate_from (n + 1) xs))
      ∙ (λ i. length-map (f x) (λ y. n) i + as_many_numbers xs (n + 1) i)
      ∙ sym (length-append (f x) (flat_map f xs))

  pub made_there : (xs : List X) (number : ℕ) (x : X) (place : ℕ) → slice_get xs number ≡ Some x → place < length (f x) →
      slice_get (flat_map f xs) (length (flat_map f (take number xs)) + place) ≡ slice_get (f x) place
  made_there [] number x place h low = absurd (let none : ⊥ = cc in none)
  made_there (a ∷ xs) zero x place h low =
      let at : 0 + place ≡ place = omega arith in
      let same : a ≡ x = cc in
      ap (slice_get (flat_map f (a ∷ xs))) at ∙ get_left (f a) (flat_map f xs) place (subst (λ z. place < length (f z)) (sym same) low) ∙ ap (λ z. slice_get (f z) place) same
  made_there (a ∷ xs) (suc number) x place h low =
      let at : length (f a ++ flat_map f (take number xs)) + place ≡ length (f a) + (length (flat_map f (take number xs)) + place) =
      omega (arith, length-append (f a) (flat_map f (take number xs))) in
      ap (slice_get (flat_map f (a ∷ xs))) at ∙ get_right (f a) (flat_map f xs) (length (flat_map f (take number xs)) + place) ∙ made_there xs number x place h low
