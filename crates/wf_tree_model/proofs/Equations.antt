-- Equations of a simplex: with and without a participant the others decide values of theirs in the
-- same signed number of executions.
use Rattle.std.proofs.Common.{◌≡◌, ℕ, zero, suc, ◌+◌, ◌<◌, ◌≤◌, Bool, true, false, cond, List, [], ◌∷◌, map, fold, length, refl, sym, ap, ◌∙◌, arith}
use Rattle.std.specs.List.{remove}
use Rattle.std.proofs.lemmas.List.{length-map}
use Rattle.wf_model.specs.Lists.{lists_of}
use Rattle.wf_model.specs.Simplex.{Simplex, Vertex}
use Rattle.wf_model.specs.Word.{Word, words}
use Rattle.wf_model.specs.View.{View, base, base_views, round}
use Rattle.wf_model.specs.Points.{class}
use Rattle.wf_model.specs.Task.{Task, Tuple}
use Rattle.wf_tree_model.specs.Counting.Rules.{same_numbers}
use Rattle.wf_tree_model.specs.Counting.Signs.{is_even, keep, same_sign}
use Rattle.wf_tree_model.proofs.OfCounting.Lemmas.{marginal, nobody, over, keep_map, total_same}
use Rattle.wf_tree_model.specs.Balance.{Multiplier}
use Rattle.wf_tree_model.proofs.Alike.{decided_on}
use Rattle.wf_tree_model.proofs.Sides.{Part, executions_count}

-- ---- all but one

abbrev trues : ℕ → List Bool
trues zero = []
trues (suc n) = true ∷ trues n

abbrev pub others : ℕ → ℕ → List Bool
others zero i = []
others (suc n) zero = false ∷ trues n
others (suc n) (suc i) = true ∷ others n i

trues_long : (n : ℕ) → length (trues n) ≡ n
trues_long zero = refl
trues_long (suc n) = ap suc (trues_long n)

pub others_long : (n i : ℕ) → length (others n i) ≡ n
others_long zero i = refl
others_long (suc n) zero = ap suc (trues_long n)
others_long (suc n) (suc i) = ap suc (others_long n i)

keep_all : {X : Type 0} (n : ℕ) (xs : List X) → keep (trues n) xs ≡ xs
keep_all zero xs = refl
keep_all (suc n) [] = refl
keep_all (suc n) (x ∷ xs) = ap (λ ys. x ∷ ys) (keep_all n xs)

pub keep_others : {X : Type 0} (n i : ℕ) (xs : List X) → i < n → keep (others n i) xs ≡ remove xs i
keep_others zero i xs inside = absurd (let none : ⊥ = omega (arith, inside) in none)
keep_others (suc n) zero [] inside = refl
keep_others (suc n) zero (x ∷ xs) inside = keep_all n xs
keep_others (suc n) (suc i) [] inside = refl
keep_others (suc n) (suc i) (x ∷ xs) inside = ap (λ ys. x ∷ ys) (keep_others n i xs (omega (arith, inside)))

pub remove_map : {X Y : Type 0} (f : X → Y) (i : ℕ) (xs : List X) → remove (map f xs) i ≡ map f (remove xs i)
remove_map f i xs =
    let inside : i < suc i = omega arith in
    sym (keep_others (suc i) i (map f xs) inside) ∙ keep_map f (others (suc i) i) xs ∙ ap (map f) (keep_others (suc i) i xs inside)

-- ---- an equation

-- the tuples of a simplex where the others decide the values, and those of the others alone
abbrev pub with_it : Simplex → Multiplier → Part
with_it s x = record { positive = true; simplex = s; counts = λ tuple. cond (same_numbers x.others (remove tuple x.place)) x.weight 0 }

abbrev pub without_it : Simplex → Multiplier → Part
without_it s x = record { positive = false; simplex = remove s x.place; counts = λ tuple. cond (same_numbers x.others tuple) x.weight 0 }

module _ (t : Task) (r : ℕ) (m : View → ℕ) (s : Simplex) (x : Multiplier) (small : length s ≤ 4) (inside : x.place < length s) where
  -- what the views of the others count
  abbrev seen : Bool → List View → ℕ
  seen c vs = cond c (cond (same_numbers x.others (map m (map (class t) vs))) x.weight 0) 0

  abbrev mask : List Bool
  mask = others (length s) x.place

  abbrev face : Simplex
  face = remove s x.place

  counted_with : (b : Bool) → executions_count t r m b (with_it s x) ≡ over (λ c vs. seen c (keep mask vs)) b (length s) r (base_views s)
  counted_with b =
      let decides = λ (ws : List Word). fold round (base_views s) ws in
      total_same (λ ws. cond (same_sign b (is_even ws)) (cond (same_numbers x.others (remove (decided_on t m s ws) x.place)) x.weight 0) 0) (λ ws. seen (same_sign b (is_even ws)) (keep mask (decides ws))) (lists_of (words 1 (length s)) r)
      (λ ws. ap (λ tuple. cond (same_sign b (is_even ws)) (cond (same_numbers x.others tuple) x.weight 0) 0)
      (remove_map m x.place (map (class t) (decides ws))
      ∙ ap (map m) (remove_map (class t) x.place (decides ws) ∙ ap (map (class t)) (sym (keep_others (length s) x.place (decides ws) inside)))))

  face_views : keep mask (base_views s) ≡ base_views face
  face_views = keep_map (λ (v : Vertex). base v.0 v.1) mask s ∙ ap base_views (keep_others (length s) x.place s inside)

  pub equation : executions_count t r m true (with_it s x) + executions_count t r m false (without_it s x) ≡ executions_count t r m false (with_it s x) + executions_count t r m true (without_it s x)
  equation =
      let a = counted_with true in
      let b = counted_with false in
      let views = face_views in
      let some : length (keep mask (base_views s)) ≡ length face = ap length views ∙ length-map face _ in
      let both = marginal r seen mask (base_views s) (length s) (length face) small (others_long (length s) x.place) (length-map s _) some in
      let c = ap (over seen true (length face) r) views in
      let d = ap (over seen false (length face) r) views in
      omega (arith, a, b, both, c, d)

  -- a vertex counts as often as its multiplier says
  pub vertex_equation : length s ≡ 1 → length x.others + 1 ≡ length s → executions_count t r m true (with_it s x) ≡ executions_count t r m false (with_it s x) + x.weight
  vertex_equation one long =
      let none : face ≡ [] = only s x.place one inside in
      let e = equation in
      let c = ap (λ (u : Simplex). over seen true (length u) r (base_views u)) none ∙ nobody seen true r in
      let d = ap (λ (u : Simplex). over seen false (length u) r (base_views u)) none ∙ nobody seen false r in
      let w = ap (λ y. cond (same_numbers y []) x.weight 0) (empty x.others (omega (arith, one, long))) in
      omega (arith, e, c, d, w)
    where
      empty : (y : Tuple) → length y ≡ 0 → y ≡ []
      empty [] h = refl
      empty (a ∷ y) h = absurd (let bad : ⊥ = omega (arith, h) in bad)

      only : (u : Simplex) (i : ℕ) → length u ≡ 1 → i < length u → remove u i ≡ []
      only [] i h low = absurd (let bad : ⊥ = omega (arith, h) in bad)
      only (v ∷ []) zero h low = refl
      only (v ∷ []) (suc i) h low = absurd (let bad : ⊥ = omega (arith, low) in bad)
      only (v ∷ w ∷ u) i h low = absurd (let bad : ⊥ = omega (arith, h) in bad)
