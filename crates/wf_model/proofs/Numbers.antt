-- The numbers of the points: solutions by number listed again, and where points appear first.
use Rattle.std.proofs.Common.{◌≡◌, ℕ, ◌+◌, Bool, true, false, not, ◌⊎◌, List, [], ◌∷◌, ◌++◌, map, filter, flat_map, length, slice_index, sym, refl, ap, ◌∙◌, subst, inl, inr}
use Rattle.std.specs.List.{AllByRecursion, enumerate_from}
use Rattle.std.proofs.lemmas.Bool.{cases_Bool, both_ways, not-true, false_from_ne_true}
use Rattle.std.proofs.lemmas.List.{map-append}
use Rattle.wf_model.specs.Lists.{distinct, IsBelow}
use Rattle.wf_model.specs.View.{View, same_view, process_of}
use Rattle.wf_model.specs.Task.{Task}
use Rattle.wf_model.specs.Execution.{Execution, executions, last_views}
use Rattle.wf_model.specs.Points.{class, execution_points, points, Appearance, appearances_in, first_appearances}
use Rattle.wf_model.specs.DecisionMap.{IsLeast, listed}
use Rattle.wf_model.specs.Problem.{number_of, problem_of, IsLeastSolution}
use Rattle.wf_model.proofs.MapsAreSolutions.{same_itself, same_is, weaker, by_number, listed_solves, solution_decides}
use Rattle.wf_model.proofs.Headline.{each_filter}

-- ---- the points are different views

-- each view differs from all later ones
abbrev pub Apart : List View → Type 0
Apart [] = Unit {0}
Apart (v ∷ vs) = AllByRecursion (λ w. same_view v w ≡ false) vs × Apart vs

each_passes : {X : Type 0} (test : X → Bool) (xs : List X) → AllByRecursion (λ x. test x ≡ true) (filter test xs)
each_passes test [] = tt
each_passes test (x ∷ xs) =
    elim (cases_Bool (test x)) [ inl pass ↦ rw pass (pass, each_passes test xs) | inr fail ↦ rw fail (each_passes test xs) ]

apart_filter : (test : View → Bool) (vs : List View) → Apart vs → Apart (filter test vs)
apart_filter test [] h = tt
apart_filter test (v ∷ vs) h =
    elim (cases_Bool (test v)) [
      | inl pass ↦ rw pass (each_filter (λ w. same_view v w ≡ false) test vs h.0, apart_filter test vs h.1)
      | inr fail ↦ rw fail (apart_filter test vs h.1)
    ]

pub apart_distinct : (vs : List View) → Apart (distinct same_view vs)
apart_distinct [] = tt
apart_distinct (v ∷ vs) =
    let test : View → Bool = λ w. not (same_view v w) in (
      weaker (λ w. test w ≡ true) (λ w. same_view v w ≡ false) (λ w h. not-true (same_view v w) h) (filter test (distinct same_view vs)) (each_passes test (distinct same_view vs)),
      apart_filter test (distinct same_view vs) (apart_distinct vs),
    )

-- no view differs one way only
pub other_way : (v w : View) → same_view v w ≡ false → same_view w v ≡ false
other_way v w h = false_from_ne_true (same_view w v) (λ same. both_ways (same_view v w) h (subst (λ x. same_view v x ≡ true) (sym (same_is w v same)) (same_itself v)))

pub map_same : {X Y : Type 0} (f g : X → Y) (xs : List X) → AllByRecursion (λ x. f x ≡ g x) xs → map f xs ≡ map g xs
map_same f g [] h = refl
map_same f g (x ∷ xs) h = λ i. h.0 i ∷ map_same f g xs h.1 i

-- reading the values by the numbers of the points gives the values again
read_by_number : (ps : List View) (values : List ℕ) → Apart ps → length values ≡ length ps → map (λ v. slice_index values (number_of ps v)) ps ≡ values
read_by_number [] [] apart long = refl
read_by_number [] (x ∷ values) apart long = absurd (let none : ⊥ = cc in none)
read_by_number (p ∷ ps) [] apart long = absurd (let none : ⊥ = cc in none)
read_by_number (p ∷ ps) (x ∷ values) apart long =
    let first : slice_index (x ∷ values) (number_of (p ∷ ps) p) ≡ x = rw (same_itself p) refl in
    let shifted = weaker (λ w. same_view p w ≡ false) (λ w. slice_index (x ∷ values) (number_of (p ∷ ps) w) ≡ slice_index values (number_of ps w)) (λ w h. rw (other_way p w h) refl) ps apart.0 in
    let rest = map_same (λ w. slice_index (x ∷ values) (number_of (p ∷ ps) w)) (λ w. slice_index values (number_of ps w)) ps shifted in
    let same : length values ≡ length ps = cc in
    λ i. first i ∷ (rest ∙ read_by_number ps values apart.1 same) i

-- a solution is the list of the map that it is
pub listed_by_number : (t : Task) (r : ℕ) (values : List ℕ) → length values ≡ length (points t r) → listed t r (by_number t r values) ≡ values
listed_by_number t r values long = read_by_number (points t r) values (apart_distinct (flat_map (execution_points t) (executions t r))) long

-- the least solution is the least decision map
pub least_map : (t : Task) (r : ℕ) (values : List ℕ) → IsLeastSolution (problem_of t r) values → IsLeast t r (by_number t r values)
least_map t r values is = record {
  decides = solution_decides t r values is.solves;
  least = λ other decides. subst (λ list. (list ≡ listed t r other) ⊎ IsBelow list (listed t r other)) (sym (listed_by_number t r values is.solves.long)) (is.least (listed t r other) (listed_solves t r other decides));
}

-- ---- where points appear first

map_filter : {X Y : Type 0} (f : X → Y) (test : Y → Bool) (xs : List X) → map f (filter (λ x. test (f x)) xs) ≡ filter test (map f xs)
map_filter f test [] = refl
map_filter f test (x ∷ xs) =
    elim (cases_Bool (test (f x))) [ inl pass ↦ rw pass (ap (λ ys. f x ∷ ys) (map_filter f test xs)) | inr fail ↦ rw fail (map_filter f test xs) ]

pub map_distinct : {X Y : Type 0} (f : X → Y) (same : Y → Y → Bool) (xs : List X) → map f (distinct (λ x y. same (f x) (f y)) xs) ≡ distinct same (map f xs)
map_distinct f same [] = refl
map_distinct f same (x ∷ xs) =
    ap (λ ys. f x ∷ ys) (map_filter f (λ y. not (same (f x) y)) (distinct (λ x y. same (f x) (f y)) xs) ∙ ap (filter (λ y. not (same (f x) y))) (map_distinct f same xs))

points_in : (t : Task) (n : ℕ) (vs : List View) → map (λ (a : Appearance). a.point) (map (λ v. record { point = class t v; execution = n; process = process_of v }) vs) ≡ map (class t) vs
points_in t n [] = refl
points_in t n (v ∷ vs) = ap (λ ps. class t v ∷ ps) (points_in t n vs)

appearing : (t : Task) (n : ℕ) (es : List Execution) → map (λ (a : Appearance). a.point) (flat_map (appearances_in t) (enumerate_from n es)) ≡ flat_map (execution_points t) es
appearing t n [] = refl
appearing t n (e ∷ es) =
    map-append (λ (a : Appearance). a.point) (appearances_in t (n, e)) (flat_map (appearances_in t) (enumerate_from (n + 1) es))
    ∙ (λ i. points_in t n (last_views e) i ++ appearing t (n + 1) es i)

pub appearances_points : (t : Task) (r : ℕ) → map (λ a. a.point) (first_appearances t r) ≡ points t r
appearances_points t r =
    map_distinct (λ (a : Appearance). a.point) same_view (flat_map (appearances_in t) (enumerate_from 0 (executions t r)))
    ∙ ap (distinct same_view) (appearing t 0 (executions t r))
