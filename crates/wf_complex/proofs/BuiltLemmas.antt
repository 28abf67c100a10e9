-- What is built is the protocol complex of the definitions.
use Rattle.std.proofs.Common.{◌≡◌, ◌<◌, ℕ, zero, suc, ◌+◌, List, [], ◌∷◌, ◌++◌, Option, Some, None, map, flat_map, zip, length, get_or, slice_get, slice_index, All, sym, refl, ap, ◌∙◌, subst, arith}
use Rattle.std.specs.List.{AllByRecursion, enumerate_from}
use Rattle.std.proofs.Math.ListN as list
use Rattle.std.proofs.lemmas.List.{map-append, map-id, get_or-map, length-map}
use Rattle.std.proofs.lemmas.List.Elements.{recursion_from_All}
use Rattle.wf_model.specs.Lists.{distinct, below}
use Rattle.wf_model.specs.Simplex.{Simplex, processes_of}
use Rattle.wf_model.specs.Word.{Word}
use Rattle.wf_model.specs.View.{View, base, same_view, process_of}
use Rattle.wf_model.specs.Task.{Task, Rule, inputs, first_block}
use Rattle.wf_model.specs.Execution as model
use Rattle.wf_model.specs.Execution.{executions, last_views}
use Rattle.wf_model.specs.Points.{class, execution_points, points, Appearance, same_point, appearances_in, first_appearances}
use Rattle.wf_model.specs.Problem.{Constraint, number_of, constraint_of, problem_of}
use Rattle.wf_model.proofs.Lemmas.{by_place, last_processes, Apart, apart_distinct, map_same, weaker}
use Rattle.wf_complex.specs.Views.{view_at}
use Rattle.wf_complex.proofs.Ranked.{number_of-at}
use Rattle.wf_complex.specs.declared.layout.ExecutionSlot.{ExecutionSlot}
use Rattle.wf_complex.specs.Rounds.{views_at, leaves_of}
use Rattle.wf_complex.specs.Layout.{laid_out}
use Rattle.wf_complex.specs.Places.{firsts_at, part_of, processes_on, places_on}
use Rattle.wf_complex.specs.Classes.{class_by}
use Rattle.wf_complex.specs.Numbering.{same_at, first_places}
use Rattle.wf_complex.specs.ProtocolSeen.{scopes_seen}
use Rattle.wf_complex.proofs.Executions.{last_views-executions}
use Rattle.wf_complex.proofs.Cuts.{parts-map, last_views_cut, laid_simplices}
use Rattle.wf_complex.proofs.RuleAt.{rules_same, words_long}
use Rattle.wf_complex.proofs.DifferentViews.{distinct_by_place, IsOnce, same_by_number, apart_once, there, distinct_views}
use Rattle.std.proofs.lemmas.Simd.{map-map}

-- ---- lists side by side

zip-maps : {X Y Z : Type 0} (f : X → Y) (g : X → Z) (xs : List X) → zip (map f xs) (map g xs) ≡ map (λ x. (f x, g x)) xs
zip-maps f g [] = refl
zip-maps f g (x ∷ xs) = ap (λ ps. (f x, g x) ∷ ps) (zip-maps f g xs)

zipped_along : {X Y A B : Type 0} (a : X → List A) (b : X → List B) (f : Y → List A) (g : Y → List B) (xs : List X) (ys : List Y) → map a xs ≡ map f ys → map b xs ≡ map g ys →
    map (λ x. zip (a x) (b x)) xs ≡ map (λ y. zip (f y) (g y)) ys
zipped_along {X} {Y} {A} {B} a b f g xs ys firsts seconds =
    let joined : (List A × List B) → List (A × B) = λ p. zip p.0 p.1 in
    sym (map-map joined (λ x. (a x, b x)) xs)
    ∙ ap (map joined) (sym (zip-maps a b xs) ∙ (λ i. zip (firsts i) (seconds i)) ∙ zip-maps f g ys)
    ∙ map-map joined (λ y. (f y, g y)) ys

-- ---- execution by execution

processes_in : Option Rule → List ℕ
processes_in None = []
processes_in (Some rule) = processes_of rule.input

processes_at : (rules : List Rule) (n : ℕ) → processes_of (get_or (map (λ rule. rule.input) rules) n []) ≡ processes_in (slice_get rules n)
unfolding processes_in
processes_at [] n = refl
processes_at (rule ∷ rules) zero = refl
processes_at (rule ∷ rules) (suc n) = processes_at rules n

their_own : (t : Task) (r : ℕ) → AllByRecursion (λ x. map process_of (last_views x) ≡ processes_of x.rule.input) (executions t r)
their_own t r =
    weaker (λ (x : model.Execution). AllByRecursion (λ (w : Word). length w ≡ length x.rule.input) x.words) (λ x. map process_of (last_views x) ≡ processes_of x.rule.input) last_processes (executions t r) (words_long t r)

rules_there : (t : Task) (r : ℕ) → map (λ e. slice_get t.delta e.simplex) (laid_out (first_block t) r 0 0 (inputs t)) ≡ map (λ x. Some x.rule) (executions t r)
rules_there t r =
    sym (map-map (slice_get t.delta) (λ (e : ExecutionSlot). e.simplex) (laid_out (first_block t) r 0 0 (inputs t)))
    ∙ ap (map (slice_get t.delta)) (laid_simplices t r)
    ∙ rules_same t r

-- the processes of the executions are those of their last views
their_processes : (t : Task) (r : ℕ) → map (processes_on (inputs t)) (laid_out (first_block t) r 0 0 (inputs t)) ≡ map (λ x. map process_of (last_views x)) (executions t r)
unfolding processes_in
their_processes t r =
    let laid = laid_out (first_block t) r 0 0 (inputs t) in
    (λ i. map (λ (e : ExecutionSlot). processes_at t.delta e.simplex i) laid)
    ∙ sym (map-map processes_in (λ (e : ExecutionSlot). slice_get t.delta e.simplex) laid)
    ∙ ap (map processes_in) (rules_there t r)
    ∙ map-map processes_in (λ (x : model.Execution). Some x.rule) (executions t r)
    ∙ sym (map_same (λ (x : model.Execution). map process_of (last_views x)) (λ x. processes_of x.rule.input) (executions t r) (their_own t r))

abbrev at_appearance : Appearance → ℕ × ℕ
at_appearance a = (a.execution, a.process)

places_along : (t : Task) (inputs : List Simplex) (k : ℕ) (es : List ExecutionSlot) (xs : List model.Execution) → map (processes_on inputs) es ≡ map (λ x. map process_of (last_views x)) xs →
    flat_map (places_on inputs) (enumerate_from k es) ≡ map at_appearance (flat_map (appearances_in t) (enumerate_from k xs))
places_along t inputs k [] [] h = refl
places_along t inputs k [] (x ∷ xs) h = absurd (let none : ⊥ = cc in none)
places_along t inputs k (e ∷ es) [] h = absurd (let none : ⊥ = cc in none)
places_along t inputs k (e ∷ es) (x ∷ xs) h =
    let first : processes_on inputs e ≡ map process_of (last_views x) = cc in
    let rest : map (processes_on inputs) es ≡ map (λ y. map process_of (last_views y)) xs = cc in
    let head : places_on inputs (k, e) ≡ map at_appearance (appearances_in t (k, x)) =
    ap (map (λ c. (k, c))) first
    ∙ map-map (λ c. (k, c)) process_of (last_views x)
    ∙ sym (map-map at_appearance (λ v. record { point = class t v; execution = k; process = process_of v }) (last_views x)) in
    (λ i. head i ++ places_along t inputs (k + 1) es xs rest i)
    ∙ sym (map-append at_appearance (appearances_in t (k, x)) (flat_map (appearances_in t) (enumerate_from (k + 1) xs)))

points_along : (t : Task) (k : ℕ) (xs : List model.Execution) → map (λ (a : Appearance). a.point) (flat_map (appearances_in t) (enumerate_from k xs)) ≡ flat_map (execution_points t) xs
points_along t k [] = refl
points_along t k (x ∷ xs) =
    map-append (λ (a : Appearance). a.point) (appearances_in t (k, x)) (flat_map (appearances_in t) (enumerate_from (k + 1) xs))
    ∙ (λ i. map-map (λ (a : Appearance). a.point) (λ v. record { point = class t v; execution = k; process = process_of v }) (last_views x) i ++ points_along t (k + 1) xs i)

classes_joined : (t : Task) (xs : List model.Execution) → flat_map (execution_points t) xs ≡ map (class t) (flat_map last_views xs)
classes_joined t [] = refl
classes_joined t (x ∷ xs) = ap (λ vs. execution_points t x ++ vs) (classes_joined t xs) ∙ sym (map-append (class t) (last_views x) (flat_map last_views xs))

-- ---- what is built

module _ (t : Task) (r : ℕ) (table : List View) (lasts : List ℕ) (made : views_at table lasts ≡ flat_map (leaves_of (first_block t) r) (inputs t)) where
  all_lasts : flat_map last_views (executions t r) ≡ views_at table lasts
  all_lasts = last_views-executions t r ∙ sym made

  abbrev laid : List ExecutionSlot
  laid = laid_out (first_block t) r 0 0 (inputs t)

  cut : map (part_of (views_at table lasts)) laid ≡ map last_views (executions t r)
  cut = ap (λ vs. map (part_of vs) (laid_out (first_block t) r 0 0 (inputs t))) (sym all_lasts) ∙ last_views_cut t r

  pub view_count_is : length (distinct same_view (views_at table lasts)) ≡ length (distinct same_view (flat_map last_views (executions t r)))
  view_count_is = ap (λ vs. length (distinct same_view vs)) (sym all_lasts)

  module _ (grown : List View) (once : IsOnce grown) (cs : List ℕ) (within : All (λ k. k < length grown) cs) (classed : views_at grown cs ≡ map (class_by t.symmetric) (views_at table lasts))
      (firsts : List ℕ) (first : firsts ≡ first_places cs (length cs)) where
    all_classes : flat_map (execution_points t) (executions t r) ≡ views_at grown cs
    all_classes = classes_joined t (executions t r) ∙ ap (map (class t)) all_lasts ∙ sym classed

    abbrev point_views : List View
    point_views = views_at grown (map (λ j. slice_index cs j) firsts)

    pub points_are : point_views ≡ points t r
    points_are =
        ap (λ fs. views_at grown (map (λ j. slice_index cs j) fs)) first
        ∙ sym (distinct_views grown once cs within)
        ∙ ap (distinct same_view) (sym all_classes)

    -- ---- where points appear first

    abbrev appearances : List Appearance
    appearances = flat_map (appearances_in t) (enumerate_from 0 (executions t r))

    abbrev nowhere : Appearance
    nowhere = record { point = base 0 0; execution = 0; process = 0 }

    appearance_points : map (λ (a : Appearance). a.point) appearances ≡ views_at grown cs
    appearance_points = points_along t 0 (executions t r) ∙ all_classes

    length-appearances : length appearances ≡ length cs
    length-appearances = sym (length-map appearances (λ (a : Appearance). a.point)) ∙ ap length appearance_points ∙ length-map cs (view_at grown)

    point_there : (j : ℕ) → j < length cs → (get_or appearances j nowhere).point ≡ view_at grown (slice_index cs j)
    point_there j h =
        sym (list.get_or-map (λ (a : Appearance). a.point) appearances j nowhere)
        ∙ ap (λ vs. get_or vs j (base 0 0)) appearance_points
        ∙ get_or-map (view_at grown) cs j 0 (base 0 0) h

    agree : (i j : ℕ) → i < length cs → j < length cs → same_point (get_or appearances i nowhere) (get_or appearances j nowhere) ≡ same_at cs i j
    agree i j h k =
        (λ n. same_view (point_there i h n) (point_there j k n))
        ∙ same_by_number grown (apart_once grown once) (slice_index cs i) (slice_index cs j) (there grown once cs within i h) (there grown once cs within j k)

    appearing_first : first_appearances t r ≡ map (λ j. get_or appearances j nowhere) firsts
    appearing_first =
        ap (distinct same_point) (sym (by_place appearances nowhere))
        ∙ ap (λ n. distinct same_point (map (λ j. get_or appearances j nowhere) (below n))) length-appearances
        ∙ distinct_by_place (λ j. get_or appearances j nowhere) same_point cs agree
        ∙ ap (map (λ j. get_or appearances j nowhere)) (sym first)

    pub firsts_are : firsts_at (inputs t) laid firsts ≡ map (λ a. (a.execution, a.process)) (first_appearances t r)
    firsts_are =
        (λ i. map (λ j. get_or (places_along t (inputs t) 0 laid (executions t r) (their_processes t r) i) j (0, 0)) firsts)
        ∙ (λ i. map (λ j. list.get_or-map at_appearance appearances j nowhere i) firsts)
        ∙ sym (map-map at_appearance (λ j. get_or appearances j nowhere) firsts)
        ∙ ap (map at_appearance) (sym appearing_first)

    -- ---- the points of the executions

    module _ (numbers : List ℕ) (low : All (λ p. p < length firsts) numbers) (found : map (λ p. slice_index cs (slice_index firsts p)) numbers ≡ cs) where
      apart : Apart point_views
      apart = subst Apart (sym points_are) (apart_distinct (flat_map (execution_points t) (executions t r)))

      number_there : (p : ℕ) → p < length firsts → number_of point_views (view_at grown (slice_index cs (slice_index firsts p))) ≡ p
      number_there p h =
          let long : length (map (λ j. slice_index cs j) firsts) ≡ length firsts = length-map firsts (λ j. slice_index cs j) in
          let inside : p < length (map (λ j. slice_index cs j) firsts) = omega (arith, h, long) in
          let is : get_or point_views p (base 0 0) ≡ view_at grown (slice_index cs (slice_index firsts p)) =
          get_or-map (view_at grown) (map (λ j. slice_index cs j) firsts) p 0 (base 0 0) inside ∙ ap (view_at grown) (get_or-map (λ j. slice_index cs j) firsts p 0 0 h) in
          ap (number_of point_views) (sym is) ∙ number_of-at point_views p apart (omega (arith, inside, length-map (map (λ j. slice_index cs j) firsts) (view_at grown)))

      numbers_found : map (number_of point_views) (views_at grown cs) ≡ numbers
      numbers_found =
          ap (λ xs. map (number_of point_views) (views_at grown xs)) (sym found)
          ∙ ap (map (number_of point_views)) (map-map (view_at grown) (λ p. slice_index cs (slice_index firsts p)) numbers)
          ∙ map-map (number_of point_views) (λ p. view_at grown (slice_index cs (slice_index firsts p))) numbers
          ∙ map_same (λ p. number_of point_views (view_at grown (slice_index cs (slice_index firsts p)))) (λ p. p) numbers
          (weaker (λ p. p < length firsts) (λ p. number_of point_views (view_at grown (slice_index cs (slice_index firsts p))) ≡ p) number_there numbers (recursion_from_All (λ p. p < length firsts) numbers low))
          ∙ map-id numbers

      numbers_are : numbers ≡ map (λ v. number_of point_views (class t v)) (views_at table lasts)
      numbers_are =
          sym numbers_found
          ∙ ap (map (number_of point_views)) classed
          ∙ map-map (number_of point_views) (class t) (views_at table lasts)

      abbrev number : View → ℕ
      number v = number_of point_views (class t v)

      numbers_there : map (part_of numbers) laid ≡ map (λ x. map number (last_views x)) (executions t r)
      numbers_there =
          ap (λ ns. map (part_of ns) laid) numbers_are
          ∙ parts-map number (views_at table lasts) laid
          ∙ sym (map-map (map number) (part_of (views_at table lasts)) laid)
          ∙ ap (map (map number)) cut
          ∙ map-map (map number) last_views (executions t r)

      pub scopes_are : scopes_seen (inputs t) numbers laid ≡ map (λ k. k.scope) (problem_of t r).constraints
      scopes_are =
          zipped_along (processes_on (inputs t)) (part_of numbers) (λ x. map process_of (last_views x)) (λ x. map number (last_views x)) laid (executions t r) (their_processes t r) numbers_there
          ∙ (λ i. map (λ x. zip-maps process_of number (last_views x) i) (executions t r))
          ∙ (λ i. map (λ x. map (λ v. (process_of v, number_of (points_are i) (class t v))) (last_views x)) (executions t r))
          ∙ sym (map-map (λ (k : Constraint). k.scope) (constraint_of t (points t r)) (executions t r))
