-- The value of a lifted map at a point is that of the map at the point that it goes on from.
use Rattle.std.proofs.Common.{◌≡◌, ℕ, zero, suc, ◌+◌, ◌-◌, ◌<◌, ◌≤◌, ◌==◌, true, false, List, [], ◌∷◌, ◌++◌, map, flat_map, fold, take, length, get_or, Some, slice_get, slice_index, refl, sym, ap, ◌∙◌, subst, arith, eq-eqb}
use Rattle.std.specs.List.{AllByRecursion, enumerate_from, slice_index_or}
use Rattle.std.proofs.lemmas.Bool.{ne_eqb}
use Rattle.std.proofs.lemmas.List.{length-map, map-append}
use Rattle.std.proofs.Math.Seq.{take-suc}
use Rattle.std.proofs.lemmas.List.Elements.{recursion_from_All}
use Rattle.std.proofs.lemmas.Option.{slice_get_within}
use Rattle.wf_model.specs.Simplex.{is_simplex}
use Rattle.wf_model.specs.Limits.{most_executions}
use Rattle.wf_model.specs.Word.{Word}
use Rattle.wf_model.specs.Task.{Task, Rule, IsSimplexWithin, inputs, first_block, largest_value}
use Rattle.wf_model.specs.View.{View, base, base_views, round, process_of}
use Rattle.wf_model.specs.Execution.{Execution, executions, executions_on, last_views}
use Rattle.wf_model.specs.Points.{class, execution_points, points, Appearance, same_point, appearances_in, first_appearances}
use Rattle.wf_model.specs.DecisionMap.{listed}
use Rattle.wf_model.specs.Problem.{number_of, constraint_of, problem_of}
use Rattle.wf_model.proofs.Lemmas.{each_at, Ascends, Among, weaker, value_at_number, number_below, classes_are_points, each_flat, each_map, each_of_map, each_append, each_distinct, appearances_points, inputs_within, last_processes}
use Rattle.wf_complex.specs.Protocol.{Built, IsProtocol, point_in, simplices_of}
use Rattle.wf_complex.proofs.Lemmas.{got, as_many_executions}
use Rattle.wf_report_trim.specs.Lift.{point_before, lifted, lifted_by}
use Rattle.wf_report_trim.specs.declared.stretch.Stretch.{Stretch}
use Rattle.wf_report_trim.specs.Stretches.{GoesOn, stretches, earlier}
use Rattle.wf_report_trim.proofs.Executions.{StandsBefore, stands_before}
use Rattle.wf_report_trim.proofs.Lifts.{map_twice, stands_at_first}
use Rattle.wf_report_trim.proofs.OwnViews.{Stands, stands_after, before_round}
use Rattle.wf_report_trim.proofs.Places.{each_placed, as_many_numbers, each_numbered, there_within, of_mapped, in_mapped}

-- ---- the point of so many rounds before

abbrev pub before_by : Task → ℕ → View → View
before_by t zero v = v
before_by t (suc k) v = point_before t (before_by t k v)

pub lifted_by_is : (t : Task) (k : ℕ) (m : View → ℕ) (v : View) → lifted_by t k m v ≡ m (before_by t k v)
lifted_by_is t zero m v = refl
lifted_by_is t (suc k) m v = lifted_by_is t k (lifted t m) v

map_itself : {X : Type 0} (xs : List X) → map (λ x. x) xs ≡ xs
map_itself [] = refl
map_itself (x ∷ xs) = ap (λ ys. x ∷ ys) (map_itself xs)

-- the points of so many rounds before are those of the views that the rounds start from
kept_by : (t : Task) (n : ℕ) (ws : List Word) (old : List View) → AllByRecursion (λ w. length w ≡ n) ws → Stands n old →
    map (before_by t (length ws)) (map (class t) (fold round old ws)) ≡ map (class t) old
kept_by t n [] old long stands = map_itself (map (class t) old)
kept_by t n (w ∷ ws) old long stands =
    sym (map_twice (point_before t) (before_by t (length ws)) (map (class t) (fold round (round old w) ws)))
    ∙ ap (map (point_before t)) (kept_by t n ws (round old w) long.1 (stands_after n w old long.0 stands))
    ∙ before_round t w old (long.0 ∙ sym stands.long) stands.ascends

stand_after : (n : ℕ) (ws : List Word) (old : List View) → AllByRecursion (λ w. length w ≡ n) ws → Stands n old → Stands n (fold round old ws)
stand_after n [] old long stands = stands
stand_after n (w ∷ ws) old long stands = stand_after n ws (round old w) long.1 (stands_after n w old long.0 stands)

folded : (us ws : List Word) (old : List View) → fold round old (us ++ ws) ≡ fold round (fold round old us) ws
folded [] ws old = refl
folded (u ∷ us) ws old = folded us ws (round old u)

-- ---- where a point appears

-- an execution and a place in it with this view, whose class and process these are
pub record Appears (t : Task) (r : ℕ) (a : Appearance) : Type 0 where
  pub execution : Execution
  pub there : slice_get (executions t r) a.execution ≡ Some execution
  pub place : ℕ
  pub view : View
  pub view_there : slice_get (last_views execution) place ≡ Some view
  pub point : a.point ≡ class t view
  pub process : a.process ≡ process_of view

each_appears : (t : Task) (r : ℕ) → AllByRecursion (Appears t r) (first_appearances t r)
each_appears t r =
    each_distinct (Appears t r) same_point (flat_map (appearances_in t) (enumerate_from 0 (executions t r)))
    (each_flat (Appears t r) (appearances_in t) (enumerate_from 0 (executions t r))
    (weaker (λ (at : ℕ × Execution). slice_get (executions t r) at.0 ≡ Some at.1) (λ at. AllByRecursion (Appears t r) (appearances_in t at))
    (λ at is. each_map (Appears t r) (λ v. record { point = class t v; execution = at.0; process = process_of v }) (last_views at.1)
    (weaker (λ v. (i : ℕ) × (slice_get (last_views at.1) i ≡ Some v)) (λ v. Appears t r (record { point = class t v; execution = at.0; process = process_of v }))
    (λ v h. record { execution = at.1; there = is; place = h.0; view = v; view_there = h.1; point = refl; process = refl })
    (last_views at.1) (each_placed (last_views at.1))))
    (enumerate_from 0 (executions t r)) (each_numbered (executions t r) [] (executions t r) 0 refl refl)))

-- ---- the point of a process

-- the process at a place of an execution has the point there
point_at_place : (f : View → ℕ) (vs : List View) (i : ℕ) (w : View) → Ascends (map process_of vs) → slice_get vs i ≡ Some w →
    point_in (process_of w) (map (λ v. (process_of v, f v)) vs) ≡ Some (f w)
point_at_place f [] i w ascends h = absurd (let none : ⊥ = cc in none)
point_at_place f (v ∷ vs) zero w ascends h =
    let same : v ≡ w = cc in
    subst (λ z. point_in (process_of z) (map (λ v. (process_of v, f v)) (v ∷ vs)) ≡ Some (f z)) same (rw (eq-eqb (process_of v) (process_of v) refl) refl)
point_at_place f (v ∷ vs) (suc i) w ascends h =
    let less : process_of v < process_of w = each_at (λ p. process_of v < p) (map process_of vs) i (process_of w) ascends.0 (in_mapped process_of vs i w h) in
    let apart : (process_of v == process_of w) ≡ false = ne_eqb (process_of v) (process_of w) (λ e. let none : ⊥ = omega (arith, less, e) in none) in
    rw apart (point_at_place f vs i w ascends.1 h)

-- ---- a point, and the one that it goes on from

-- a point goes on from another, at which any map has the value that it has at
-- the point when it is lifted
pub record GoesOnWithValue (t : Task) (r k : ℕ) (b a : Built) (v : ℕ) (point : View) : Type 0 where
  pub on : GoesOn b a (stretches (first_block t) r k 0 0 (inputs t)) v
  pub value : (m : View → ℕ) → lifted_by t k m point ≡ slice_index (listed t r m) on.earlier_point

-- the view of the same place in the execution that another goes on from
record EarlierView (t : Task) (k : ℕ) (rule : Rule) (first : List Word) (place : ℕ) (view : View) : Type 0 where
  pub earlier_view : View
  pub there : slice_get (last_views (record { rule = rule; words = first })) place ≡ Some earlier_view
  pub same_point : class t earlier_view ≡ before_by t k (class t view)
  pub same_process : process_of view ≡ process_of earlier_view
  pub ascends : Ascends (map process_of (last_views (record { rule = rule; words = first })))

view_before : (t : Task) (k : ℕ) (rule : Rule) (first last : List Word) (place : ℕ) (view : View) → is_simplex rule.input ≡ true → length last ≡ k →
    AllByRecursion (λ w. length w ≡ length rule.input) first → AllByRecursion (λ w. length w ≡ length rule.input) last →
    slice_get (last_views (record { rule = rule; words = first ++ last })) place ≡ Some view → EarlierView t k rule first place view
view_before t k rule first last place view simplex many first_long last_long there =
    let n = length rule.input in
    let long_before : Execution = record { rule = rule; words = first } in
    let long_after : Execution = record { rule = rule; words = first ++ last } in
    let stands : Stands n (last_views long_before) = stand_after n first (base_views rule.input) first_long (stands_at_first rule.input simplex) in
    let kept : map (before_by t (length last)) (map (class t) (fold round (last_views long_before) last)) ≡ map (class t) (last_views long_before) =
    kept_by t n last (last_views long_before) last_long stands in
    let kept_all : map (before_by t k) (map (class t) (last_views long_after)) ≡ map (class t) (last_views long_before) =
    (λ i. map (before_by t (sym many i)) (map (class t) (folded first last (base_views rule.input) i))) ∙ kept in
    let at : slice_get (map (class t) (last_views long_before)) place ≡ Some (before_by t k (class t view)) =
    ap (λ vs. slice_get vs place) (sym kept_all)
    ∙ in_mapped (before_by t k) (map (class t) (last_views long_after)) place (class t view) (in_mapped (class t) (last_views long_after) place view there) in
    let (w, w_there, w_is) = of_mapped (class t) (last_views long_before) place (before_by t k (class t view)) at in
    let processes : map process_of (last_views long_after) ≡ map process_of (last_views long_before) =
    last_processes long_after (each_append (λ w. length w ≡ n) first last first_long last_long) ∙ sym (last_processes long_before first_long) in
    let same : Some (process_of view) ≡ Some (process_of w) =
    sym (in_mapped process_of (last_views long_after) place view there) ∙ ap (λ ps. slice_get ps place) processes
    ∙ in_mapped process_of (last_views long_before) place w w_there in record {
      earlier_view = w;
      there = w_there;
      same_point = w_is;
      same_process = cc;
      ascends = stands.ascends;
    }

goes_on_from : (t : Task) (r k : ℕ) (b a : Built) → IsProtocol t r b → IsProtocol t (r + k) a → length (executions t r) ≤ most_executions → (v : ℕ) (at : Appearance) (x : Appears t (r + k) at) (s : ℕ) →
    slice_get a.simplices at.execution ≡ Some s → slice_get (first_appearances t (r + k)) v ≡ Some at → StandsBefore t r k at.execution s x.execution → GoesOnWithValue t r k b a v at.point
goes_on_from t r k b a before after few v at x s on there h =
    let ps = points t r in
    let old : Execution = record { rule = h.rule; words = h.first } in
    let within : IsSimplexWithin t.processes (largest_value t.least_block) h.rule.input =
    each_at (λ (rule : Rule). IsSimplexWithin t.processes (largest_value t.least_block) rule.input) t.delta s h.rule
    (each_of_map (IsSimplexWithin t.processes (largest_value t.least_block)) (λ rule. rule.input) t.delta (recursion_from_All _ (inputs t) (inputs_within t before.task))) h.rule_there in
    let w : EarlierView t k h.rule h.first x.place x.view =
    view_before t k h.rule h.first h.last x.place x.view within.is_simplex h.last_many h.first_long h.last_long (subst (λ (e : Execution). slice_get (last_views e) x.place ≡ Some x.view) h.is x.view_there) in
    let e = earlier h.stretch at.execution in
    let number : View → ℕ = λ v. number_of ps (class t v) in
    let scope = (constraint_of t ps old).scope in
    let scope_there : slice_get b.scopes e ≡ Some scope =
    ap (λ ss. slice_get ss e) before.scopes_are
    ∙ in_mapped (λ k. k.scope) (problem_of t r).constraints e (constraint_of t ps old) (in_mapped (constraint_of t ps) (executions t r) e old h.there) in
    let among : Among ps (class t w.earlier_view) =
    each_at (Among ps) (execution_points t old) x.place (class t w.earlier_view)
    (each_at (λ e. AllByRecursion (Among ps) (execution_points t e)) (executions t r) e old (classes_are_points t r) h.there)
    (in_mapped (class t) (last_views old) x.place w.earlier_view w.there) in
    let process_is : process_of w.earlier_view ≡ at.process = sym w.same_process ∙ sym x.process in
    let part : point_in (process_of w.earlier_view) scope ≡ Some (number w.earlier_view) = point_at_place number (last_views old) x.place w.earlier_view w.ascends w.there in record {
      on = record {
        execution = at.execution;
        process = at.process;
        simplex = s;
        stretch = h.stretch;
        earlier_point = number w.earlier_view;
        is_there = subst (λ ps. v < length ps) (sym (after.points_are ∙ sym (appearances_points t (r + k)))) (omega (arith, slice_get_within (first_appearances t (r + k)) v at there, length-map (first_appearances t (r + k)) (λ a. a.point)));
        appears = ap (λ fs. slice_get fs v) after.firsts_are ∙ in_mapped (λ (a : Appearance). (a.execution, a.process)) (first_appearances t (r + k)) v at there;
        within = omega (arith, slice_get_within (executions t (r + k)) at.execution x.execution x.there, as_many_executions t (r + k) a after);
        on = on;
        stretches_there = h.stretch_there;
        begun = h.begun;
        some = h.some;
        inside = slice_get_within b.scopes e scope scope_there;
        few = omega (arith, few, slice_get_within (executions t r) e old h.there);
        takes_part = ap (point_in at.process) (got b.scopes e scope [] scope_there) ∙ subst (λ c. point_in c scope ≡ Some (number w.earlier_view)) process_is part;
        is_point = subst (λ ps. number w.earlier_view < length ps) (sym before.points_are) (number_below ps (class t w.earlier_view) among);
      };
      value = λ m. ap (lifted_by t k m) x.point ∙ lifted_by_is t k m (class t x.view) ∙ ap m (sym w.same_point) ∙ sym (value_at_number m ps (class t w.earlier_view) among);
    }

module _ (t : Task) (r k : ℕ) (b a : Built) (before : IsProtocol t r b) (after : IsProtocol t (r + k) a) (few : length (executions t r) ≤ most_executions) where
  number_on : (e : ℕ) (x : Execution) → slice_get (executions t (r + k)) e ≡ Some x → (s : ℕ) × (slice_get a.simplices e ≡ Some s)
  number_on e x there =
      let as_many : length (simplices_of t (r + k)) ≡ length (executions t (r + k)) = as_many_numbers (executions_on (first_block t) (r + k)) t.delta 0 in
      let low : e < length a.simplices = omega (arith, slice_get_within (executions t (r + k)) e x there, ap length after.simplices_are, as_many) in
      there_within a.simplices e low

  goes_on_at : (v : ℕ) (at : Appearance) → slice_get (first_appearances t (r + k)) v ≡ Some at → GoesOnWithValue t r k b a v at.point
  goes_on_at v at there =
      let x : Appears t (r + k) at = each_at (Appears t (r + k)) (first_appearances t (r + k)) v at (each_appears t (r + k)) there in
      let number = number_on at.execution x.execution x.there in
      goes_on_from t r k b a before after few v at x number.0 number.1 there
      (stands_before t r k at.execution number.0 x.execution x.there (subst (λ ns. slice_get ns at.execution ≡ Some number.0) after.simplices_are number.1))

  pub goes_on : (v : ℕ) (d : View) → v < length (points t (r + k)) → GoesOnWithValue t r k b a v (get_or (points t (r + k)) v d)
  goes_on v d low =
      let as_points = appearances_points t (r + k) in
      let inside : v < length (first_appearances t (r + k)) = omega (arith, low, ap length as_points, length-map (first_appearances t (r + k)) (λ a. a.point)) in
      let at = there_within (first_appearances t (r + k)) v inside in
      let is : get_or (points t (r + k)) v d ≡ at.0.point =
      got (points t (r + k)) v at.0.point d (ap (λ ps. slice_get ps v) (sym as_points) ∙ in_mapped (λ a. a.point) (first_appearances t (r + k)) v at.0 at.1) in
      subst (GoesOnWithValue t r k b a v) (sym is) (goes_on_at v at.0 at.1)

-- ---- while the points are gone through

module _ (t : Task) (r k more : ℕ) (b a : Built) (list : List Stretch) (before : IsProtocol t r b) (few : length (executions t r) ≤ most_executions) (after : IsProtocol t more a) (is : more ≡ r + k)
    (are : list ≡ stretches (first_block t) r k 0 0 (inputs t)) (v : ℕ) (low : v < length a.points) where
  with_value : GoesOnWithValue t r k b a v (get_or (points t (r + k)) v (base 0 0))
  with_value =
      goes_on t r k b a before (subst (λ n. IsProtocol t n a) is after) few v (base 0 0)
      (subst (λ ps. v < length ps) (after.points_are ∙ ap (points t) is) low)

  pub goes_on_in : GoesOn b a list v
  goes_on_in = subst (λ list. GoesOn b a list v) (sym are) with_value.on

  pub lifted_there : (values : List ℕ) (x : ℕ) → ((from : GoesOn b a list v) → x ≡ slice_index values from.earlier_point) →
      (m : View → ℕ) → listed t r m ≡ values → lifted_by t k m (get_or (points t (r + k)) v (base 0 0)) ≡ x
  lifted_there values x from m listed_is =
      with_value.value m
      ∙ (λ i. slice_index (listed_is i) with_value.on.earlier_point)
      ∙ sym (subst (λ list. ((from : GoesOn b a list v) → x ≡ slice_index values from.earlier_point)) are from with_value.on)

-- the lifted values at the first n points
abbrev pub LiftedTo : Task → ℕ → ℕ → ℕ → List ℕ → List ℕ → Type 0
LiftedTo t r k n values after = (m : View → ℕ) → listed t r m ≡ values → map (lifted_by t k m) (take n (points t (r + k))) ≡ after

pub lifted_more : (t : Task) (r k n : ℕ) (values after : List ℕ) (x : ℕ) → n < length (points t (r + k)) → LiftedTo t r k n values after →
    ((m : View → ℕ) → listed t r m ≡ values → lifted_by t k m (get_or (points t (r + k)) n (base 0 0)) ≡ x) → LiftedTo t r k (n + 1) values (after ++ x ∷ [])
lifted_more t r k n values after x low so_far here m is =
    let ps = points t (r + k) in
    let more : take (n + 1) ps ≡ take n ps ++ get_or ps n (base 0 0) ∷ [] = let next : n + 1 ≡ suc n = omega arith in ap (λ n. take n ps) next ∙ take-suc ps n (base 0 0) low in
    ap (map (lifted_by t k m)) more
    ∙ map-append (lifted_by t k m) (take n ps) (get_or ps n (base 0 0) ∷ [])
    ∙ (λ i. so_far m is i ++ here m is i ∷ [])

-- ---- what is looked up

-- what stands where the point appears first is what it goes on from
pub record Looked (b a : Built) (list : List Stretch) (v : ℕ) (at : ℕ × ℕ) (s : ℕ) (d : Stretch) (from : GoesOn b a list v) : Type 0 where
  pub execution : at.0 ≡ from.execution
  pub number : s ≡ from.simplex
  pub stretch : slice_index_or list s d ≡ from.stretch
  pub place : earlier (slice_index_or list s d) at.0 ≡ earlier from.stretch from.execution
  pub point : (e : ℕ) → e ≡ earlier (slice_index_or list s d) at.0 → point_in at.1 (slice_index_or b.scopes e []) ≡ Some from.earlier_point

pub looked : (b a : Built) (list : List Stretch) (v : ℕ) (at : ℕ × ℕ) (s : ℕ) (d : Stretch) → slice_get a.firsts v ≡ Some at → slice_get a.simplices at.0 ≡ Some s → (from : GoesOn b a list v) → Looked b a list v at s d from
looked b a list v at s d there on from =
    let same : at ≡ (from.execution, from.process) = let wrapped : Some at ≡ Some (from.execution, from.process) = sym there ∙ from.appears in cc in
    let execution : at.0 ≡ from.execution = ap (λ p. p.0) same in
    let number : s ≡ from.simplex = let wrapped : Some s ≡ Some from.simplex = sym on ∙ ap (slice_get a.simplices) execution ∙ from.on in cc in
    let stretch : slice_index_or list s d ≡ from.stretch = ap (λ n. slice_index_or list n d) number ∙ got list from.simplex from.stretch d from.stretches_there in
    let place : earlier (slice_index_or list s d) at.0 ≡ earlier from.stretch from.execution = λ i. earlier (stretch i) (execution i) in
    record {
      execution = execution;
      number = number;
      stretch = stretch;
      place = place;
      point = λ e is. (λ i. point_in (same i).1 (slice_index_or b.scopes ((is ∙ place) i) [])) ∙ from.takes_part;
    }
